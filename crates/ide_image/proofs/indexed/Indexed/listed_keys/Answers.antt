use Rattle.std.proofs.Common.{◌<◌, ◌++◌, ◌∷◌, [], length, sym, ap, ◌∙◌, arith, None, Some}
use Rattle.std.proofs.lemmas.List.{append-nil}
use Rattle.std.specs.Map.{keys_of}
use Rattle.std.proofs.Common.{take}
use Rattle.ide_image.specs.Indexed.{entries_in}
use Rattle.ide_image.proofs.Columns.{listed-next}
use Rattle.ide_image.proofs.indexed.Indexed.listed_keys.Goals.{in-Some+in_ok-push, in_default}
use Rattle.ide_image.proofs.indexed.Indexed.listed_keys.Goals as goal

pub loop-cell-preserved : goal.loop-cell-preserved
loop-cell-preserved g c =
    let cells = c.args.self.now.cells in
    let cell = c.loop-cell.cell in
    let there : cell < length cells = omega (arith, c.loop-cell-test.true, c.cell_count-cell-end.ensures.count) in
    elim c.match-entry_at.branch [
      | in-Some+in_ok-push w ↦
          ap (λ v. v.items) w.keys-is ∙ w.in_ok-push.ensures.items
          ∙ ap (λ xs. xs ++ w.in-Some.entry.0 ∷ []) c.loop-cell.invariant
          ∙ sym (listed-next cells cell (Some w.in-Some.entry) there w.in-Some.ensures.entry)
      | in_default w ↦
          ap (λ v. v.items) w.keys-is ∙ c.loop-cell.invariant
          ∙ sym (listed-next cells cell None there w.in_default.ensures.entry ∙ append-nil (keys_of (entries_in (take cell cells))))
    ]
