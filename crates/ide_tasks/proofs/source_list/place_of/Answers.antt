use Rattle.std.proofs.Common.{rules, ◌≡◌, ◌-◌, Some, List, ap, length, subst, sym, ◌∙◌}
use Rattle.std.specs.Prelude.{slice_get, vec_len}
use Rattle.ide_tasks.proofs.Told.{last-pushed}
use Rattle.ide_tasks.proofs.source_list.place_of.Goals as goal
use Rattle.ide_tasks.proofs.source_list.place_of.Goals.{then-not-is_last+in_ok-push, else-not-is_last}

-- the function is the last one: it was, or it was pushed
pub returns-in-Ok-clause-there : goal.returns-in-Ok-clause-there
returns-in-Ok-clause-there g c =
    let now = c.if-not-is_last.functions.items in
    let place : c.in-Ok.place ≡ length now - 1 = search rules in
    let last : slice_get now (length now - 1) ≡ Some c.args.function =
    elim c.if-not-is_last.branch [
      | then-not-is_last+in_ok-push w ↦ last-pushed c.args.functions.now.items now c.args.function (ap (λ v. v.items) w.functions-is ∙ w.in_ok-push.ensures.items)
      | else-not-is_last w ↦
          let was : slice_get c.deref.result.now (length c.deref.result.now - 1) ≡ Some c.args.function = c.is_last.ensures (search rules) in
          subst (λ (fs : List g.row.F.Denot). slice_get fs (length fs - 1) ≡ Some c.args.function) (c.deref.ensures.value ∙ ap (λ v. v.items) (sym w.functions-is)) was
    ] in
    ap (slice_get now) place ∙ last
