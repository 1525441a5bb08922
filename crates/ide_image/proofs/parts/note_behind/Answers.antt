use Rattle.std.proofs.Common.{◌≡◌, ◌+◌, ◌-◌, false, subst, ap, ◌∙◌, arith, suc}
use Rattle.std.proofs.lemmas.Bool.Decides.{nat_tests}
use Rattle.std.specs.Prelude.{nat_eq}
use Rattle.ide_wire.specs.Key.{same_key}
use Rattle.ide_wire.specs.declared.key.Key.TheVariants.{Jump}
use Rattle.ide_image.specs.ChangeLog.{MayNote}
use Rattle.ide_image.specs.Changes.{absent_entry}
use Rattle.ide_image.specs.Indexed.{place_of_key}
use Rattle.ide_image.specs.Walk.{jump_behind}
use Rattle.ide_image.proofs.Walking.{behind-key, entered-more, listed-beside, notes-more}
use Rattle.ide_image.proofs.parts.note_behind.Goals as goal

pub loop-step-preserved : goal.loop-step-preserved
loop-step-preserved g c =
    let step = c.loop-step.step in
    let slot = c.args.first + step in
    let changes = c.loop-step.changes in
    let noted = c.note.new.self in
    let behind = jump_behind c.args.node c.args.from c.args.to in
    let key = Jump (c.args.node + 1 + step) c.args.from c.args.to in
    let is : behind (suc step) ≡ key = behind-key c.args.node c.args.from c.args.to step in
    let one : c.args.count - step ≡ c.args.count - (step + 1) + 1 = omega (arith, c.loop-step-test.true) in
    record {
      list = entered-more {F = g.row.F.Denot} c.args.changes.now.list changes.list noted.list behind key step c.loop-step.invariant.list is c.note.ensures.list;
      room = c.note.ensures.room (c.args.count - (step + 1)) (c.args.first + c.args.count)
          (subst (λ n. MayNote {F = g.row.F.Denot} n (c.args.first + c.args.count) changes) one c.loop-step.invariant.room);
      listed = λ n from less.
          let apart : nat_eq slot (c.args.first + n) ≡ false = grind (arith, nat_tests, from) in
          let other : same_key key (behind (suc n)) ≡ false = grind (arith, nat_tests, from) in
          listed-beside {F = g.row.F.Denot} changes noted slot (c.args.first + n) key (behind (suc n)) absent_entry
          c.note.ensures.marks c.note.ensures.list apart other
          (c.loop-step.invariant.listed n (omega (arith, from)) less);
      notes = λ indexed stands agree.
          notes-more {F = g.row.F.Denot} indexed changes noted key absent_entry slot
          (stands step c.loop-step-test.true ∙ ap (place_of_key indexed) is)
          c.note.ensures.marks c.note.ensures.list c.note.ensures.slots (c.loop-step.invariant.notes indexed stands agree);
    }
