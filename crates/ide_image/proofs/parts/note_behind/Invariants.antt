use Rattle.std.proofs.Common.{◌≡◌, ℕ, suc, ◌+◌, ◌-◌, ◌<◌, ◌≤◌}
use Rattle.std.specs.Option.{is_some}
use Rattle.ide_image.specs.ChangeLog.{MayNote, noted_at}
use Rattle.ide_image.specs.Notes.{noted}
use Rattle.ide_image.specs.Walk.{KeepsNotesFrom, jump_behind, with_entered}
use Rattle.ide_image.proofs.parts.note_behind.Given as goal

-- the first jumps are noted, and the others are noted exactly where their slots are marked
abbrev pub invariant-loop-step : goal.invariant-loop-step
invariant-loop-step g l = record {
  list : l.changes.list ≡ with_entered l.fn.changes.list (jump_behind l.fn.node l.fn.from l.fn.to) l.step;
  room : MayNote (l.fn.count - l.step) (l.fn.first + l.fn.count) l.changes;
  listed : (n : ℕ) → l.step ≤ n → n < l.fn.count
      → noted_at l.changes (l.fn.first + n) ≡ is_some (noted l.changes.list (jump_behind l.fn.node l.fn.from l.fn.to (suc n)));
  notes : KeepsNotesFrom l.fn.first (jump_behind l.fn.node l.fn.from l.fn.to) l.fn.count l.fn.changes l.changes;
}
