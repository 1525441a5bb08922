use Rattle.std.proofs.Common.{◌≤◌, vec_capacity}
use Rattle.ide_disk.proofs.Leaves.{IsLeaving}
use Rattle.ide_disk.proofs.leaving.leave_all.Given as goal

abbrev pub invariant-loop-call : goal.invariant-loop-call
invariant-loop-call l =
    IsLeaving l.leave l.calls l.written l.fn.bytes.items l.call-index l.from l.syncs (vec_capacity l.bytes) l.bytes.items
    × (vec_capacity l.fn.bytes ≤ vec_capacity l.bytes)
