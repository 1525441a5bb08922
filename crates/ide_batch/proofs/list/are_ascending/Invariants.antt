use Rattle.ide_batch.proofs.Ascending.{Adjacent}
use Rattle.ide_batch.proofs.list.are_ascending.Given as goal

abbrev pub invariant-loop-next : goal.invariant-loop-next
invariant-loop-next g l = Adjacent l.items l.next
