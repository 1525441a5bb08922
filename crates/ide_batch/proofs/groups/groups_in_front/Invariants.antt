use Rattle.ide_batch.specs.Items.{functions_by}
use Rattle.ide_batch.proofs.GroupsRead.{ReadSoFar}
use Rattle.ide_batch.proofs.groups.groups_in_front.Given as goal

abbrev pub invariant-loop-taken : goal.invariant-loop-taken
invariant-loop-taken g l =
    ReadSoFar (functions_by g.F.Wire.proper g.F.Wire.form g.F.PartialEq.eq g.F.EdgeFn.edge.all_top) l._taken l.before l.items.items l.bytes l.rest
