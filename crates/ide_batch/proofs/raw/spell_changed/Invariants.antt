use Rattle.std.proofs.Common.{◌≡◌, ◌++◌, List}
use Rattle.ide_batch.specs.Items.{Item, functions_by}
use Rattle.ide_batch.specs.Writing.{Holds}
use Rattle.ide_batch.proofs.raw.spell_changed.Given as goal

-- the writer has the items that have come, before those to come
abbrev pub invariant-loop-item : goal.invariant-loop-item
invariant-loop-item g l =
    (taken : List (Item g.row.F.Denot)) × (taken ++ l.item-iterator ≡ l.fn.changed)
    × Holds (functions_by g.F.Wire.proper g.F.Wire.form g.F.PartialEq.eq g.F.EdgeFn.edge.all_top) l.fn.version taken l.writer
