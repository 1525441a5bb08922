use Rattle.std.proofs.Common.{◌≡◌, false, true}
use Rattle.std.specs.Option.{is_some}
use Rattle.ide_store.specs.Draining.{DrainsOff, StaysOwed}
use Rattle.ide_store.specs.Table.{Analysis, KeepsRest}
use Rattle.ide_store.proofs.table.TableHalf.do_parts.Given as goal

-- the parts before this one are done, and the key waits still; where it does not seal, nothing was sealed
abbrev pub invariant-loop-part : goal.invariant-loop-part
invariant-loop-part g l =
    let a : Analysis g.row.P-F.Denot g.row.P-L.Denot = record {
      lattice = g.P.L.Lattice.algebra;
      functions = g.P.F.EdgeFn.edge;
      targets = g.P.Problem.targets;
      same = g.P.F.PartialEq.eq;
      proper = g.P.F.Wire.proper;
      form = g.P.F.Wire.form;
    } in
    DrainsOff a l.key l.parts l.part-index l.is_lowered l.initial.self l.self
    × StaysOwed l.key l.initial.self.core l.self.core
    × (is_some l.self.core.changes ≡ true)
    × (l.seals ≡ false → KeepsRest l.initial.self l.self)
