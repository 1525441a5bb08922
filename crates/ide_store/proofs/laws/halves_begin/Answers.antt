use Rattle.ide_store.specs.Table.{Analysis}
use Rattle.ide_store.proofs.Openings.{halves_begin}
use Rattle.ide_store.specs.Known.{Knows}
use Rattle.ide_store.proofs.laws.halves_begin.Goals as goal

pub returns : goal.returns
returns g c =
    let a : Analysis g.row.P-F.Denot g.row.P-L.Denot = record {
      lattice = g.P.L.Lattice.algebra;
      functions = g.P.F.EdgeFn.edge;
      targets = g.P.Problem.targets;
      same = g.P.F.PartialEq.eq;
      proper = g.P.F.Wire.proper;
      form = g.P.F.Wire.form;
    } in
    let knows : Knows a = c.analyses_are_known.ensures in
    halves_begin a knows
