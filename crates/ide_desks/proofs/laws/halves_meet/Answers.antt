use Rattle.ide_store.specs.Table.{Analysis}
use Rattle.ide_desks.proofs.Apart.{halves_meet}
use Rattle.ide_desks.proofs.laws.halves_meet.Goals as goal

pub returns : goal.returns
returns g c =
    let a : Analysis g.row.P-F.Denot g.row.P-L.Denot = record {
      lattice = g.P.L.Lattice.algebra;
      functions = g.P.F.EdgeFn.edge;
      targets = g.P.Problem.targets;
      same = g.P.F.PartialEq.eq;
      proper = g.P.F.Wire.proper;
      form = g.P.F.Wire.form;
    } in
    halves_meet a g.D.Disk c.two_disks_are_a_store.ensures.keep
