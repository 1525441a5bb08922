use Rattle.ide_store.specs.Table.{Analysis}
use Rattle.ide_slot_store.proofs.Runs.{slot_engines_stay_on_runs}
use Rattle.ide_slot_store.proofs.laws.slot_engines_stay_on_runs.Goals as goal

pub returns : goal.returns
returns g c =
    let a : Analysis g.row.P-F.Denot g.row.P-L.Denot = record {
      lattice = g.P.L.Lattice.algebra;
      functions = g.P.F.EdgeFn.edge;
      targets = g.P.Problem.targets;
      same = g.P.F.PartialEq.eq;
      proper = g.P.F.Wire.proper;
      form = g.P.F.Wire.form;
    } in
    slot_engines_stay_on_runs a
