use Rattle.ide_slot_store.proofs.ImageParts.{commands_stay_below, image_parts_make, parts_lead_up}
use Rattle.ide_store.specs.Table.{Analysis}
use Rattle.ide_slot_store.proofs.parts.image_parts_make_checkpoints.Goals as goal

pub returns-clause-below : goal.returns-clause-below
returns-clause-below g c =
    let a : Analysis g.row.P-F.Denot g.row.P-L.Denot = record {
      lattice = g.P.L.Lattice.algebra;
      functions = g.P.F.EdgeFn.edge;
      targets = g.P.Problem.targets;
      same = g.P.F.PartialEq.eq;
      proper = g.P.F.Wire.proper;
      form = g.P.F.Wire.form;
    } in
    commands_stay_below a

pub returns-clause-lead : goal.returns-clause-lead
returns-clause-lead g c =
    let a : Analysis g.row.P-F.Denot g.row.P-L.Denot = record {
      lattice = g.P.L.Lattice.algebra;
      functions = g.P.F.EdgeFn.edge;
      targets = g.P.Problem.targets;
      same = g.P.F.PartialEq.eq;
      proper = g.P.F.Wire.proper;
      form = g.P.F.Wire.form;
    } in
    parts_lead_up a

pub returns-clause-make : goal.returns-clause-make
returns-clause-make g c =
    let a : Analysis g.row.P-F.Denot g.row.P-L.Denot = record {
      lattice = g.P.L.Lattice.algebra;
      functions = g.P.F.EdgeFn.edge;
      targets = g.P.Problem.targets;
      same = g.P.F.PartialEq.eq;
      proper = g.P.F.Wire.proper;
      form = g.P.F.Wire.form;
    } in
    image_parts_make a
