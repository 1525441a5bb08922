use Rattle.ide_store.proofs.Machine.{slot_machine_is_exact}
use Rattle.ide_store.proofs.TwoDisks.{two_disks_keep}
use Rattle.ide_store.proofs.TwoDisksBegin.{two_disks_begin, two_disks_go_on}
use Rattle.ide_store.proofs.TwoDisksPlans.{checkpoints_can_be_planned, slots_give_back}
use Rattle.ide_store.specs.Table.{Analysis, forms_of}
use Rattle.ide_store.specs.TwoDisksLaws.{slots_of}
use Rattle.ide_store.proofs.laws.two_disks_are_a_store.Goals as goal

pub returns-clause-keep : goal.returns-clause-keep
returns-clause-keep g c =
    let a : Analysis g.row.P-F.Denot g.row.P-L.Denot = record {
      lattice = g.P.L.Lattice.algebra;
      functions = g.P.F.EdgeFn.edge;
      targets = g.P.Problem.targets;
      same = g.P.F.PartialEq.eq;
      proper = g.P.F.Wire.proper;
      form = g.P.F.Wire.form;
    } in
    two_disks_keep (slots_of a)

pub returns-clause-begin : goal.returns-clause-begin
returns-clause-begin g c =
    let a : Analysis g.row.P-F.Denot g.row.P-L.Denot = record {
      lattice = g.P.L.Lattice.algebra;
      functions = g.P.F.EdgeFn.edge;
      targets = g.P.Problem.targets;
      same = g.P.F.PartialEq.eq;
      proper = g.P.F.Wire.proper;
      form = g.P.F.Wire.form;
    } in
    two_disks_begin (slots_of a)

pub returns-clause-go_on : goal.returns-clause-go_on
returns-clause-go_on g c =
    let a : Analysis g.row.P-F.Denot g.row.P-L.Denot = record {
      lattice = g.P.L.Lattice.algebra;
      functions = g.P.F.EdgeFn.edge;
      targets = g.P.Problem.targets;
      same = g.P.F.PartialEq.eq;
      proper = g.P.F.Wire.proper;
      form = g.P.F.Wire.form;
    } in
    two_disks_go_on (slots_of a)

pub returns-clause-give_back : goal.returns-clause-give_back
returns-clause-give_back g c =
    let a : Analysis g.row.P-F.Denot g.row.P-L.Denot = record {
      lattice = g.P.L.Lattice.algebra;
      functions = g.P.F.EdgeFn.edge;
      targets = g.P.Problem.targets;
      same = g.P.F.PartialEq.eq;
      proper = g.P.F.Wire.proper;
      form = g.P.F.Wire.form;
    } in
    slots_give_back (slots_of a)

pub returns-clause-plan : goal.returns-clause-plan
returns-clause-plan g c =
    let a : Analysis g.row.P-F.Denot g.row.P-L.Denot = record {
      lattice = g.P.L.Lattice.algebra;
      functions = g.P.F.EdgeFn.edge;
      targets = g.P.Problem.targets;
      same = g.P.F.PartialEq.eq;
      proper = g.P.F.Wire.proper;
      form = g.P.F.Wire.form;
    } in
    checkpoints_can_be_planned (slots_of a) (slot_machine_is_exact g.P.F.EdgeFn.edge g.P.F.PartialEq.eq (forms_of a) g.met.P.F.Wire.prefix_free)
