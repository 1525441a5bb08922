use Rattle.ide_store.proofs.Machine.{slot_machine_is_exact}
use Rattle.ide_store.proofs.TwoDisks.{two_disks_keep}
use Rattle.ide_store.proofs.World.{every_run_recovers}
use Rattle.ide_store.specs.Table.{Analysis, forms_of}
use Rattle.ide_store.specs.TwoDisksLaws.{slots_of}
use Rattle.ide_store.proofs.laws.every_run_recovers_on_two_disks.Goals as goal

pub returns : goal.returns
returns g c = λ tag.
    let a : Analysis g.row.P-F.Denot g.row.P-L.Denot = record {
      lattice = g.P.L.Lattice.algebra;
      functions = g.P.F.EdgeFn.edge;
      targets = g.P.Problem.targets;
      same = g.P.F.PartialEq.eq;
      proper = g.P.F.Wire.proper;
      form = g.P.F.Wire.form;
    } in
    every_run_recovers (slots_of a)
    (slot_machine_is_exact g.P.F.EdgeFn.edge g.P.F.PartialEq.eq (forms_of a) g.met.P.F.Wire.prefix_free)
    (two_disks_keep (slots_of a) tag)
