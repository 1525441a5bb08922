use Rattle.ide_store.specs.Table.{Analysis}
use Rattle.ide_store.specs.TwoDisksLaws.{slots_of}
use Rattle.ide_slot_store.proofs.Writing.{journals_write_two}
use Rattle.ide_slot_store.proofs.laws.slot_journals_write_stores.Goals as goal

pub returns : goal.returns
returns g c =
    let a : Analysis g.row.P-F.Denot g.row.P-L.Denot = record {
      lattice = g.P.L.Lattice.algebra;
      functions = g.P.F.EdgeFn.edge;
      targets = g.P.Problem.targets;
      same = g.P.F.PartialEq.eq;
      proper = g.P.F.Wire.proper;
      form = g.P.F.Wire.form;
    } in
    journals_write_two g.D.Disk (slots_of a)
