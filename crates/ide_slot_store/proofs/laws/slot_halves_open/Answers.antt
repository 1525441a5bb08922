use Rattle.ide_store.proofs.Runs.{places_answer}
use Rattle.ide_store.specs.Table.{Analysis}
use Rattle.ide_slot_store.proofs.Openings.{slot_halves_open}
use Rattle.ide_slot_store.proofs.laws.slot_halves_open.Goals as goal

pub returns : goal.returns
returns g c =
    let a : Analysis g.row.P-F.Denot g.row.P-L.Denot = record {
      lattice = g.P.L.Lattice.algebra;
      functions = g.P.F.EdgeFn.edge;
      targets = g.P.Problem.targets;
      same = g.P.F.PartialEq.eq;
      proper = g.P.F.Wire.proper;
      form = g.P.F.Wire.form;
    } in
    slot_halves_open a g.D.Disk (places_answer a c.every_run_answers.ensures c.every_run_answers_on_two_disks.ensures)
    (λ tag. c.slot_journals_write_stores.ensures)
