use Rattle.ide_store.proofs.Adopted.{place_answers}
use Rattle.ide_store.specs.Places.{OnTwoDisks}
use Rattle.ide_store.specs.Table.{Analysis}
use Rattle.ide_store.proofs.laws.every_run_answers_on_two_disks.Goals as goal

pub returns : goal.returns
returns g c = λ tag.
    let a : Analysis g.row.P-F.Denot g.row.P-L.Denot = record {
      lattice = g.P.L.Lattice.algebra;
      functions = g.P.F.EdgeFn.edge;
      targets = g.P.Problem.targets;
      same = g.P.F.PartialEq.eq;
      proper = g.P.F.Wire.proper;
      form = g.P.F.Wire.form;
    } in
    place_answers a (record { exact = g.met.P.F.EdgeFn.exact; refl = g.met.P.F.Eq.laws.refl }) g.met.P.F.Wire.prefix_free
    c.programs_are_known.ensures
    (OnTwoDisks tag)
