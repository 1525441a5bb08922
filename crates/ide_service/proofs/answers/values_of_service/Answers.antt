use Rattle.ide_store.specs.Table.{Analysis}
use Rattle.ide_service.specs.Served.{none_filled, none_frozen}
use Rattle.ide_service.proofs.Loops.{if_err}
use Rattle.ide_service.proofs.Served.{answers_told}
use Rattle.ide_service.proofs.answers.values_of_service.Given.{Over}
use Rattle.ide_service.proofs.answers.values_of_service.Goals as goal

-- the analysis of the store
abbrev kept : (g : Over) → Analysis g.row.P-F.Denot g.row.P-L.Denot
kept g = record {
  lattice = g.P.L.Lattice.algebra;
  functions = g.P.F.EdgeFn.edge;
  targets = g.P.Problem.targets;
  same = g.P.F.PartialEq.eq;
  proper = g.P.F.Wire.proper;
  form = g.P.F.Wire.form;
}

pub returns-in-Ok-clause-best : goal.returns-in-Ok-clause-best
returns-in-Ok-clause-best g c told =
    let frozen = c.in-Ok.ensures in
    answers_told (kept g) c.in-Ok.closed c.values_of_runs_are_best.ensures (frozen.run told) (frozen.graph told) c.values.result c.values.ensures.program
    c.values.ensures.graph c.values.ensures.roots c.values.ensures.best

pub returns-in-Ok-clause-refused : goal.returns-in-Ok-clause-refused
returns-in-Ok-clause-refused g c = if_err c.values.result _ _ (λ why stop. none_filled stop) c.values.ensures.refused

pub returns-in-Err-clause-refused : goal.returns-in-Err-clause-refused
returns-in-Err-clause-refused g c = none_frozen c.in-Err.ensures.refused
