use Rattle.std.proofs.Common.{map}
use Rattle.ide_solver.proofs.Refused.{wants-memory}
use Rattle.ide_solver.proofs.Results.{if-ok}
use Rattle.ide_solver.proofs.solver.values_of.Goals as goal

pub returns-clause-solved : goal.returns-clause-solved
returns-clause-solved g c =
    let values = c.values_alone in
    if-ok values.result values.ensures.program values.ensures.graph values.ensures.roots values.ensures.best c.in_ok-closed.ensures.leads

pub returns-clause-refused : goal.returns-clause-refused
returns-clause-refused g c = wants-memory c.args.text.now (map (λ name. name.now) c.args.roots.now) c.values_alone.result c.values_alone.ensures.refused
