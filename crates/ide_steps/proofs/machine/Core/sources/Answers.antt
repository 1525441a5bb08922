use Rattle.std.proofs.Common.{◌≡◌, ap, rules, subst}
use Rattle.ide_tasks.specs.Sources.{AreSourcesOf}
use Rattle.ide_steps.proofs.Lent.{lent-once}
use Rattle.ide_steps.proofs.States.{said-by}
use Rattle.ide_steps.proofs.machine.Core.sources.Goals as goal

-- by what is kept of the program that is loaded
pub returns-clause-once : goal.returns-clause-once
returns-clause-once g c =
    let loaded = c.deref-2.result.now in
    let kept = (c.self.invariant loaded (search rules)).0 in
    let same : loaded ≡ c.deref.result.now = search rules in
    let sources = subst (AreSourcesOf g.P.Problem.targets loaded.graph) (ap (λ l. l.sources) same) kept.inverse in
    let said = said-by _ _ kept.graphed in
    lent-once g.P.F.EdgeFn.edge g.P.Problem.targets g.met.P.Problem.lawful c.args.fact said.program loaded.graph said.edges c.edges_are_lawful.ensures
    c.args.call c.args.start c.over_call.result (c.over_call.ensures said.program said.graphed said.edges sources)
