use Rattle.ide_steps.proofs.States.{state-nothing}
use Rattle.ide_steps.proofs.machine.Core.new.Goals as goal

pub returns-clause-state : goal.returns-clause-state
returns-clause-state g c =
    state-nothing g.P.F.EdgeFn.edge g.P.Problem.targets c.new-2.result.table c.new-2.result.pile c.new-2.ensures.entries c.new-2.ensures.pending c.new-2.ensures.claims
