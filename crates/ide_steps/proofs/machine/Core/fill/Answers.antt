use Rattle.std.proofs.Common.{rules}
use Rattle.ide_steps.proofs.Running.{owes-of}
use Rattle.ide_steps.proofs.machine.Core.fill.Goals as goal

pub returns-clause-parts : goal.returns-clause-parts
returns-clause-parts g c =
    rw (← c.self.view_is)
    (owes-of g.P.F.EdgeFn.edge g.P.Problem.targets c.fill_parts.result c.deref.result.now _ c.args.key c.fill_parts.new.parts (search rules)
    (c.self.invariant c.deref.result.now (search rules)).0 c.fill_parts.ensures.parts)

pub fill_parts-requires-clause-place : goal.fill_parts-requires-clause-place
fill_parts-requires-clause-place g c = (c.self.invariant c.deref.result.now (search rules)).1.pending c.args.key (search rules)
