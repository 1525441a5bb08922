use Rattle.ide_batch.proofs.Refusals.{loads, free_after}
use Rattle.ide_batch.proofs.replay.apply_load.Goals as goal

pub returns-clause-loaded : goal.returns-clause-loaded
returns-clause-loaded g c =
    loads g.P.F.EdgeFn.edge g.P.Problem.targets c.load_spelled.result c.args.text.now c.in-Ok.program c.args.core.now c.load_spelled.new.self c.in-Ok.ensures.parsed c.load_spelled.ensures.loads

pub returns-clause-free : goal.returns-clause-free
returns-clause-free g c =
    free_after g.P.F.EdgeFn.edge g.P.Problem.targets c.load_spelled.result c.in-Ok.program c.args.core.now c.load_spelled.new.self c.requires c.load_spelled.ensures.loads c.load_spelled.ensures.unchanged
