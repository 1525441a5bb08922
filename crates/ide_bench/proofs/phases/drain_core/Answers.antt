use Rattle.ide_bench.proofs.Rooted.{rooted_at_main}
use Rattle.ide_bench.proofs.phases.drain_core.Goals as goal

pub returns-in-Ok : goal.returns-in-Ok
returns-in-Ok c =
    rooted_at_main c.args.text.now c.in_ok-parse.field-0 c.in_ok-parse.ensures.parsed
    c.load.new.self c.root.new.self c.drain.new.self _ c.in-Ok.closed.roots.items
    c.in_ok-load.ensures.loads.graph c.in_ok-load.ensures.loads.edges c.in_ok-load.ensures.loads.roots c.in_ok-root.ensures.begun c.in_ok-tasks.ensures.goes
    c.in-Ok.ensures.graph c.in-Ok.ensures.roots
