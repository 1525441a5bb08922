use Rattle.ide_steps.specs.Frozen.{graph_in}
use Rattle.ide_commands.proofs.Told.{are_now}
use Rattle.ide_commands.proofs.calls.values_of.Goals as goal

pub returns : goal.returns
returns g c =
    let closed = c.in_ok-closed.closed in
    let frozen = c.in_ok-closed.ensures in
    let values = c.in_ok-values.ensures in
    are_now _ c.args.table.now c.in_ok-values.values (graph_in closed) closed.tables.table closed.roots.items frozen.quiet frozen.graph frozen.table
    frozen.roots values.graph values.roots values.follow values.best
