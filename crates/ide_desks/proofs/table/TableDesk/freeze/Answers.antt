use Rattle.std.proofs.Common.{subst}
use Rattle.ide_steps.specs.Room.{IsWholeCore}
use Rattle.ide_desks.proofs.Works.{frozen_graph, frozen_run}
use Rattle.ide_desks.proofs.table.TableDesk.freeze.Goals as goal

pub returns-clause-run : goal.returns-clause-run
returns-clause-run g c told =
    let desk = c.args.self.now in
    frozen_run _ _ _ _ desk.seat desk.half c.freeze.result (desk.kept told) c.freeze.ensures.frozen c.freeze.ensures.working

pub returns-clause-graph : goal.returns-clause-graph
returns-clause-graph g c told =
    let desk = c.args.self.now in
    frozen_graph _ _ _ _ desk.seat desk.half c.freeze.result (desk.kept told) c.freeze.ensures.frozen c.freeze.ensures.working c.freeze.ensures.graph
    (subst IsWholeCore c.core.ensures c.cores_are_whole.ensures)
