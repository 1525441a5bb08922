use Rattle.ide_values.proofs.Workers.{nodes_ascend}
use Rattle.ide_values.proofs.shared_fill.SharedFillRangesL.start.Goals as goal

pub returns-clause-ascends : goal.returns-clause-ascends
returns-clause-ascends g c = λ i j le last.
    nodes_ascend c.args.self.now.nodes c.args.self.now.workers c.args.self.now.graph.now.facts i j c.args.self.now.some le
