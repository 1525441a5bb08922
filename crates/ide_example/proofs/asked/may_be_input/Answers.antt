use Rattle.ide_example.proofs.Told.{answered}
use Rattle.ide_example.proofs.asked.may_be_input.Goals as goal

pub returns : goal.returns
returns c =
    answered c.args.text.now c.args.root.now c.args.place c.in_ok-values.values c.loaded.result.now.graph c.in_ok-node.node c.in_ok-node.fact
    c.in_ok-origin.origin c.eq.result c.in_ok-values.ensures.solved c.loaded.ensures.graph c.in_ok-node.ensures.found
    c.in_ok-node.ensures.node c.in_ok-node.ensures.fact c.in_ok-origin.ensures.value c.eq.ensures
