use Rattle.ide_values.specs.Dump.{lines_at}
use Rattle.ide_values.specs.Values.{value_there}
use Rattle.ide_values.proofs.Lines.{Extends-more, OnErr-always, appended}
use Rattle.ide_values.proofs.values.Values.append_nodes.Goals as goal

pub returns-in_err-append_node-clause-extends : goal.returns-in_err-append_node-clause-extends
returns-in_err-append_node-clause-extends g c = OnErr-always _ _ (Extends-more _ _ _ _ c.loop-index.invariant.text c.in_err-append_node.ensures.extends)

pub loop-index-preserved : goal.loop-index-preserved
loop-index-preserved g c = record {
  graph = c.append_node.ensures.graph;
  text =
      appended (lines_at c.args.self.now.graph (λ n d. g.P.L.Lattice.shown (value_there g.P.L.Lattice.algebra c.args.self.now n d)))
      c.args.out.now.items c.loop-index.out.items c.append_node.new.out.items c.loop-index.index c.loop-index.invariant.text c.in_ok-append_node.ensures.text;
}
