use Rattle.std.proofs.Common.{ℕ, ◌+◌, subst, sym}
use Rattle.std.specs.Global.{Vec}
use Rattle.ide_values.specs.Columns.{AreFactColumns, ColumnsData}
use Rattle.ide_values.specs.Lines.{columns_in}
use Rattle.ide_values.specs.Start.{at_place}
use Rattle.ide_values.proofs.columns.Columns.go_on.Goals as goal

pub invariant_of-self-2 : goal.invariant_of-self-2
invariant_of-self-2 g c = record {
  columns =
      subst (λ (facts : Vec (Vec ℕ)). AreFactColumns c.self.inside.graph.now c.args.node (columns_in facts.items)) (sym c.in_ok-turn_to.ensures.facts)
      (subst (λ (d : ColumnsData g.row.L.Denot). AreFactColumns d.graph c.args.node (columns_in d.lines.facts.items)) (sym c.self.view_is) c.requires.columns);
  told = record { value = λ k. at_place g.L.Lattice.algebra c.args.rows.now (c.args.first + k); tell = c.in_ok-turn_to.ensures.told.tell };
}
