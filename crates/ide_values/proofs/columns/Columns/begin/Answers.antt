use Rattle.std.proofs.Common.{ℕ, ◌+◌, subst, sym}
use Rattle.std.specs.Global.{Vec}
use Rattle.ide_values.specs.Columns.{AreFactColumns}
use Rattle.ide_values.specs.Lines.{columns_in}
use Rattle.ide_values.specs.Start.{at_place}
use Rattle.ide_values.proofs.columns.Columns.begin.Goals as goal

pub invariant_of-self-2 : goal.invariant_of-self-2
invariant_of-self-2 g c = record {
  columns = subst (λ (facts : Vec (Vec ℕ)). AreFactColumns c.self.inside.graph.now c.args.node (columns_in facts.items)) (sym c.in_ok-tell.ensures.facts) c.in_ok-self-inside.ensures;
  told = record { value = λ k. at_place g.L.Lattice.algebra c.args.rows.now (c.args.first + k); tell = c.in_ok-tell.ensures.told.tell };
}

pub returns-clause-columns : goal.returns-clause-columns
returns-clause-columns g c =
    subst (λ (facts : Vec (Vec ℕ)). AreFactColumns c.self.inside.graph.now c.args.node (columns_in facts.items)) (sym c.in_ok-tell.ensures.facts) c.in_ok-self-inside.ensures
