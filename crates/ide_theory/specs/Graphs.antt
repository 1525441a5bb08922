-- The frame of an analysis over the graph of a program, and roots told by their procedures.
use Rattle.std.specs.Prelude.{ℕ, List, cond, map, nat_lt, slice_index}
use Rattle.ide_graph.specs.Joined.{start_at}
use Rattle.ide_graph.specs.Supergraph.{Supergraph}
use Rattle.ide_lattice.specs.Algebra.{LatticeAlgebra, EdgeAlgebra}
use Rattle.ide_problem.specs.Flow.{Targets}
use Rattle.ide_theory.specs.Frame.{Frame, Roots}
use Rattle.ide_theory.specs.Given.{frame_of, roots_of}
use Rattle.ide_theory.specs.Sites.{HaveEdgesOf, edges_of}

module _ {F L : Type 0} (A : LatticeAlgebra L) (B : EdgeAlgebra F L) (targets : Targets F) (graph : Supergraph) where
  -- the analysis over the edges of the graph's sites
  abbrev pub frame_at : HaveEdgesOf graph.facts graph.sites → Frame
  frame_at all = frame_of A B targets (edges_of graph.facts graph.sites all (start_at graph))

  -- the starts of the procedures with these indices, where the entry facts are bottom
  abbrev pub roots_at : (all : HaveEdgesOf graph.facts graph.sites) → List ℕ → Roots (frame_at all)
  roots_at all roots = roots_of (frame_at all) (map (slice_index graph.starts) roots) (λ k. cond (nat_lt k graph.entries) A.bottom A.top)
