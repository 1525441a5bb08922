-- What the definitions and the theorem are over: a supergraph, a lattice with its edge functions,
-- and the flow over each edge; and the roots, with what holds at their entry.
use Rattle.std.specs.Prelude.{◌≡◌, ℕ, ◌<◌, ◌≤◌, List, [], IsTrue}
use Rattle.ide_lattice.specs.Algebra.{LatticeAlgebra, EdgeAlgebra}
use Rattle.ide_lattice.specs.Laws.{IsLattice, IsEdgeAlgebra}
use Rattle.ide_problem.specs.Flow.{AreTargets}
use Rattle.ide_theory.specs.Path.{FlowGraph}

pub record Frame : Type 1 where
  pub L : Type 0
  pub F : Type 0
  pub lattice : LatticeAlgebra L
  pub functions : EdgeAlgebra F L
  pub graph : FlowGraph
  -- how many facts there are
  pub facts : ℕ
  -- for an edge and a fact at its source: the facts at its end that depend on it, with functions
  pub targets : graph.Edge → ℕ → List (ℕ × F)

-- where runs of the program begin, and the value of each fact there
pub record Roots (K : Frame) : Type 1 where
  pub IsRoot : ℕ → Type 0
  pub entry : ℕ → K.L

-- roots are starts of procedures, and the facts in range have proper values there
pub record AreRoots (K : Frame) (R : Roots K) : Type 0 where
  pub start : (r : ℕ) → R.IsRoot r → K.graph.start_of r ≡ r
  pub proper : (k : ℕ) → k < K.facts → IsTrue (K.lattice.proper (R.entry k))

-- the laws of the lattice, of its functions, of the flow, and of where edges lead
pub record IsLawfulFrame (K : Frame) : Type 0 where
  pub lattice : IsLattice K.lattice
  pub functions : IsEdgeAlgebra K.lattice K.functions
  pub in_order : (e : K.graph.Edge) (k : ℕ) → AreTargets K.functions.proper 0 K.facts (K.targets e k)
  pub none_outside : (e : K.graph.Edge) (k : ℕ) → K.facts ≤ k → K.targets e k ≡ []
  -- a flat edge stays in its procedure, and a return comes back to that of its call
  pub flat : (e : K.graph.Edge) → K.graph.IsFlat e → K.graph.start_of (K.graph.to e) ≡ K.graph.start_of (K.graph.from e)
  pub back : (call ret : K.graph.Edge) → K.graph.Matched call ret
      → K.graph.start_of (K.graph.to ret) ≡ K.graph.start_of (K.graph.from call)
  -- a call leads to a start, and its return comes from that procedure
  pub callee : (e : K.graph.Edge) → K.graph.IsCall e → K.graph.start_of (K.graph.to e) ≡ K.graph.to e
  pub exit : (call ret : K.graph.Edge) → K.graph.Matched call ret → K.graph.start_of (K.graph.from ret) ≡ K.graph.to call
  -- the calls at one node have one return site
  pub one_site : (call ret other back : K.graph.Edge) → K.graph.Matched call ret → K.graph.Matched other back
      → K.graph.from call ≡ K.graph.from other → K.graph.to ret ≡ K.graph.to back
  pub is_call : (call ret : K.graph.Edge) → K.graph.Matched call ret → K.graph.IsCall call
