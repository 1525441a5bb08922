-- Supergraphs given as lists of edges, the frame of an analysis over one, and its roots.
use Rattle.std.specs.Prelude.{◌≡◌, ℕ, List}
use Rattle.ide_graph.specs.declared.edge.EdgeData.{EdgeData}
use Rattle.ide_graph.specs.Lawful.{IsEdge}
use Rattle.ide_lattice.specs.Algebra.{LatticeAlgebra, EdgeAlgebra}
use Rattle.ide_problem.specs.Flow.{Targets}
use Rattle.ide_theory.specs.Frame.{Frame, Roots}
use Rattle.ide_theory.specs.Member.{IsIn}
use Rattle.ide_theory.specs.Path.{FlowGraph}

-- an edge of a program with so many facts: the node that it leaves, and its data
pub record Edge (facts : ℕ) : Type 0 where
  pub from : ℕ
  pub edge : EdgeData
  pub lawful : IsEdge edge
  pub counted : edge.facts ≡ facts

-- the flat edges, each call edge with its return edge, and the start of each node's procedure
pub record Edges : Type 0 where
  pub facts : ℕ
  pub flat : List (Edge facts)
  pub calls : List (Edge facts × Edge facts)
  pub start_of : ℕ → ℕ

-- the edge is the return edge of the call edge
abbrev pub AreMatched : (G : Edges) → Edge G.facts → Edge G.facts → Type 0
AreMatched G call ret = IsIn {T = Edge G.facts × Edge G.facts} (call, ret) G.calls

abbrev pub supergraph_of : Edges → FlowGraph
supergraph_of G = record {
  Edge = Edge G.facts;
  from = λ e. e.from;
  to = λ e. e.edge.end;
  IsFlat = λ e. IsIn e G.flat;
  IsCall = λ e. (ret : Edge G.facts) × AreMatched G e ret;
  Matched = AreMatched G;
  start_of = G.start_of;
}

-- where the edges of a program lead: flat edges stay in their procedure, calls lead to starts and
-- come back from that procedure to the one site of their node
pub record IsGraph (G : Edges) : Type 0 where
  pub flat : (e : Edge G.facts) → IsIn e G.flat → G.start_of e.edge.end ≡ G.start_of e.from
  pub back : (call ret : Edge G.facts) → AreMatched G call ret → G.start_of ret.edge.end ≡ G.start_of call.from
  pub callee : (call ret : Edge G.facts) → AreMatched G call ret → G.start_of call.edge.end ≡ call.edge.end
  pub exit : (call ret : Edge G.facts) → AreMatched G call ret → G.start_of ret.from ≡ call.edge.end
  pub one_site : (call ret other back : Edge G.facts) → AreMatched G call ret → AreMatched G other back → call.from ≡ other.from
      → ret.edge.end ≡ back.edge.end

-- an analysis over a supergraph
abbrev pub frame_of : {L F : Type 0} → LatticeAlgebra L → EdgeAlgebra F L → Targets F → Edges → Frame
frame_of {L} {F} lattice functions targets G = record {
  L = L;
  F = F;
  lattice = lattice;
  functions = functions;
  graph = supergraph_of G;
  facts = G.facts;
  targets = λ e k. targets e.edge k;
}

-- the roots of a list, with the values at their entry
abbrev pub roots_of : (K : Frame) → List ℕ → (ℕ → K.L) → Roots K
roots_of K roots entry = record { IsRoot = λ r. IsIn r roots; entry = entry }
