-- The supergraph that the sites of a program's nodes make.
use Rattle.std.specs.Prelude.{◌≡◌, ℕ, List, [], ◌∷◌, Option, Some, None, length, slice_get}
use Rattle.std.proofs.Common.{refl}
use Rattle.std.specs.List.{flat_map, range_with_len}
use Rattle.ide_graph.specs.declared.edge.EdgeData.{EdgeData}
use Rattle.ide_graph.specs.declared.site.Caller.{Caller}
use Rattle.ide_graph.specs.declared.site.Site.{Site}
use Rattle.ide_graph.specs.declared.site.Site.TheVariants.{Normal, Call, Exit}
use Rattle.ide_graph.specs.Lawful.{IsEdge}
use Rattle.ide_theory.specs.Given.{Edge, Edges}
use Rattle.ide_theory.specs.Member.{Each}
use Rattle.ide_theory.specs.Parts.{NodeEdges}

-- an edge of a program with so many facts
pub record IsEdgeOf (facts : ℕ) (edge : EdgeData) : Type 0 where
  pub lawful : IsEdge edge
  pub counted : edge.facts ≡ facts

-- each edge of the site is
abbrev pub HasLawfulEdges : ℕ → Site → Type 0
HasLawfulEdges facts (Normal edges) = Each (IsEdgeOf facts) edges
HasLawfulEdges facts (Call calls along) = Each (IsEdgeOf facts) calls × IsEdgeOf facts along
HasLawfulEdges facts (Exit start callers) = Each (λ caller. IsEdgeOf facts caller.call × IsEdgeOf facts caller.back) callers

-- the edge that leaves the node
abbrev pub edge_from : (facts n : ℕ) (edge : EdgeData) → IsEdgeOf facts edge → Edge facts
edge_from facts n edge is = record { from = n; edge = edge; lawful = is.lawful; counted = is.counted }

abbrev pub edges_from : (facts n : ℕ) (edges : List EdgeData) → Each (IsEdgeOf facts) edges → List (Edge facts)
edges_from facts n [] all = []
edges_from facts n (edge ∷ edges) all = edge_from facts n edge all.0 ∷ edges_from facts n edges all.1

-- the callers at the exit n: each with its call edge and the edge back
abbrev pub callers_at : (facts n : ℕ) (callers : List Caller) → Each (λ caller. IsEdgeOf facts caller.call × IsEdgeOf facts caller.back) callers → List (Edge facts × Edge facts)
callers_at facts n [] all = []
callers_at facts n (caller ∷ callers) all =
    (edge_from facts caller.call_node caller.call all.0.0, edge_from facts n caller.back all.0.1) ∷ callers_at facts n callers all.1

-- what stands at the node n by its site
abbrev pub edges_at : (facts n : ℕ) (site : Site) → HasLawfulEdges facts site → NodeEdges (Edge facts)
edges_at facts n (Normal edges) all = record { calls = []; flat = edges_from facts n edges all; return_sites = []; callers = [] }
edges_at facts n (Call calls along) all =
    record { calls = edges_from facts n calls all.0; flat = edge_from facts n along all.1 ∷ []; return_sites = along.end ∷ []; callers = [] }
edges_at facts n (Exit start callers) all = record { calls = []; flat = []; return_sites = []; callers = callers_at facts n callers all }

-- the sites have edges of a program with so many facts
abbrev pub HaveEdgesOf : ℕ → List Site → Type 0
HaveEdgesOf facts sites = (n : ℕ) (site : Site) → slice_get sites n ≡ Some site → HasLawfulEdges facts site

-- nothing stands past the nodes
abbrev pub edges_found : (facts n : ℕ) (site : Option Site) → ((s : Site) → site ≡ Some s → HasLawfulEdges facts s) → NodeEdges (Edge facts)
edges_found facts n None all = record { calls = []; flat = []; return_sites = []; callers = [] }
edges_found facts n (Some site) all = edges_at facts n site (all site refl)

module _ (facts : ℕ) (sites : List Site) (all : HaveEdgesOf facts sites) where
  -- what stands at each node
  abbrev pub node_edges : ℕ → NodeEdges (Edge facts)
  node_edges n = edges_found facts n (slice_get sites n) (all n)

  -- all edges, where the procedure of each node begins as told
  abbrev pub edges_of : (ℕ → ℕ) → Edges
  edges_of start_of = record {
    facts = facts;
    flat = flat_map (λ n. (node_edges n).flat) (range_with_len 0 (length sites));
    calls = flat_map (λ n. (node_edges n).callers) (range_with_len 0 (length sites));
    start_of = start_of;
  }
