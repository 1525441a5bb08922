-- The edges of a program's graph end at its nodes, and its procedures begin at them.
use Rattle.std.proofs.Common.{◌≡◌, ℕ, zero, suc, ◌<◌, ◌≤◌, List, Some, ◌⊎◌, inl, inr, length, ap, sym, subst, ◌∙◌, arith}
use Rattle.std.specs.Prelude.{slice_get, slice_index}
use Rattle.std.proofs.lemmas.List.{get_or_past, length-map}
use Rattle.std.proofs.lemmas.Option.{slice_get_within}
use Rattle.ide_text.specs.declared.program.Program.{Program}
use Rattle.ide_text.specs.Limits.{limits_procedures}
use Rattle.ide_text.specs.Program.{procedures_of}
use Rattle.ide_graph.specs.declared.edge.EdgeData.{EdgeData}
use Rattle.ide_graph.specs.declared.site.Site.{Site}
use Rattle.ide_graph.specs.Closed.{IsClosed}
use Rattle.ide_graph.specs.Ends.{EndsOfProgramsAreNodes}
use Rattle.ide_graph.specs.GraphOf.{IsGraphOf}
use Rattle.ide_graph.specs.Joined.{HasFlat, start_at}
use Rattle.ide_graph.specs.Numbers.{Spot, nodes_of}
use Rattle.ide_graph.specs.ProgramEdges.{HasEdgesOf}
use Rattle.ide_graph.specs.Supergraph.{Supergraph}
use Rattle.ide_graph.proofs.ClosedLemmas.{graphs_closed}
use Rattle.ide_graph.proofs.JoinedLemmas.{flat_stays}

-- a number is below the bound or not
below_or : (n m : ℕ) → (n < m) ⊎ (m ≤ n)
below_or n zero = inr (omega arith)
below_or zero (suc m) = inl (omega arith)
below_or (suc n) (suc m) = elim (below_or n m) [ inl less ↦ inl (omega (arith, less)) | inr more ↦ inr (omega (arith, more)) ]

module _ (p : Program) (graph : Supergraph) (is : IsGraphOf p graph) (has : HasEdgesOf p graph) where
  -- the owner of a number past the nodes is read as the first procedure
  owner_within : (closed : IsClosed graph) (n : ℕ) → (n < graph.nodes) ⊎ (graph.nodes ≤ n) → slice_index graph.owners n < graph.procedures
  owner_within closed n (inl within) = closed.owned n within
  owner_within closed n (inr past) =
      let count : length graph.owners ≡ graph.nodes =
      ap (λ (xs : List ℕ). length xs) is.owners ∙ (length-map (nodes_of (procedures_of p)) (λ (node : ℕ × Spot). node.0) ∙ sym is.nodes) in
      let first : slice_index graph.owners n ≡ 0 = get_or_past graph.owners n 0 (omega (arith, count, past)) in
      omega (arith, first, limits_procedures p.draft p.limits, is.procedures)

  flat_end : (n : ℕ) (s : Site) (edge : EdgeData) → slice_get graph.sites n ≡ Some s → HasFlat s edge → edge.end < graph.nodes
  flat_end n s edge stands flat =
      let within = flat_stays p graph is has n s edge (has n s stands) flat in
      omega (arith, slice_get_within (nodes_of (procedures_of p)) edge.end (within.index, within.second) within.comes, is.nodes)

  start_node : (closed : IsClosed graph) (n : ℕ) → start_at graph n ≡ n → n < graph.nodes
  start_node closed n own =
      let owner : slice_index graph.owners n < graph.procedures = owner_within closed n (below_or n graph.nodes) in
      subst (λ m. m < graph.nodes) own (closed.begun (slice_index graph.owners n) owner)

pub ends_nodes : EndsOfProgramsAreNodes
ends_nodes p graph is has =
    let closed = graphs_closed p graph is has in
    record { flat = flat_end p graph is has; call = closed.ends; start = start_node p graph is has closed }
