-- The graph of a program is closed.
use Rattle.std.proofs.Common.{◌≡◌, ℕ, ◌+◌, ◌<◌, Some, length, refl, sym, subst, ◌∙◌, arith}
use Rattle.std.specs.Prelude.{slice_get, slice_index}
use Rattle.std.proofs.lemmas.Option.{slice_get_within}
use Rattle.ide_text.specs.declared.program.Procedure.{Procedure}
use Rattle.ide_text.specs.declared.program.Program.{Program}
use Rattle.ide_text.specs.Program.{procedures_of}
use Rattle.ide_graph.specs.Closed.{GraphsOfProgramsAreClosed}
use Rattle.ide_graph.specs.GraphOf.{IsGraphOf}
use Rattle.ide_graph.specs.Numbers.{Spot, start, nodes_of, start_of}
use Rattle.ide_graph.specs.ProgramEdges.{HasEdgesOf}
use Rattle.ide_graph.specs.Supergraph.{Supergraph}
use Rattle.ide_graph.proofs.JoinedLemmas.{call_from, node_owner, owner_within}
use Rattle.ide_graph.proofs.NodeLemmas.{stands_at}
use Rattle.ide_graph.proofs.SliceLemmas.{element_of}
use Rattle.ide_graph.proofs.WithinLemmas.{call_enters}

module _ (p : Program) (graph : Supergraph) (is : IsGraphOf p graph) (has : HasEdgesOf p graph) where
  owned : (n : ℕ) → n < graph.nodes → slice_index graph.owners n < graph.procedures
  owned n within =
      let at : (x : ℕ × Spot) × (slice_get (nodes_of (procedures_of p)) n ≡ Some x) = element_of (nodes_of (procedures_of p)) n (omega (arith, within, is.nodes)) in
      omega (arith, node_owner p graph is has n at.0.0 at.0.1 at.1, owner_within p graph is has n at.0.0 at.0.1 at.1, is.procedures)

  -- the start of each procedure stands at the node where it begins
  start_stands : (i : ℕ) → i < graph.procedures → slice_get (nodes_of (procedures_of p)) (slice_index graph.starts i) ≡ Some (i, start)
  start_stands i within =
      let few : i < length (procedures_of p) = omega (arith, within, is.procedures) in
      let q : (q : Procedure) × (slice_get (procedures_of p) i ≡ Some q) = element_of (procedures_of p) i few in
      let place : start_of (procedures_of p) i + 0 ≡ slice_index graph.starts i = omega (arith, is.starts i few) in
      subst (λ m. slice_get (nodes_of (procedures_of p)) m ≡ Some (i, start)) place (stands_at (procedures_of p) i 0 q.0 start q.1 refl)

pub graphs_closed : GraphsOfProgramsAreClosed
graphs_closed p graph is has = record {
  sited = is.sited ∙ sym is.nodes;
  owned = owned p graph is has;
  begun = λ i within. omega (arith, slice_get_within (nodes_of (procedures_of p)) (slice_index graph.starts i) (i, start) (start_stands p graph is has i within), is.nodes);
  home = λ i within. node_owner p graph is has (slice_index graph.starts i) i start (start_stands p graph is has i within);
  ends = λ n s edge stands call.
      let from = call_from p graph is has n s edge (has n s stands) call in
      omega (arith, slice_get_within (nodes_of (procedures_of p)) edge.end (from.0, start) (call_enters p n from.0 edge from.1), is.nodes);
}
