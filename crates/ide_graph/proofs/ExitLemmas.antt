-- The exits of a program's graph are those of their procedures, and have no more callers than there are nodes.
use Rattle.std.proofs.Common.{◌≡◌, ℕ, ◌^◌, ◌<◌, ◌≤◌, Some, List, length, ap, ◌∙◌, arith, lit≤}
use Rattle.std.specs.Prelude.{slice_get, slice_index}
use Rattle.std.proofs.lemmas.Option.{slice_get_within}
use Rattle.ide_text.specs.declared.program.Program.{Program}
use Rattle.ide_text.specs.declared.program.Statement.TheVariants.{Call as calls}
use Rattle.ide_text.specs.Program.{procedures_of}
use Rattle.ide_graph.specs.declared.site.Caller.{Caller}
use Rattle.ide_graph.specs.declared.site.Site.{Site}
use Rattle.ide_graph.specs.declared.site.Site.TheVariants.{Normal, Call, Exit}
use Rattle.ide_graph.specs.Exits.{HasFewCallers, ExitsOfProgramsAreOwned}
use Rattle.ide_graph.specs.GraphOf.{IsGraphOf}
use Rattle.ide_graph.specs.Numbers.{exit, statement, nodes_of, exit_of}
use Rattle.ide_graph.specs.ProgramEdges.{CallAt, HasEdgesOf, IsExitSite, IsSiteOf}
use Rattle.ide_graph.specs.Supergraph.{Supergraph}
use Rattle.ide_graph.proofs.JoinedLemmas.{node_owner, owner_within}
use Rattle.ide_graph.proofs.ListsLemmas.{few_ascending}
use Rattle.ide_graph.proofs.NodeLemmas.{exits, located}
use Rattle.ide_graph.proofs.SpotLemmas.{exit_in}

module _ (p : Program) where
  -- an exit stands only at the last node of its procedure
  exit_is : (n i : ℕ) → slice_get (nodes_of (procedures_of p)) n ≡ Some (i, exit) → exit_of (procedures_of p) i ≡ n
  exit_is n i at =
      let found = located 0 (procedures_of p) n i exit at in
      let index : i ≡ found.j = omega (arith, found.index_is) in
      let last = exit_in found.q found.k found.stands in
      let end : exit_of (procedures_of p) found.j ≡ n = omega (arith, exits (procedures_of p) found.j found.q found.owner, last, found.at) in
      ap (exit_of (procedures_of p)) index ∙ end

  call_within : (n : ℕ) → CallAt p n → n < length (nodes_of (procedures_of p))
  call_within n at =
      slice_get_within (nodes_of (procedures_of p)) n (at.index, statement (calls at.target at.callees at.arguments)) at.stands.node

  few_callers : (n : ℕ) (s : Site) → length (nodes_of (procedures_of p)) ≤ 2 ^ 32 → IsSiteOf p n s → HasFewCallers s
  few_callers n (Normal edges) few site = tt
  few_callers n (Call edges along) few site = tt
  few_callers n (Exit begin callers) few site =
      let bound : length callers ≤ length (nodes_of (procedures_of p)) =
      few_ascending (λ (caller : Caller). caller.call_node) callers (length (nodes_of (procedures_of p)))
      (λ k d within. call_within _ (site.listed.each k d within).0.call) site.listed.ascending in
      omega (arith, bound, few)

module _ (p : Program) (graph : Supergraph) (is : IsGraphOf p graph) (has : HasEdgesOf p graph) where
  exit_owned : (n begin : ℕ) (callers : List Caller) → slice_get graph.sites n ≡ Some (Exit begin callers) → slice_index graph.exits (slice_index graph.owners n) ≡ n
  exit_owned n begin callers stands =
      let site : IsExitSite p n begin callers = has n (Exit begin callers) stands in
      let owner = node_owner p graph is has n site.index exit site.node in
      let within = owner_within p graph is has n site.index exit site.node in
      ap (slice_index graph.exits) owner ∙ is.exits site.index within ∙ exit_is p n site.index site.node

pub exits_owned : ExitsOfProgramsAreOwned
exits_owned p graph is has = record {
  owned = exit_owned p graph is has;
  few = λ n site stands.
      let bound : 65536 ≤ 2 ^ 32 = lit≤ tt in
      few_callers p n site (omega (arith, bound, is.few.0, is.nodes)) (has n site stands);
}
