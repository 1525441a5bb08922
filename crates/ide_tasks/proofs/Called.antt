-- Which callers of an exit the calls of a procedure are, in the graph of a program.
use Rattle.std.proofs.Common.{◌≡◌, ◌≢◌, ℕ, ◌<◌, false, List, [], ◌∷◌, Option, None, Some, length, get_or, sym, subst, ap, ◌∙◌, refl, arith}
use Rattle.std.specs.Prelude.{nat_eq, filter, slice_get, slice_index}
use Rattle.std.specs.List.{Contains, flat_map}
use Rattle.std.specs.List.Sorted.{IsNonDecreasingBy}
use Rattle.std.proofs.lemmas.Bool.Decides.{nat_tests}
use Rattle.std.proofs.lemmas.List.{append-nil, get_or_default}
use Rattle.std.proofs.lemmas.Option.{slice_get_within}
use Rattle.ide_text.specs.declared.program.Program.{Program}
use Rattle.ide_graph.specs.declared.edge.EdgeData.{EdgeData}
use Rattle.ide_graph.specs.declared.site.Caller.{Caller}
use Rattle.ide_graph.specs.declared.site.Site.{Site}
use Rattle.ide_graph.specs.declared.site.Site.TheVariants.{Normal, Call, Exit}
use Rattle.ide_graph.specs.Closed.{GraphsOfProgramsAreClosed}
use Rattle.ide_graph.specs.Ends.{EndsOfProgramsAreNodes}
use Rattle.ide_graph.specs.Exits.{ExitsOfProgramsAreOwned}
use Rattle.ide_graph.specs.GraphOf.{IsGraphOf}
use Rattle.ide_graph.specs.Joined.{HasCall, HasCaller, SitesOfProgramsAreJoined}
use Rattle.ide_graph.specs.ProgramEdges.{HasEdgesOf, IsCallerOf, IsExitSite}
use Rattle.ide_graph.specs.Supergraph.{Supergraph}
use Rattle.ide_problem.specs.Flow.{Targets}
use Rattle.ide_tasks.specs.Sources.{sources_over_call, sources_over_edge, sources_over_site}
use Rattle.ide_tasks.proofs.OverCall.{filter-none, only-one, up-strictly}

-- what is known of the graphs of programs
pub record Laws : Type 0 where
  pub joined : SitesOfProgramsAreJoined
  pub closed : GraphsOfProgramsAreClosed
  pub exits : ExitsOfProgramsAreOwned
  pub ends : EndsOfProgramsAreNodes

-- a call of the procedure that begins at the start, among the callers of that procedure's exit
pub record IsAmong (graph : Supergraph) (call start : ℕ) : Type 0 where
  pub within : start < graph.nodes
  pub callers : List Caller
  pub stands : slice_get graph.sites (slice_index graph.exits (slice_index graph.owners start)) ≡ Some (Exit start callers)
  pub caller : Caller
  pub contains : Contains callers caller
  pub node : caller.call_node ≡ call

at-exit : (site : Site) (caller : Caller) → HasCaller site caller → (begin : ℕ) × (callers : List Caller) × (site ≡ Exit begin callers) × Contains callers caller
at-exit (Normal edges) caller has = absurd has
at-exit (Call calls along) caller has = absurd has
at-exit (Exit begin callers) caller has = (begin, callers, refl, has)

at-call : (site : Site) (edge : EdgeData) → HasCall site edge → (calls : List EdgeData) × (along : EdgeData) × (site ≡ Call calls along) × Contains calls edge
at-call (Normal edges) edge has = absurd has
at-call (Call calls along) edge has = (calls, along, refl, has)
at-call (Exit begin callers) edge has = absurd has

not-same : (a b : ℕ) → a ≢ b → nat_eq a b ≡ false
not-same a b h = grind (arith, nat_tests, h)

own-place : {X : Type 0} (xs : List X) (k : ℕ) (d : X) → k < length xs → get_or xs k (get_or xs k d) ≡ get_or xs k d
own-place xs k d within = get_or_default xs k (get_or xs k d) d within

module _ (p : Program) (graph : Supergraph) (is : IsGraphOf p graph) (has : HasEdgesOf p graph) where
  -- the callers at an exit ascend by their call nodes, and their call edges end at its start
  pub callers-up : (m begin : ℕ) (callers : List Caller) → slice_get graph.sites m ≡ Some (Exit begin callers) → IsNonDecreasingBy (λ c. c.call_node) callers
  callers-up m begin callers at =
      let site : IsExitSite p m begin callers = has m (Exit begin callers) at in
      up-strictly (λ (c : Caller). c.call_node) callers site.listed.ascending

  ends-there : (m begin : ℕ) (callers : List Caller) (caller : Caller) → slice_get graph.sites m ≡ Some (Exit begin callers) → Contains callers caller → caller.call.end ≡ begin
  ends-there m begin callers caller at contains =
      let site : IsExitSite p m begin callers = has m (Exit begin callers) at in
      let call : IsCallerOf p site.index caller = subst (IsCallerOf p site.index) contains.2 (site.listed.each contains.0 caller contains.1) in
      ap (λ (e : EdgeData). e.end) call.0.is ∙ sym site.begins

  module _ (laws : Laws) where
    -- a call edge to the start is that of a caller at the exit of the start's procedure
    pub is-among : (call start : ℕ) (site : Site) (edge : EdgeData) → slice_get graph.sites call ≡ Some site → HasCall site edge → edge.end ≡ start → IsAmong graph call start
    is-among call start site edge at calls end =
        let joined = laws.joined p graph is has in
        let closed = laws.closed p graph is has in
        let entered = joined.entered call site edge at calls in
        let there = at-exit entered.site entered.caller entered.has in
        let stands : slice_get graph.sites entered.exit ≡ Some (Exit there.0 there.1) = entered.stands ∙ ap (λ s. Some s) there.2 in
        let left = joined.left entered.exit entered.site entered.caller entered.stands entered.has in
        let inside : entered.exit < length graph.sites = slice_get_within graph.sites entered.exit (Exit there.0 there.1) stands in
        let node : entered.exit < graph.nodes = omega (arith, inside, closed.sited) in
        let index : ℕ = slice_index graph.owners entered.exit in
        let owned : index < graph.procedures = closed.owned entered.exit node in
        let ends : entered.caller.call.end ≡ start = ap (λ (e : EdgeData). e.end) entered.call ∙ end in
        let begins : there.0 ≡ start = sym (ends-there entered.exit there.0 there.1 entered.caller stands there.3) ∙ ends in
        let starts : slice_index graph.starts index ≡ start = left.exit ∙ ends in
        let home : slice_index graph.owners start ≡ index = ap (slice_index graph.owners) (sym starts) ∙ closed.home index owned in
        let exit : slice_index graph.exits (slice_index graph.owners start) ≡ entered.exit =
        ap (slice_index graph.exits) home ∙ (laws.exits p graph is has).owned entered.exit there.0 there.1 stands in
        record {
          within = subst (λ n. n < graph.nodes) end ((laws.ends p graph is has).call call site edge at calls);
          callers = there.1;
          stands = ap (slice_get graph.sites) exit ∙ (stands ∙ ap (λ b. Some (Exit b there.1)) begins);
          caller = entered.caller;
          contains = there.3;
          node = entered.node;
        }

    module _ {F : Type 0} (targets : Targets F) (reached : ℕ) where
      -- where the call is not among the callers, nothing reaches over it
      pub over-none : (call start : ℕ) → (IsAmong graph call start → ⊥) → sources_over_call targets graph call start reached ≡ []
      over-none call start none = by (slice_get graph.sites call) refl
        where
          by : (site : Option Site) → slice_get graph.sites call ≡ site → sources_over_site targets graph.facts start reached site ≡ []
          by None at = refl
          by (Some (Normal edges)) at = refl
          by (Some (Call calls along)) at =
              ap (flat_map (sources_over_edge targets graph.facts reached))
              (filter-none (λ e. nat_eq e.end start) calls (λ k d within.
              not-same (get_or calls k d).end start (λ same. none (is-among call start (Call calls along) (get_or calls k d) at (k, within, own-place calls k d within) same))))
          by (Some (Exit begin callers)) at = refl

      -- where it is one of them, what its call edge does
      pub over-caller : (call start m : ℕ) (callers : List Caller) (caller : Caller) → slice_get graph.sites m ≡ Some (Exit start callers) → Contains callers caller → caller.call_node ≡ call
          → sources_over_call targets graph call start reached ≡ sources_over_edge targets graph.facts reached caller.call
      over-caller call start m callers caller at contains node =
          let joined = laws.joined p graph is has in
          let left = joined.left m (Exit start callers) caller at contains in
          let there = at-call left.site caller.call left.has in
          let stands : slice_get graph.sites call ≡ Some (Call there.0 there.1) = ap (slice_get graph.sites) (sym node) ∙ (left.stands ∙ ap (λ s. Some s) there.2) in
          let site = has call (Call there.0 there.1) stands in
          let end : caller.call.end ≡ start = ends-there m start callers caller at contains in
          let one : filter (λ e. nat_eq e.end start) there.0 ≡ caller.call ∷ [] = only-one (λ (e : EdgeData). e.end) start there.0 caller.call end there.3 site.0.ascending in
          ap (sources_over_site targets graph.facts start reached) stands
          ∙ (ap (flat_map (sources_over_edge targets graph.facts reached)) one ∙ append-nil (sources_over_edge targets graph.facts reached caller.call))
