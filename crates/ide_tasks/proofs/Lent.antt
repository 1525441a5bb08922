-- That what is lent of the sources is what reaches the fact over the call.
use Rattle.std.proofs.Common.{◌≡◌, ◌≢◌, ℕ, ◌+◌, ◌<◌, List, [], Some, length, get_or, map, sym, subst, ap, ◌∙◌, refl, arith}
use Rattle.std.specs.Prelude.{nat_eq, filter, slice_get, slice_index, slice_index_or}
use Rattle.std.specs.List.{All}
use Rattle.std.specs.List.Sorted.{IsNonDecreasingBy}
use Rattle.std.proofs.lemmas.List.{get_or_default}
use Rattle.std.proofs.lemmas.Option.{same_Some, slice_get_read, get_or_from_slice_get, slice_get_within}
use Rattle.ide_text.specs.declared.program.Program.{Program}
use Rattle.ide_graph.specs.declared.site.Caller.{Caller}
use Rattle.ide_graph.specs.declared.site.Site.{Site}
use Rattle.ide_graph.specs.declared.site.Site.TheVariants.{Exit}
use Rattle.ide_graph.specs.GraphOf.{IsGraphOf}
use Rattle.ide_graph.specs.ProgramEdges.{HasEdgesOf}
use Rattle.ide_graph.specs.Supergraph.{Supergraph}
use Rattle.ide_problem.specs.Flow.{Targets}
use Rattle.ide_tasks.specs.declared.sources.Source.{Source}
use Rattle.ide_tasks.specs.Sources.{AreAscending, AreSourcesOf, fact_and_function, reaching_of, sources_from, sources_over_call}
use Rattle.ide_tasks.proofs.Called.{IsAmong, Laws, callers-up, over-caller, over-none}
use Rattle.ide_tasks.proofs.OverCall.{caller-shown, callers-ascend, same-ascend, same-shown}

-- the sources of a procedure that were read, which ascend by the fact reached
pub rows-read : {F : Type 0} (ps read sources : List (List (Source F))) (k : ℕ) (rows : List (Source F))
    → read ≡ ps → ps ≡ sources → AreAscending ps → rows ≡ get_or read k rows → k < length read
    → (rows ≡ slice_index_or sources k []) × IsNonDecreasingBy (λ source. source.reached) rows
rows-read {F = F} ps read sources k rows is view up at within =
    let inside : k < length ps = subst (λ (vs : List (List (Source F))). k < length vs) is within in
    let there : rows ≡ get_or ps k [] = at ∙ ap (λ vs. get_or vs k rows) is ∙ get_or_default ps k rows [] inside in
    (there ∙ ap (λ s. slice_index_or s k []) view, subst (IsNonDecreasingBy (λ (s : Source F). s.reached)) (sym there) (up k [] inside))

module _ (p : Program) (graph : Supergraph) (is : IsGraphOf p graph) (has : HasEdgesOf p graph) (laws : Laws) where
  -- the site that was read at a node
  pub site-read : (n : ℕ) (site : Site) → n < graph.nodes → site ≡ slice_index_or graph.sites n site → slice_get graph.sites n ≡ Some site
  site-read n site within read =
      let sited = (laws.closed p graph is has).sited in
      slice_get_read graph.sites (length graph.sites) n site refl (omega (arith, within, sited)) read

  -- no caller of the procedure is that call
  pub not-among : (call start procedure m : ℕ) (exit : Site) → procedure ≡ slice_index graph.owners start → m ≡ slice_index graph.exits procedure → slice_get graph.sites m ≡ Some exit
      → ((callers : List Caller) → exit ≡ Exit start callers → IsNonDecreasingBy (λ c. c.call_node) callers → All (λ c. c.call_node ≢ call) callers)
      → IsAmong graph call start → ⊥
  not-among call start procedure m exit owner there at none among =
      let same : m ≡ slice_index graph.exits (slice_index graph.owners start) = there ∙ ap (slice_index graph.exits) owner in
      let stands : slice_get graph.sites m ≡ Some (Exit start among.callers) = ap (slice_get graph.sites) same ∙ among.stands in
      let site : exit ≡ Exit start among.callers = same_Some exit (Exit start among.callers) (sym at ∙ stands) in
      none among.callers site (callers-up p graph is has m start among.callers stands) among.contains.0 among.caller among.contains.1
      (ap (λ (c : Caller). c.call_node) among.contains.2 ∙ among.node)

  module _ {F : Type 0} (targets : Targets F) (sources : List (List (Source F))) (are : AreSourcesOf targets graph sources) where
    pub lent-none : (call start reached : ℕ) → (IsAmong graph call start → ⊥) → [] ≡ sources_over_call targets graph call start reached
    lent-none call start reached none = sym (over-none p graph is has laws targets reached call start none)

    pub lent-some : (call start reached procedure m index : ℕ) (callers : List Caller) (c : Caller) (rows run result : List (Source F))
        → m ≡ slice_index graph.exits procedure → procedure < graph.procedures → slice_get graph.sites m ≡ Some (Exit start callers)
        → slice_get callers index ≡ Some c → c.call_node ≡ call → rows ≡ slice_index_or sources procedure []
        → run ≡ filter (λ s. nat_eq s.reached reached) rows
        → (IsNonDecreasingBy (λ s. s.from.caller) run → result ≡ filter (λ s. nat_eq s.from.caller index) run)
        → map fact_and_function result ≡ sources_over_call targets graph call start reached
    lent-some call start reached procedure m index callers c rows run result there within at place node read run_is result_is =
        let few = (laws.exits p graph is has).few m (Exit start callers) at in
        let same : reaching_of reached rows ≡ reaching_of reached (sources_from targets graph.facts 0 callers) =
        ap (reaching_of reached) read ∙ are.exact procedure (Exit start callers) within (ap (slice_get graph.sites) (sym there) ∙ at) few reached in
        let up : IsNonDecreasingBy (λ s. s.from.caller) run =
        subst (IsNonDecreasingBy (λ (s : Source F). s.from.caller)) (sym run_is)
        (same-ascend reached rows (sources_from targets graph.facts 0 callers) same (callers-ascend targets graph.facts 0 callers)) in
        let zero_more : index ≡ 0 + index = omega arith in
        ap (map fact_and_function) (result_is up ∙ ap (filter (λ s. nat_eq s.from.caller index)) run_is)
        ∙ (same-shown index reached rows (sources_from targets graph.facts 0 callers) same
        ∙ (caller-shown targets graph.facts reached 0 index index callers c zero_more place
        ∙ sym (over-caller p graph is has laws targets reached call start m callers c at (index, slice_get_within callers index c place, get_or_from_slice_get callers index c c place) node)))
