-- The inverse of call flow: which facts at callers reach a fact at a procedure's start.
use Rattle.std.specs.Prelude.{◌≡◌, ◌≢◌, ℕ, ◌+◌, ◌<◌, length, List, [], ◌∷◌, ◌++◌, Option, None, Some, map, filter, nat_eq, slice_get, slice_index, slice_index_or}
use Rattle.std.specs.List.{All, flat_map, range_with_len}
use Rattle.std.specs.List.Sorted.{IsNonDecreasingBy}
use Rattle.ide_problem.specs.Flow.{Targets}
use Rattle.ide_graph.specs.Exits.{HasFewCallers}
use Rattle.ide_graph.specs.GraphOf.{IsGraphOf}
use Rattle.ide_graph.specs.ProgramEdges.{HasEdgesOf}
use Rattle.ide_graph.specs.Supergraph.{Supergraph}
use Rattle.ide_text.specs.declared.program.Program.{Program}
use Rattle.ide_graph.specs.declared.edge.EdgeData.{EdgeData}
use Rattle.ide_graph.specs.declared.site.Caller.{Caller}
use Rattle.ide_graph.specs.declared.site.Site.{Site}
use Rattle.ide_graph.specs.declared.site.Site.TheVariants.{Normal, Call, Exit}
use Rattle.ide_tasks.specs.declared.partners.Reaching.{Reaching}
use Rattle.ide_tasks.specs.declared.sources.Source.{Source}

-- that a target of the call flow of a caller from a fact depends on that fact
abbrev pub source_of : {F : Type 0} → ℕ → ℕ → ℕ × F → Source F
source_of caller fact target =
    record { reached = target.0; from = record { caller = caller; fact = fact; function = target.1 } }

-- all that the call flow of a caller reaches, from each fact of so many
abbrev pub sources_over : {F : Type 0} → Targets F → ℕ → ℕ → Caller → List (Source F)
sources_over targets facts index caller =
    flat_map (λ fact. map (source_of index fact) (targets caller.call fact)) (range_with_len 0 facts)

-- the same of each caller, where the first has that index
abbrev pub sources_from : {F : Type 0} → Targets F → ℕ → ℕ → List Caller → List (Source F)
sources_from targets facts index [] = []
sources_from targets facts index (caller ∷ callers) =
    sources_over targets facts index caller ++ sources_from targets facts (index + 1) callers

-- what reaches the procedure with that site of its exit
abbrev pub sources_at : {F : Type 0} → Targets F → ℕ → Site → List (Source F)
sources_at targets facts (Normal edges) = []
sources_at targets facts (Call calls along) = []
sources_at targets facts (Exit start callers) = sources_from targets facts 0 callers

-- those of the sources that reach the fact
abbrev pub reaching_of : {F : Type 0} → ℕ → List (Source F) → List (Reaching F)
reaching_of fact sources = map (λ source. source.from) (filter (λ source. nat_eq source.reached fact) sources)

-- the source whose function is the one at the place in the list that is kept of it, or past the last the given one
abbrev pub told_source : {F : Type 0} → F → List F → Source ℕ → Source F
told_source none functions place = record {
  reached = place.reached;
  from = record { caller = place.from.caller; fact = place.from.fact; function = slice_index_or functions place.from.function none };
}

-- the sources ascend by the fact reached
abbrev pub Ascends : {F : Type 0} → List (Source F) → Type 0
Ascends sources = IsNonDecreasingBy (λ source. source.reached) sources

-- those of the sources that reach the fact ascend by the caller
abbrev pub CallersAscend : {F : Type 0} → ℕ → List (Source F) → Type 0
CallersAscend fact sources = IsNonDecreasingBy (λ source. source.from.caller) (filter (λ source. nat_eq source.reached fact) sources)

-- the sources of each procedure ascend by the fact reached
abbrev pub AreAscending : {F : Type 0} → List (List (Source F)) → Type 0
AreAscending procedures = All (IsNonDecreasingBy (λ source. source.reached)) procedures

-- they are for each fact what reaches it by the site of the exit
abbrev pub AreSourcesAt : {F : Type 0} → Targets F → ℕ → Site → List (Source F) → Type 0
AreSourcesAt targets facts site sources = (fact : ℕ) → reaching_of fact sources ≡ reaching_of fact (sources_at targets facts site)

-- the sources of each procedure of the graph: for each fact, what reaches it by the site of the exit
pub record AreSourcesOf {F : Type 0} (targets : Targets F) (graph : Supergraph) (procedures : List (List (Source F))) : Type 0 where
  pub count : length procedures ≡ graph.procedures
  pub exact : (procedure : ℕ) (site : Site) → procedure < graph.procedures → slice_get graph.sites (slice_index graph.exits procedure) ≡ Some site → HasFewCallers site
      → (fact : ℕ) → reaching_of fact (slice_index_or procedures procedure []) ≡ reaching_of fact (sources_at targets graph.facts site)

-- those of the sources that reach the fact from that caller
abbrev pub from_caller : {F : Type 0} → ℕ → ℕ → List (Source F) → List (Source F)
from_caller caller fact sources = filter (λ source. nat_eq source.from.caller caller) (filter (λ source. nat_eq source.reached fact) sources)

-- the fact at the call node, with the function on the call edge
abbrev pub fact_and_function : {F : Type 0} → Source F → ℕ × F
fact_and_function source = (source.from.fact, source.from.function)

-- the facts from which the flow over the edge reaches one, ascending, each with its function
abbrev pub sources_over_edge : {F : Type 0} → Targets F → ℕ → ℕ → EdgeData → List (ℕ × F)
sources_over_edge targets facts reached edge =
    flat_map (λ fact. map (λ t. (fact, t.1)) (filter (λ t. nat_eq t.0 reached) (targets edge fact))) (range_with_len 0 facts)

-- the same over the call edges of a site that end at the start: nothing where there is none
abbrev pub sources_over_site : {F : Type 0} → Targets F → ℕ → ℕ → ℕ → Option Site → List (ℕ × F)
sources_over_site targets facts start reached None = []
sources_over_site targets facts start reached (Some (Normal edges)) = []
sources_over_site targets facts start reached (Some (Call calls along)) =
    flat_map (sources_over_edge targets facts reached) (filter (λ edge. nat_eq edge.end start) calls)
sources_over_site targets facts start reached (Some (Exit begin callers)) = []

-- what reaches the fact at the start over the call at the node
abbrev pub sources_over_call : {F : Type 0} → Targets F → Supergraph → ℕ → ℕ → ℕ → List (ℕ × F)
sources_over_call targets graph call start reached = sources_over_site targets graph.facts start reached (slice_get graph.sites call)

-- the list, as pairs of fact and function, is what reaches the fact at the start over the call at the node
abbrev pub ReachOver : {F : Type 0} → Targets F → Supergraph → ℕ → ℕ → ℕ → List (Source F) → Type 0
ReachOver targets graph call start reached list = map fact_and_function list ≡ sources_over_call targets graph call start reached

-- P holds, where the graph is of a program, and the sources are those of the graph
abbrev pub ForSources : {F : Type 0} → Targets F → Supergraph → List (List (Source F)) → Type 0 → Type 0
ForSources targets graph sources P = (p : Program) → IsGraphOf p graph → HasEdgesOf p graph → AreSourcesOf targets graph sources → P

-- the call at that index is the one at the node
abbrev pub IsCallAmong : List Caller → ℕ → ℕ → Type 0
IsCallAmong callers call index = (caller : Caller) × (slice_get callers index ≡ Some caller) × (caller.call_node ≡ call)

-- no call is the one at the node, where they ascend by their nodes
abbrev pub IsNoCallAmong : List Caller → ℕ → Type 0
IsNoCallAmong callers call = IsNonDecreasingBy (λ caller. caller.call_node) callers → All (λ caller. caller.call_node ≢ call) callers

-- at that index the exit of the procedure that begins at the start has the call at the node
abbrev pub IsCallerAt : Site → ℕ → ℕ → ℕ → Type 0
IsCallerAt exit call start index =
    (callers : List Caller) × (caller : Caller) × (exit ≡ Exit start callers) × (slice_get callers index ≡ Some caller) × (caller.call_node ≡ call)

-- it has no such call, where its callers ascend by their nodes
abbrev pub HasNoCaller : Site → ℕ → ℕ → Type 0
HasNoCaller exit call start = (callers : List Caller) → exit ≡ Exit start callers → IsNoCallAmong callers call
