-- The parts that a task owes, by its key, its site and its partners.
use Rattle.std.specs.Prelude.{◌≡◌, ℕ, ◌+◌, List, [], ◌∷◌, ◌++◌, Option, None, Some, map, slice_get}
use Rattle.std.specs.List.{flat_map}
use Rattle.ide_lattice.specs.Algebra.{EdgeAlgebra}
use Rattle.ide_problem.specs.Flow.{IsPassed, Targets}
use Rattle.ide_graph.specs.declared.edge.EdgeData.{EdgeData}
use Rattle.ide_graph.specs.declared.site.Caller.{Caller}
use Rattle.ide_graph.specs.declared.site.Site.{Site}
use Rattle.ide_graph.specs.declared.site.Site.TheVariants.{Normal, Call, Exit}
use Rattle.ide_wire.specs.declared.key.Key.{Key}
use Rattle.ide_wire.specs.declared.key.Key.TheVariants.{Jump, Summary}
use Rattle.ide_tasks.specs.declared.partners.Partners.{Partners}
use Rattle.ide_tasks.specs.declared.partners.Partners.TheVariants.{Entries, Callers}
use Rattle.ide_tasks.specs.declared.partners.Reaching.{Reaching}
use Rattle.ide_tasks.specs.Task.{TaskData}

module _ {F L : Type 0} (B : EdgeAlgebra F L) (targets : Targets F) where
  -- over an edge: the function goes on to each target of the fact
  abbrev pub flat_parts : ℕ → ℕ → F → EdgeData → List (Key × F)
  flat_parts from to function edge = map (λ t. (Jump edge.end from t.0, B.compose function t.1)) (targets edge to)

  -- over a call edge: the identity at each target of the fact
  abbrev pub seed_parts : ℕ → EdgeData → List (Key × F)
  seed_parts to edge = map (λ t. (Jump edge.end t.0 t.0, B.id)) (targets edge to)

  -- over a call: the function goes on by each summary
  abbrev pub after_parts : ℕ → ℕ → F → List (ℕ × F) → List (Key × F)
  after_parts site from function summaries = map (λ s. (Jump site from s.0, B.compose function s.1)) summaries

  -- for a summary: each jump to its call node goes on by it
  abbrev pub resumed_parts : ℕ → ℕ → F → List (ℕ × F) → List (Key × F)
  resumed_parts site to summary jumps = map (λ j. (Jump site j.0 to, B.compose j.1 summary)) jumps

  -- over a procedure: the summaries of a call of it, from a fact at its call node, each by the
  -- functions into the procedure, through it and back
  abbrev pub summary_parts : ℕ → F → Reaching F → Caller → List (Key × F)
  summary_parts to function source caller =
      map (λ t. (Summary caller.call_node source.fact t.0, B.compose (B.compose source.function function) t.1)) (targets caller.back to)

  -- none where there is no such caller
  abbrev pub exit_parts : ℕ → F → Reaching F → Option Caller → List (Key × F)
  exit_parts to function source None = []
  exit_parts to function source (Some caller) = summary_parts to function source caller

  -- over a procedure, to each caller that its start is reached from
  abbrev pub returned_parts : ℕ → F → List Caller → List (Reaching F) → List (Key × F)
  returned_parts to function callers reaching = flat_map (λ source. exit_parts to function source (slice_get callers source.caller)) reaching

  -- what a key owes at a site with those partners
  abbrev pub parts_at : Key → F → Site → Partners F → List (Key × F)
  parts_at (Jump n from to) function (Normal edges) partners = flat_map (flat_parts from to function) edges
  parts_at (Jump n from to) function (Call calls along) (Entries summaries) =
      flat_map (seed_parts to) calls ++ flat_parts from to function along ++ after_parts along.end from function summaries
  parts_at (Jump n from to) function (Exit start callers) (Callers reaching) = returned_parts to function callers reaching
  parts_at (Summary c from to) summary (Call calls along) (Entries jumps) = resumed_parts along.end to summary jumps
  parts_at key function site partners = []

  -- the key is a jump at a node that is neither call nor exit, and they are the parts that it owes there
  abbrev pub FillsAlone : Key → F → Site → List (Key × F) → Type 0
  FillsAlone (Jump n from to) function (Normal edges) parts = parts ≡ flat_map (flat_parts from to function) edges
  FillsAlone key function site parts = ⊥

  -- one edge leaves the site of a node that is neither call nor exit, which leads to the node behind it and passes the fact on
  -- unchanged
  abbrev pub PassesBehind : ℕ → ℕ → Site → Type 0
  PassesBehind node fact (Normal edges) =
      (edge : EdgeData) × (edges ≡ edge ∷ []) × (edge.end ≡ node + 1) × IsPassed B.id (targets edge fact) fact
  PassesBehind node fact site = ⊥

  -- the parts that the task owes
  abbrev pub owed : TaskData F → List (Key × F)
  owed task = parts_at task.key task.function task.site task.partners
