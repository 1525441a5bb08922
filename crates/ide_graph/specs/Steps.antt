-- What is told of each node beside its site: the facts that it surely leaves alone on the way to the node behind it.
use Rattle.std.specs.Prelude.{◌≡◌, ℕ, ◌+◌, ◌<◌, Bool, true, not, ◌&&◌, List, [], ◌∷◌, Some, length, nat_eq, slice_get}
use Rattle.ide_graph.specs.Alone.{LeavesAlone, is_unnamed}
use Rattle.ide_graph.specs.declared.edge.EdgeData.{EdgeData}
use Rattle.ide_graph.specs.declared.edge.EdgeKind.{EdgeKind}
use Rattle.ide_graph.specs.declared.site.Site.{Site}
use Rattle.ide_graph.specs.declared.site.Site.TheVariants.{Normal}
use Rattle.ide_graph.specs.declared.step.Step.{Step}

-- one edge leaves the site of a node, which leads to the node behind it and leaves the fact alone
abbrev pub LeadsBehind : (node fact : ℕ) → Site → Type 0
LeadsBehind node fact (Normal edges) = (edge : EdgeData) × (edges ≡ edge ∷ []) × (edge.end ≡ node + 1) × LeavesAlone edge fact
LeadsBehind node fact site = ⊥

-- so it is at the node that has the site
pub record PassesBy (sites : List Site) (node fact : ℕ) : Type 0 where
  pub site : Site
  pub stands : slice_get sites node ≡ Some site
  pub leads : LeadsBehind node fact site

-- whether a step says so of the fact: it leads to the node behind, and has the fact among none of its three, nor is that `@zero`
abbrev pub passes_by : Step → ℕ → Bool
passes_by step fact =
    step.leads_behind && not (nat_eq fact 0) && not (nat_eq fact step.first) && not (nat_eq fact step.second)
    && not (nat_eq fact step.third)

-- the step of a statement that names these facts
abbrev pub step_beside : (first second third : ℕ) → Step
step_beside first second third = record { leads_behind = true; first = first; second = second; third = third }

-- the step says so of no fact that the statement on an edge of the kind names
abbrev pub IsStepOver : EdgeKind → Step → Type 0
IsStepOver kind step = (fact : ℕ) → passes_by step fact ≡ true → is_unnamed kind fact ≡ true

-- it says no more than what is so at a node with the site, of facts that the program has
abbrev pub IsStepFor : (facts node : ℕ) → Site → Step → Type 0
IsStepFor facts node site step = (fact : ℕ) → fact < facts → passes_by step fact ≡ true → LeadsBehind node fact site

-- the step of the node says no more than what is so, of facts that the program has
abbrev pub IsStepAt : (facts : ℕ) → List Site → ℕ → Step → Type 0
IsStepAt facts sites node step = (fact : ℕ) → fact < facts → passes_by step fact ≡ true → PassesBy sites node fact

-- there is a step for each site, and each is one of its node
pub record AreStepsOf (facts : ℕ) (sites : List Site) (steps : List Step) : Type 0 where
  pub counted : length steps ≡ length sites
  pub each : (node : ℕ) (step : Step) → slice_get steps node ≡ Some step → IsStepAt facts sites node step
