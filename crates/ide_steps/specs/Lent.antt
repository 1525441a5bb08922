-- What is lent of the inverse of a call's flow.
use Rattle.std.specs.Prelude.{ℕ, ◌<◌, List}
use Rattle.std.specs.List.{AllPairs}
use Rattle.ide_problem.specs.Flow.{Targets}
use Rattle.ide_tasks.specs.Sources.{ReachOver}
use Rattle.ide_tasks.specs.declared.sources.Source.{Source}
use Rattle.ide_steps.specs.Core.{CoreData, WhereLoaded}

-- where a program is loaded, they are what reaches the fact at the start over the call at the node
abbrev pub AreLent : {F : Type 0} → Targets F → CoreData F → ℕ → ℕ → ℕ → List (Source F) → Type 0
AreLent targets core call start fact sources = WhereLoaded core (λ graph. ReachOver targets graph call start fact sources)

-- the facts at the call node ascend strictly, so that each stands there once
abbrev pub FactsAscend : {F : Type 0} → List (Source F) → Type 0
FactsAscend sources = AllPairs (λ x y. x.from.fact < y.from.fact) sources
