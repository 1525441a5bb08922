-- The data of an edge as the flow of an analysis may rely on them: facts in range, none assigns
-- `@zero`, and parameters ascend.
use Rattle.std.specs.Prelude.{ℕ, ◌+◌, ◌<◌, ◌≤◌, ◌^◌, List, [], ◌∷◌, Option, Some, None}
use Rattle.ide_graph.specs.declared.edge.EdgeData.{EdgeData}
use Rattle.ide_graph.specs.declared.edge.EdgeKind.{EdgeKind}
use Rattle.ide_graph.specs.declared.edge.EdgeKind.TheVariants.{Normal, Call, Return, CallToReturn}
use Rattle.ide_graph.specs.declared.edge.Effect.{Effect}
use Rattle.ide_graph.specs.declared.edge.Effect.TheVariants.{Nothing, Number, Copy, Sum, Difference, Unknown, Mix, Enter}

-- a fact of a variable or of a result: not `@zero`
abbrev pub IsVariable : ℕ → ℕ → Type 0
IsVariable facts fact = (0 < fact) × (fact < facts)

-- what a statement assigns and reads is in range, and its number fits 64 bits
abbrev pub IsEffect : ℕ → ℕ → Effect → Type 0
IsEffect result facts Nothing = Unit {0}
IsEffect result facts (Number target number) = IsVariable facts target × (number < 2 ^ 64)
IsEffect result facts (Copy target source) = IsVariable facts target × (source < facts)
IsEffect result facts (Sum target source number) = IsVariable facts target × (source < facts) × (number < 2 ^ 64)
IsEffect result facts (Difference target source number) = IsVariable facts target × (source < facts) × (number < 2 ^ 64)
IsEffect result facts (Unknown target) = IsVariable facts target
IsEffect result facts (Mix target first second) = IsVariable facts target × (first < facts) × (second < facts)
IsEffect result facts (Enter first end) = (result < first) × (end ≤ facts)

-- each argument with its parameter, the parameters ascending from `low` on
abbrev pub AreParameters : ℕ → ℕ → List (ℕ × ℕ) → Type 0
AreParameters facts low [] = Unit {0}
AreParameters facts low (pair ∷ pairs) = (low ≤ pair.1) × (pair.1 < facts) × AreParameters facts (pair.1 + 1) pairs

-- the fact that a call assigns, where it assigns one
abbrev pub IsAssigned : ℕ → Option ℕ → Type 0
IsAssigned facts None = Unit {0}
IsAssigned facts (Some fact) = IsVariable facts fact

-- what is stated of an edge of each kind
abbrev pub IsKind : ℕ → ℕ → EdgeKind → Type 0
IsKind result facts (Normal effect) = IsEffect result facts effect
IsKind result facts (Call pairs) = AreParameters facts (result + 1) pairs
IsKind result facts (Return assigned) = IsAssigned facts assigned
IsKind result facts (CallToReturn assigned) = IsAssigned facts assigned

-- the edge's facts are numbered as a program's are
pub record IsEdge (edge : EdgeData) : Type 0 where
  pub result : 0 < edge.result
  pub facts : edge.result < edge.facts
  pub kind : IsKind edge.result edge.facts edge.kind
