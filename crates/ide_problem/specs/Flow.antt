-- What the flow of an analysis is, and its laws.
use Rattle.std.specs.Prelude.{◌≡◌, ℕ, ◌+◌, ◌<◌, ◌≤◌, Bool, List, [], ◌∷◌, IsTrue, cond, nat_eq}
use Rattle.ide_graph.specs.declared.edge.EdgeData.{EdgeData}
use Rattle.ide_graph.specs.Alone.{LeavesAlone}
use Rattle.ide_graph.specs.Lawful.{IsEdge}
use Rattle.ide_lattice.specs.Algebra.{EdgeAlgebra}

-- for an edge and a fact at its source: the facts at its end that depend on it, each with its function
abbrev pub Targets : Type 0 → Type 0
Targets F = EdgeData → ℕ → List (ℕ × F)

-- the targets are the fact alone, by the identity
abbrev pub IsPassed : {F : Type 0} → F → List (ℕ × F) → ℕ → Type 0
IsPassed id targets fact = targets ≡ (fact, id) ∷ []

-- over each edge each fact that it leaves alone is passed on unchanged
abbrev pub KeepsUnnamed : {F : Type 0} → F → Targets F → Type 0
KeepsUnnamed id targets = (edge : EdgeData) (fact : ℕ) → LeavesAlone edge fact → IsPassed id (targets edge fact) fact

-- the function to a fact: the listed one, else the one that always gives top
abbrev pub function_to : {F L : Type 0} → EdgeAlgebra F L → ℕ → List (ℕ × F) → F
function_to B fact [] = B.all_top
function_to B fact (target ∷ targets) = cond (nat_eq target.0 fact) target.1 (function_to B fact targets)

-- targets from `low` to before `count`, ascending, each with a proper function
abbrev pub AreTargets : {F : Type 0} → (F → Bool) → ℕ → ℕ → List (ℕ × F) → Type 0
AreTargets proper low count [] = Unit {0}
AreTargets proper low count (target ∷ targets) =
    (low ≤ target.0) × (target.0 < count) × IsTrue (proper target.1) × AreTargets proper (target.0 + 1) count targets

-- targets are distinct, ascending, in range and proper; a fact out of range has none; and over
-- each edge `@zero` goes to `@zero` by the identity
pub record IsFlow {F L : Type 0} (B : EdgeAlgebra F L) (targets : Targets F) : Type 0 where
  pub in_order : (edge : EdgeData) (fact : ℕ) → IsEdge edge → AreTargets B.proper 0 edge.facts (targets edge fact)
  pub none_outside : (edge : EdgeData) (fact : ℕ) → IsEdge edge → edge.facts ≤ fact → targets edge fact ≡ []
  pub zero : (edge : EdgeData) → IsEdge edge → function_to B 0 (targets edge 0) ≡ B.id
