-- An edge of a program is its node and its data: that the data are lawful adds nothing to tell two
-- edges apart.
use Rattle.std.specs.Prelude.{◌≡◌, ℕ, ◌+◌, ◌<◌, ◌^◌, List, [], ◌∷◌, Option, Some, None}
use Rattle.std.proofs.Common.{ap, subst, refl, ◌∙◌}
use Rattle.std.proofs.Math.Bridge.{le_prop}
use Rattle.std.proofs.Math.Nat.{ℕ_set}
use Rattle.ide_graph.specs.declared.edge.EdgeData.{EdgeData}
use Rattle.ide_graph.specs.declared.edge.EdgeKind.{EdgeKind}
use Rattle.ide_graph.specs.declared.edge.EdgeKind.TheVariants.{Normal, Call, Return, CallToReturn}
use Rattle.ide_graph.specs.declared.edge.Effect.{Effect}
use Rattle.ide_graph.specs.declared.edge.Effect.TheVariants.{Nothing, Number, Copy, Sum, Difference, Unknown, Mix, Enter}
use Rattle.ide_graph.specs.Lawful.{IsVariable, IsEffect, AreParameters, IsAssigned, IsKind, IsEdge}
use Rattle.ide_theory.specs.Given.{Edge}

pub both-prop : {A B : Type 0} → IsProp A → IsProp B → IsProp (A × B)
both-prop p q x y = ap (λ a. (a, x.1)) (p x.0 y.0) ∙ ap (λ b. (y.0, b)) (q x.1 y.1)

pub three-prop : {A B C : Type 0} → IsProp A → IsProp B → IsProp C → IsProp (A × B × C)
three-prop p q r x y =
    ap (λ a. (a, x.1, x.2)) (p x.0 y.0) ∙ (ap (λ b. (y.0, b, x.2)) (q x.1 y.1) ∙ ap (λ c. (y.0, y.1, c)) (r x.2 y.2))

pub less-prop : (a b : ℕ) → IsProp (a < b)
less-prop a b = le_prop

variable-prop : (facts fact : ℕ) → IsProp (IsVariable facts fact)
variable-prop facts fact = both-prop (less-prop 0 fact) (less-prop fact facts)

unit-prop : IsProp (Unit {0})
unit-prop x y = refl

effect-prop : (result facts : ℕ) (effect : Effect) → IsProp (IsEffect result facts effect)
effect-prop result facts Nothing = unit-prop
effect-prop result facts (Number target number) = both-prop (variable-prop facts target) (less-prop number (2 ^ 64))
effect-prop result facts (Copy target source) = both-prop (variable-prop facts target) (less-prop source facts)
effect-prop result facts (Sum target source number) =
    three-prop (variable-prop facts target) (less-prop source facts) (less-prop number (2 ^ 64))
effect-prop result facts (Difference target source number) =
    three-prop (variable-prop facts target) (less-prop source facts) (less-prop number (2 ^ 64))
effect-prop result facts (Unknown target) = variable-prop facts target
effect-prop result facts (Mix target first second) =
    three-prop (variable-prop facts target) (less-prop first facts) (less-prop second facts)
effect-prop result facts (Enter first end) = both-prop (less-prop result first) le_prop

parameters-prop : (facts low : ℕ) (pairs : List (ℕ × ℕ)) → IsProp (AreParameters facts low pairs)
parameters-prop facts low [] = unit-prop
parameters-prop facts low (pair ∷ pairs) = three-prop le_prop (less-prop pair.1 facts) (parameters-prop facts (pair.1 + 1) pairs)

assigned-prop : (facts : ℕ) (assigned : Option ℕ) → IsProp (IsAssigned facts assigned)
assigned-prop facts None = unit-prop
assigned-prop facts (Some fact) = variable-prop facts fact

kind-prop : (result facts : ℕ) (kind : EdgeKind) → IsProp (IsKind result facts kind)
kind-prop result facts (Normal effect) = effect-prop result facts effect
kind-prop result facts (Call pairs) = parameters-prop facts (result + 1) pairs
kind-prop result facts (Return assigned) = assigned-prop facts assigned
kind-prop result facts (CallToReturn assigned) = assigned-prop facts assigned

edge-prop : (edge : EdgeData) → IsProp (IsEdge edge)
edge-prop edge p q =
    let all : (p.result, p.facts, p.kind) ≡ (q.result, q.facts, q.kind) =
    three-prop (less-prop 0 edge.result) (less-prop edge.result edge.facts) (kind-prop edge.result edge.facts edge.kind)
    (p.result, p.facts, p.kind) (q.result, q.facts, q.kind) in
    ap (λ x. record { result = x.0; facts = x.1; kind = x.2 }) all

-- two edges out of one node with the same data are the same
pub same-edge : {facts : ℕ} (e f : Edge facts) → e.from ≡ f.from → e.edge ≡ f.edge → e ≡ f
same-edge {facts} e f from edge =
    subst (λ n. (l : IsEdge f.edge) (c : f.edge.facts ≡ facts) → e ≡ record { from = n; edge = f.edge; lawful = l; counted = c }) from
    (subst (λ d. (l : IsEdge d) (c : d.facts ≡ facts) → e ≡ record { from = e.from; edge = d; lawful = l; counted = c }) edge
    (λ l c. ap (λ m. record { from = e.from; edge = e.edge; lawful = m; counted = e.counted }) (edge-prop e.edge e.lawful l)
    ∙ ap (λ k. record { from = e.from; edge = e.edge; lawful = l; counted = k }) (ℕ_set e.edge.facts facts e.counted c)))
    f.lawful f.counted
