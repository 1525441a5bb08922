-- The shared flow keeps what a statement does not name, where the assigned fact receives nothing from that.
use Rattle.std.specs.Prelude.{◌≡◌, ℕ, Bool, true, false, not, ◌&&◌, ◌||◌, List, [], ◌∷◌, Option, Some, None, cond, nat_eq, nat_lt}
use Rattle.std.specs.Bool.{then_some}
use Rattle.std.proofs.Common.{refl, arith, ap}
use Rattle.std.proofs.lemmas.Bool.Decides.{nat_tests}
use Rattle.ide_graph.specs.Alone.{LeavesAlone, is_unnamed, statement_names}
use Rattle.ide_graph.specs.declared.edge.EdgeData.{EdgeData}
use Rattle.ide_graph.specs.declared.edge.EdgeKind.{EdgeKind}
use Rattle.ide_graph.specs.declared.edge.EdgeKind.TheVariants.{Normal, Call, Return, CallToReturn}
use Rattle.ide_graph.specs.declared.edge.Effect.{Effect}
use Rattle.ide_graph.specs.declared.edge.Effect.TheVariants.{Nothing, Number, Copy, Sum, Difference, Unknown, Mix, Enter}
use Rattle.ide_problem.specs.Flow.{IsPassed, KeepsUnnamed}
use Rattle.ide_problem.specs.Shared.{assigned_targets, edge_targets, kind_targets}

both-not : (a b : Bool) → not a && not b ≡ true → (a ≡ false) × (b ≡ false)
both-not true b h = cc
both-not false true h = cc
both-not false false h = (refl, refl)

-- of two tests that do not hold together, neither does
pub neither : (a b : Bool) → (a || b) ≡ false → (a ≡ false) × (b ≡ false)
neither true b h = cc
neither false b h = (refl, h)

-- a fact that a statement does not name is not `@zero`, and the statement does not name it
pub unnamed-parts : (effect : Effect) (fact : ℕ) → is_unnamed (Normal effect) fact ≡ true → (nat_eq fact 0 ≡ false) × (statement_names effect fact ≡ false)
unnamed-parts effect fact h = both-not (nat_eq fact 0) (statement_names effect fact) h

-- a fact that a statement with one source does not name is not the source
pub not-source : (target source fact : ℕ) → (nat_eq fact target || nat_eq fact source) ≡ false → nat_eq fact source ≡ false
not-source target source fact h = (neither (nat_eq fact target) (nat_eq fact source) h).1

-- nothing is received where a test does not hold
pub not-given : {F : Type 0} (test : Bool) (function : F) → test ≡ false → then_some test function ≡ None
not-given test function h = ap (λ b. then_some b function) h

module _ {F : Type 0} (id at_entry : F) where
  assigned : (target fact : ℕ) → nat_eq fact target ≡ false → IsPassed id (assigned_targets id target None fact) fact
  assigned target fact other = grind (arith, nat_tests)

  by-effect : (result : ℕ) (effect : Effect) (fact : ℕ) → statement_names effect fact ≡ false → IsPassed id (kind_targets id None at_entry result (Normal effect) fact) fact
  by-effect result Nothing fact other = refl
  by-effect result (Number target number) fact other = assigned target fact other
  by-effect result (Copy target source) fact other = assigned target fact (neither (nat_eq fact target) (nat_eq fact source) other).0
  by-effect result (Sum target source number) fact other = assigned target fact (neither (nat_eq fact target) (nat_eq fact source) other).0
  by-effect result (Difference target source number) fact other = assigned target fact (neither (nat_eq fact target) (nat_eq fact source) other).0
  by-effect result (Unknown target) fact other = assigned target fact other
  by-effect result (Mix target first second) fact other =
      assigned target fact
      (neither (nat_eq fact target) (nat_eq fact first) (neither (nat_eq fact target || nat_eq fact first) (nat_eq fact second) other).0).0
  by-effect result (Enter first end) fact other = cc

  by-kind : (result : ℕ) (kind : EdgeKind) (fact : ℕ) → is_unnamed kind fact ≡ true → IsPassed id (kind_targets id None at_entry result kind fact) fact
  by-kind result (Normal effect) fact h = by-effect result effect fact (unnamed-parts effect fact h).1
  by-kind result (Call pairs) fact h = cc
  by-kind result (Return target) fact h = cc
  by-kind result (CallToReturn target) fact h = cc

  -- the flow keeps what is not named, where nothing is received from that
  pub shared_keeps : (received : EdgeKind → ℕ → Option F) → ((kind : EdgeKind) (fact : ℕ) → is_unnamed kind fact ≡ true → received kind fact ≡ None)
      → KeepsUnnamed id (λ edge fact. edge_targets id (received edge.kind fact) at_entry edge fact)
  shared_keeps received nothing edge fact alone =
      let within : nat_lt fact edge.facts ≡ true = grind (arith, nat_tests, alone.within) in
      rw (nothing edge.kind fact alone.unnamed)
      (rw within (by-kind edge.result edge.kind fact alone.unnamed))
