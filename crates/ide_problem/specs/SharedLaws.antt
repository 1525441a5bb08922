-- The shared flow meets the laws of a flow, where what is received is proper.
use Rattle.std.specs.Prelude.{◌≡◌, ℕ, zero, suc, ◌+◌, ◌-◌, ◌<◌, ◌≤◌, Bool, true, false, not, ◌&&◌, ◌||◌, List, [], ◌∷◌, ◌++◌, Option, Some, None, IsTrue, cond, nat_eq, nat_lt, nat_le, map}
use Rattle.std.specs.List.{flat_map, range_with_len}
use Rattle.std.proofs.Common.{refl, arith}
use Rattle.std.proofs.lemmas.Bool.Decides.{nat_tests}
use Rattle.ide_graph.specs.declared.edge.EdgeData.{EdgeData}
use Rattle.ide_graph.specs.declared.edge.EdgeKind.{EdgeKind}
use Rattle.ide_graph.specs.declared.edge.EdgeKind.TheVariants.{Normal, Call, Return, CallToReturn}
use Rattle.ide_graph.specs.declared.edge.Effect.{Effect}
use Rattle.ide_graph.specs.declared.edge.Effect.TheVariants.{Nothing, Number, Copy, Sum, Difference, Unknown, Mix, Enter}
use Rattle.ide_graph.specs.Lawful.{IsEdge, IsKind, IsEffect, AreParameters}
use Rattle.ide_lattice.specs.Algebra.{LatticeAlgebra, EdgeAlgebra}
use Rattle.ide_lattice.specs.Laws.{IsEdgeAlgebra}
use Rattle.ide_problem.specs.Flow.{AreTargets, IsFlow, function_to}
use Rattle.ide_problem.specs.Shared.{kept, received_at, assigned_targets, is_entered, call_targets, is_assigned, effect_targets, kind_targets, edge_targets}

-- what is received, if anything is, is proper
abbrev pub IsReceived : {F : Type 0} → (F → Bool) → Option F → Type 0
IsReceived proper None = Unit {0}
IsReceived proper (Some function) = IsTrue (proper function)

-- tests of `@zero` and of numbers in order
pub lt-true : (n : ℕ) → 0 < n → nat_lt 0 n ≡ true
lt-true n h = grind (arith, nat_tests)

pub lt-false : (k n : ℕ) → n ≤ k → nat_lt k n ≡ false
lt-false k n h = grind (arith, nat_tests)

pub zero-ne : (n : ℕ) → 0 < n → nat_eq 0 n ≡ false
zero-ne n h = grind (arith, nat_tests)

pub ne-zero : (n : ℕ) → 0 < n → nat_eq n 0 ≡ false
ne-zero n h = grind (arith, nat_tests)

module _ {F : Type 0} (p : F → Bool) where
  pub are_lower : (low mid count : ℕ) (ts : List (ℕ × F)) → low ≤ mid → AreTargets p mid count ts → AreTargets p low count ts
  are_lower low mid count [] h all = tt
  are_lower low mid count (t ∷ ts) h all = (omega (arith, h, all.0), all.1, all.2, all.3)

  pub are_append : (low mid count : ℕ) (xs ys : List (ℕ × F)) → low ≤ mid → mid ≤ count
      → AreTargets p low mid xs → AreTargets p mid count ys → AreTargets p low count (xs ++ ys)
  are_append low mid count [] ys lm mc all more = are_lower low mid count ys lm more
  are_append low mid count (t ∷ ts) ys lm mc all more =
      (all.0, omega (arith, all.1, mc), all.2, are_append (t.0 + 1) mid count ts ys (omega (arith, all.1)) mc all.3 more)

  pub are_kept : (id : F) → IsTrue (p id) → (test : Bool) (low fact count : ℕ)
      → (test ≡ true → low ≤ fact) → (test ≡ true → fact < count) → AreTargets p low count (kept id test fact)
  are_kept id proper true low fact count least most = (least refl, most refl, proper, tt)
  are_kept id proper false low fact count least most = tt

  pub are_received : (target : ℕ) (received : Option F) → IsReceived p received → AreTargets p target (target + 1) (received_at target received)
  are_received target None proper = tt
  are_received target (Some function) proper = (omega arith, omega arith, proper, tt)

  -- one number after another
  pub are_range : (function : F) → IsTrue (p function) → (first n count : ℕ) → (0 < n → first + n ≤ count)
      → AreTargets p first count (map (λ local. (local, function)) (range_with_len first n))
  are_range function proper first zero count h = tt
  are_range function proper first (suc n) count h =
      (omega arith, omega (arith, h (omega arith)), proper, are_range function proper (first + 1) n count (λ some. omega (arith, h (omega arith))))

module _ {F L : Type 0} (A : LatticeAlgebra L) (B : EdgeAlgebra F L) (laws : IsEdgeAlgebra A B) where
  pub are_pairs : (facts low fact : ℕ) (pairs : List (ℕ × ℕ)) → AreParameters facts low pairs
      → AreTargets B.proper low facts (flat_map (λ pair. kept B.id (nat_eq pair.0 fact) pair.1) pairs)
  are_pairs facts low fact [] all = tt
  are_pairs facts low fact (pair ∷ pairs) all =
      are_append B.proper low (pair.1 + 1) facts (kept B.id (nat_eq pair.0 fact) pair.1)
      (flat_map (λ q. kept B.id (nat_eq q.0 fact) q.1) pairs)
      (omega (arith, all.0)) (omega (arith, all.1))
      (are_kept B.proper B.id laws.proper_id (nat_eq pair.0 fact) low pair.1 (pair.1 + 1) (λ same. all.0) (λ same. omega arith))
      (are_pairs facts (pair.1 + 1) fact pairs all.2)

  pub are_assigned : (facts target : ℕ) (received : Option F) (fact : ℕ) → fact < facts → target < facts → IsReceived B.proper received
      → AreTargets B.proper 0 facts (assigned_targets B.id target received fact)
  are_assigned facts target received fact few within proper =
      are_append B.proper 0 target facts (kept B.id (nat_lt fact target) fact) (received_at target received ++ kept B.id (nat_lt target fact) fact)
      (omega arith) (omega (arith, within))
      (are_kept B.proper B.id laws.proper_id (nat_lt fact target) 0 fact target (λ same. omega arith) (λ same. grind (arith, nat_tests)))
      (are_append B.proper target (target + 1) facts (received_at target received) (kept B.id (nat_lt target fact) fact)
      (omega arith) (omega (arith, within))
      (are_received B.proper target received proper)
      (are_kept B.proper B.id laws.proper_id (nat_lt target fact) (target + 1) fact facts (λ same. grind (arith, nat_tests)) (λ same. few)))

  -- out of a start, by whether the fact is `@zero`
  pub are_entered : (at_entry : F) → IsTrue (B.proper at_entry) → (facts result first end fact : ℕ) → fact < facts
      → 0 < result → result < facts → result < first → end ≤ facts
      → (is_zero : Bool) → AreTargets B.proper 0 facts
      (cond is_zero ((0, B.id) ∷ (result, at_entry) ∷ map (λ local. (local, at_entry)) (range_with_len first (end - first)))
      (kept B.id (not (is_entered result first end fact)) fact))
  are_entered at_entry proper facts result first end fact few some within past ends true = (
    omega arith,
    omega (arith, few),
    laws.proper_id,
    (
      omega (arith, some),
      within,
      proper,
      are_lower B.proper (result + 1) first facts (map (λ local. (local, at_entry)) (range_with_len first (end - first))) (omega (arith, past))
          (are_range B.proper at_entry proper first (end - first) facts (λ more. omega (arith, more, ends))),
    ),
  )
  are_entered at_entry proper facts result first end fact few some within past ends false =
      are_kept B.proper B.id laws.proper_id (not (is_entered result first end fact)) 0 fact facts (λ same. omega arith) (λ same. few)

  pub are_call : (facts result fact : ℕ) (pairs : List (ℕ × ℕ)) → fact < facts → result < facts → AreParameters facts (result + 1) pairs
      → AreTargets B.proper 0 facts (call_targets B.id result pairs fact)
  are_call facts result fact pairs few within all =
      are_append B.proper 0 (result + 1) facts (kept B.id (nat_lt fact result) fact) (flat_map (λ pair. kept B.id (nat_eq pair.0 fact) pair.1) pairs)
      (omega arith) (omega (arith, within))
      (are_kept B.proper B.id laws.proper_id (nat_lt fact result) 0 fact (result + 1) (λ same. omega arith) (λ same. grind (arith, nat_tests)))
      (are_pairs facts (result + 1) fact pairs all)

  pub are_returned : (facts result target fact : ℕ) → fact < facts → target < facts → (is_result : Bool)
      → AreTargets B.proper 0 facts (cond is_result ((target, B.id) ∷ []) (kept B.id (nat_lt fact result && not (nat_eq target fact)) fact))
  are_returned facts result target fact few within true = (omega arith, within, laws.proper_id, tt)
  are_returned facts result target fact few within false =
      are_kept B.proper B.id laws.proper_id (nat_lt fact result && not (nat_eq target fact)) 0 fact facts (λ same. omega arith) (λ same. few)

  pub are_effect : (received : Option F) (at_entry : F) → IsReceived B.proper received → IsTrue (B.proper at_entry)
      → (facts result fact : ℕ) (effect : Effect) → fact < facts → 0 < result → result < facts → IsEffect result facts effect
      → AreTargets B.proper 0 facts (effect_targets B.id received at_entry result effect fact)
  are_effect received at_entry rp ap facts result fact Nothing few some within lawful = (omega arith, few, laws.proper_id, tt)
  are_effect received at_entry rp ap facts result fact (Number target number) few some within lawful = are_assigned facts target received fact few lawful.0.1 rp
  are_effect received at_entry rp ap facts result fact (Copy target source) few some within lawful = are_assigned facts target received fact few lawful.0.1 rp
  are_effect received at_entry rp ap facts result fact (Sum target source number) few some within lawful = are_assigned facts target received fact few lawful.0.1 rp
  are_effect received at_entry rp ap facts result fact (Difference target source number) few some within lawful = are_assigned facts target received fact few lawful.0.1 rp
  are_effect received at_entry rp ap facts result fact (Unknown target) few some within lawful = are_assigned facts target received fact few lawful.1 rp
  are_effect received at_entry rp ap facts result fact (Mix target first second) few some within lawful = are_assigned facts target received fact few lawful.0.1 rp
  are_effect received at_entry rp ap facts result fact (Enter first end) few some within lawful =
      are_entered at_entry ap facts result first end fact few some within lawful.0 lawful.1 (nat_eq fact 0)

  pub are_kind : (received : Option F) (at_entry : F) → IsReceived B.proper received → IsTrue (B.proper at_entry)
      → (facts result fact : ℕ) (kind : EdgeKind) → fact < facts → 0 < result → result < facts → IsKind result facts kind
      → AreTargets B.proper 0 facts (kind_targets B.id received at_entry result kind fact)
  are_kind received at_entry rp ap facts result fact (Normal effect) few some within lawful = are_effect received at_entry rp ap facts result fact effect few some within lawful
  are_kind received at_entry rp ap facts result fact (Call pairs) few some within lawful = are_call facts result fact pairs few within lawful
  are_kind received at_entry rp ap facts result fact (Return None) few some within lawful =
      are_kept B.proper B.id laws.proper_id (nat_lt fact result) 0 fact facts (λ same. omega arith) (λ same. few)
  are_kind received at_entry rp ap facts result fact (Return (Some target)) few some within lawful =
      are_returned facts result target fact few lawful.1 (nat_eq fact result)
  are_kind received at_entry rp ap facts result fact (CallToReturn assigned) few some within lawful =
      are_kept B.proper B.id laws.proper_id (nat_eq fact 0 || (nat_le result fact && not (is_assigned assigned fact))) 0 fact facts (λ same. omega arith) (λ same. few)

  -- the targets over an edge, by whether the program has the fact
  pub are_edge : (received : Option F) (at_entry : F) → IsReceived B.proper received → IsTrue (B.proper at_entry)
      → (edge : EdgeData) → IsEdge edge → (fact : ℕ) (is_in : Bool) → nat_lt fact edge.facts ≡ is_in
      → AreTargets B.proper 0 edge.facts (cond is_in (kind_targets B.id received at_entry edge.result edge.kind fact) [])
  are_edge received at_entry rp ap edge lawful fact true same =
      are_kind received at_entry rp ap edge.facts edge.result fact edge.kind (grind (arith, nat_tests)) lawful.result lawful.facts lawful.kind
  are_edge received at_entry rp ap edge lawful fact false same = tt

  -- `@zero` over each kind of edge
  pub zero_effect : (received : Option F) (at_entry : F) (facts result : ℕ) (effect : Effect) → IsEffect result facts effect
      → function_to B 0 (effect_targets B.id received at_entry result effect 0) ≡ B.id
  zero_effect received at_entry facts result Nothing lawful = refl
  zero_effect received at_entry facts result (Number target number) lawful = rw (lt-true target lawful.0.0) refl
  zero_effect received at_entry facts result (Copy target source) lawful = rw (lt-true target lawful.0.0) refl
  zero_effect received at_entry facts result (Sum target source number) lawful = rw (lt-true target lawful.0.0) refl
  zero_effect received at_entry facts result (Difference target source number) lawful = rw (lt-true target lawful.0.0) refl
  zero_effect received at_entry facts result (Unknown target) lawful = rw (lt-true target lawful.0) refl
  zero_effect received at_entry facts result (Mix target first second) lawful = rw (lt-true target lawful.0.0) refl
  zero_effect received at_entry facts result (Enter first end) lawful = refl

  pub zero_kind : (received : Option F) (at_entry : F) (facts result : ℕ) (kind : EdgeKind) → 0 < result → IsKind result facts kind
      → function_to B 0 (kind_targets B.id received at_entry result kind 0) ≡ B.id
  zero_kind received at_entry facts result (Normal effect) some lawful = zero_effect received at_entry facts result effect lawful
  zero_kind received at_entry facts result (Call pairs) some lawful = rw (lt-true result some) refl
  zero_kind received at_entry facts result (Return None) some lawful = rw (lt-true result some) refl
  zero_kind received at_entry facts result (Return (Some target)) some lawful = rw (zero-ne result some, ne-zero target lawful.0, lt-true result some) refl
  zero_kind received at_entry facts result (CallToReturn assigned) some lawful = refl

  -- an analysis of assignments has a flow: what it receives is proper, and so is what is entered
  pub shared_flow : (received : EdgeData → ℕ → Option F) (at_entry : F)
      → ((edge : EdgeData) (fact : ℕ) → IsEdge edge → IsReceived B.proper (received edge fact)) → IsTrue (B.proper at_entry)
      → IsFlow B (λ edge fact. edge_targets B.id (received edge fact) at_entry edge fact)
  shared_flow received at_entry rp ap = record {
    in_order = λ edge fact lawful. are_edge (received edge fact) at_entry (rp edge fact lawful) ap edge lawful fact (nat_lt fact edge.facts) refl;
    none_outside = λ edge fact lawful past. rw (lt-false fact edge.facts past) refl;
    zero = λ edge lawful. rw (lt-true edge.facts (omega (arith, lawful.result, lawful.facts))) (zero_kind (received edge 0) at_entry edge.facts edge.result edge.kind lawful.result lawful.kind);
  }
