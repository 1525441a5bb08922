-- A run has few claims, and when each hand gives its own back, what is left is a run without claims.
use Rattle.std.proofs.Common.{◌≡◌, ◌≢◌, ℕ, zero, suc, ◌+◌, ◌≤◌, nat_eq, Option, Some, None, option_map, ap, sym, refl, ◌∙◌, inl, inr, subst, arith}
use Rattle.ide_wire.specs.declared.key.Key.TheVariants.{Jump}
use Rattle.ide_theory.specs.Frame.{Frame}
use Rattle.ide_theory.specs.State.{Claim, State, put, without_first, claim_marked, with_claim, lowered_in_frame}
use Rattle.ide_theory.specs.Run.{Step, claim, skip, lower, release, finish, root, Run, begins, goes_on}
use Rattle.ide_theory.specs.Invariant.{unclaimed}
use Rattle.ide_theory.proofs.Laws.Changes.{hand-tells}

-- no hand from this one on has a claim
abbrev pub AreFreeFrom : {F : Type 0} → State F → ℕ → Type 0
AreFreeFrom s n = (h : ℕ) → n ≤ h → s.claims h ≡ None

module _ {F : Type 0} where
  free-with : (s : State F) (n h : ℕ) (c : Option (Claim F)) → AreFreeFrom s n → AreFreeFrom (with_claim s h c) (n + (h + 1))
  free-with s n h c free j most = elim (hand-tells s.claims h c j) [
    | inl here ↦ let same : h ≡ j = here.0 in absurd (omega (arith, same, most))
    | inr other ↦ other.1 ∙ free j (omega (arith, most))
  ]

  free-without : (s : State F) (n h : ℕ) (c : Option (Claim F)) → (s.claims h ≡ None → c ≡ None) → AreFreeFrom s n → AreFreeFrom (with_claim s h c) n
  free-without s n h c none free j most = elim (hand-tells s.claims h c j) [
    | inl here ↦ here.1 ∙ none (ap s.claims here.0 ∙ free j most)
    | inr other ↦ other.1 ∙ free j most
  ]

  -- states with the same claims of each hand are the same
  same-claims : (s : State F) (claims : ℕ → Option (Claim F)) → ((h : ℕ) → claims h ≡ s.claims h) → record s { claims = claims } ≡ s
  same-claims s claims same = λ i. record { get = s.get; pending = s.pending; claims = λ h. same h i }

-- what is left when the hands below one have given back their claims
abbrev pub claims_from : {F : Type 0} → ℕ → (ℕ → Option (Claim F)) → ℕ → Option (Claim F)
claims_from zero claims = claims
claims_from (suc n) claims = put nat_eq (claims_from n claims) n None

left-from : {F : Type 0} (n : ℕ) (claims : ℕ → Option (Claim F)) (h : ℕ) → (n ≤ h → claims h ≡ None) → claims_from n claims h ≡ None
left-from zero claims h free = free (omega arith)
left-from (suc n) claims h free = elim (hand-tells (claims_from n claims) n None h) [
  | inl here ↦ here.1
  | inr other ↦ let apart : n ≢ h = other.0 in other.1 ∙ left-from n claims h (λ most. free (omega (arith, most, apart)))
]

module _ (K : Frame) where
  open K use {F}

  free-step : {s t : State F} → Step K s t → (n : ℕ) → AreFreeFrom s n → (m : ℕ) × AreFreeFrom t m
  free-step (claim {s = s} h q parts free waits alone owes) n none = (n + (h + 1), free-with s n h _ none)
  free-step (skip {s = s} h c t g rest mine parts met) n none = (n, free-without s n h _ (ap (option_map without_first)) none)
  free-step (lower {s = s} h c t g rest mine parts changes) n none =
      (n, free-without (lowered_in_frame K s t g) n h _ (ap (option_map without_first)) (λ j most. ap (option_map (claim_marked t)) (none j most)))
  free-step (release {s = s} h c mine) n none = (n, free-without s n h None (λ _. refl) none)
  free-step (finish {s = s} h c mine over) n none = (n, free-without s n h None (λ _. refl) none)
  free-step (root r d is_start in_range absent) n none = (n, λ j most. ap (option_map (claim_marked (Jump r d d))) (none j most))

  -- from some hand on no hand has a claim
  pub free-run : {s : State F} → Run K s → (n : ℕ) × AreFreeFrom s n
  free-run begins = (0, λ h _. refl)
  free-run (goes_on run step) = let before = free-run run in free-step step before.0 before.1

  run-without : {s : State F} → Run K s → (h : ℕ) → Run K (with_claim s h None)
  run-without {s} run h = given (s.claims h) refl
    where
      given : (c : Option (Claim F)) → s.claims h ≡ c → Run K (with_claim s h None)
      given (Some c) mine = goes_on run (release h c mine)
      given None none = subst (Run K) (sym (same-claims s (put nat_eq s.claims h None) (λ j. elim (hand-tells s.claims h None j) [
        | inl here ↦ here.1 ∙ sym none ∙ ap s.claims here.0
        | inr other ↦ other.1
      ]))) run

  run-from : {s : State F} → Run K s → (n : ℕ) → Run K (record s { claims = claims_from n s.claims })
  run-from run zero = run
  run-from run (suc n) = run-without (run-from run n) n

  pub run-released : {s : State F} → Run K s → Run K (unclaimed s)
  run-released {s} run =
      let few = free-run run in
      subst (Run K) (same-claims (unclaimed s) (claims_from few.0 s.claims) (λ h. left-from few.0 s.claims h (few.1 h))) (run-from run few.0)
