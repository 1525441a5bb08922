-- What follows where no hand has a claim.
use Rattle.std.proofs.Common.{◌≡◌, ◌≢◌, ℕ, suc, true, false, List, [], ◌∷◌, Option, None, Some, ap, sym, subst, ◌∙◌, refl, get_or, ◌||◌}
use Rattle.std.specs.Prelude.{nat_eq}
use Rattle.std.specs.List.{list_any}
use Rattle.std.proofs.lemmas.Bool.{eqb-true}
use Rattle.ide_wire.specs.Key.{same_key, same_key_exact, same_key_refl}
use Rattle.ide_wire.specs.declared.key.Key.{Key}
use Rattle.ide_image.specs.Worklist.{Pile, claim_at, is_claim_of, is_claimed, is_pending, IsFree, IsWorklist}
use Rattle.ide_image.specs.declared.claim.Claim.{Claim}

first-waits : (key : Key) (keys : List Key) → list_any (same_key key) (key ∷ keys) ≡ true
first-waits key keys = ap (λ b. b || list_any (same_key key) keys) (same_key_refl key)

module _ {T : Type 0} where
  none-of : (key : Key) (claims : List (Option (Claim T))) → ((h : ℕ) → get_or claims h None ≡ None) → list_any (is_claim_of key) claims ≡ false
  none-of key [] free = refl
  none-of key (claim ∷ claims) free =
      (λ i. is_claim_of key (free 0 i) || list_any (is_claim_of key) claims) ∙ none-of key claims (λ h. free (suc h))

  -- then no hand has claimed the key
  pub none-claimed : (pile : Pile T) → IsFree pile → (key : Key) → is_claimed pile key ≡ false
  none-claimed pile free key = none-of key pile.claims free

  -- a key that is not pending is not claimed, where each claimed one is pending
  none-but-pending : (pile : Pile T) (key : Key) → is_pending pile key ≡ false → (claims : List (Option (Claim T)))
      → ((h : ℕ) (claim : Claim T) → get_or claims h None ≡ Some claim → is_pending pile claim.key ≡ true) → list_any (is_claim_of key) claims ≡ false
  none-but-pending pile key settled [] held = refl
  none-but-pending pile key settled (None ∷ claims) held = none-but-pending pile key settled claims (λ h. held (suc h))
  none-but-pending pile key settled (Some claim ∷ claims) held =
      elim (same_key claim.key key) as (λ own. same_key claim.key key ≡ own → (own || list_any (is_claim_of key) claims) ≡ false) [
        | true ↦ λ is.
            let both : true ≡ false = sym (held 0 claim refl) ∙ ap (is_pending pile) (same_key_exact claim.key key is) ∙ settled in
            let no : ⊥ = cc (both) in
            absurd no
        | false ↦ λ other. none-but-pending pile key settled claims (λ h. held (suc h))
      ] refl

  pub settled-unclaimed : (pile : Pile T) → IsWorklist pile → (key : Key) → is_pending pile key ≡ false → is_claimed pile key ≡ false
  settled-unclaimed pile held key settled = none-but-pending pile key settled pile.claims held.held

  -- not every pending key is claimed
  pub some-unclaimed : (pile : Pile T) → IsFree pile → pile.pending ≢ [] → ((q : Key) → is_pending pile q ≡ true → is_claimed pile q ≡ true) → ⊥
  some-unclaimed pile free waits claimed = among pile.pending refl
    where
      among : (keys : List Key) → pile.pending ≡ keys → ⊥
      among [] none = waits none
      among (key ∷ keys) some =
          let is : true ≡ false = sym (claimed key (ap (list_any (same_key key)) some ∙ first-waits key keys)) ∙ none-of key pile.claims free in
          let no : ⊥ = cc (is) in
          no

  -- none is pending, then
  pub quiet-free : (pile : Pile T) → IsFree pile → ((q : Key) → is_pending pile q ≡ true → is_claimed pile q ≡ true) → pile.pending ≡ []
  quiet-free pile free claimed = among pile.pending refl
    where
      among : (keys : List Key) → pile.pending ≡ keys → pile.pending ≡ []
      among [] none = none
      among (key ∷ keys) some = absurd (some-unclaimed pile free (λ none. let no : [] ≡ key ∷ keys = sym none ∙ some in cc (no)) claimed)

  -- a hand that ends its claim leaves none, where no other hand has one
  pub free-without : (pile : Pile T) → claim_at pile 0 ≡ None → ((h : ℕ) → nat_eq 0 h ≡ false → claim_at pile h ≡ None) → IsFree pile
  free-without pile none others = λ h.
      elim (nat_eq 0 h) as (λ b. nat_eq 0 h ≡ b → claim_at pile h ≡ None) [
        | true ↦ λ same. subst (λ j. claim_at pile j ≡ None) (eqb-true 0 h same) none
        | false ↦ λ other. others h other
      ] refl
