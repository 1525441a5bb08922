-- Each step of a work list keeps what it says of its claims. A state is two functions: whether a key is pending, and
-- the claim of a hand.
use Rattle.std.proofs.Common.{◌≡◌, ℕ, zero, suc, refl, sym, ap, ◌∙◌, arith, List, [], ◌∷◌, get_or, Option, None, Some, Bool, true, false, cond, ◌⊎◌, inl, inr, ⊎_elim}
use Rattle.std.specs.Prelude.{◌≢◌, nat_eq, not, ◌&&◌}
use Rattle.std.specs.List.{list_any}
use Rattle.std.proofs.lemmas.Bool.{cases_Bool, eqb-true, eq-eqb, both_ways, false_from_ne_true, or_cases, or_parts}
use Rattle.ide_wire.specs.declared.key.Key.{Key}
use Rattle.ide_wire.specs.Key.{same_key, same_key_refl, same_key_symm}
use Rattle.ide_image.specs.declared.claim.Claim.{Claim}
use Rattle.ide_image.specs.Worklist.{AreHeld, marked, put_hand, with_done, is_claim_of}

module _ {T : Type 0} where
  -- `new` is a claim of the key that `old` is a claim of
  abbrev pub IsOf : Option (Claim T) → Claim T → Type 0
  IsOf old c = (d : Claim T) × (old ≡ Some d) × (d.key ≡ c.key)

  pub IsOf-marked : (key : Key) (old : Option (Claim T)) (c : Claim T) → marked key old ≡ Some c → IsOf old c
  IsOf-marked key None c e = absurd (cc)
  IsOf-marked key (Some d) c e =
      elim (same_key d.key key) as (λ b. cond b (Some (record d { lowered = true })) (Some d) ≡ Some c → IsOf (Some d) c) [
        | true ↦ λ e. let s : record d { lowered = true } ≡ c = cc in (d, refl, ap (λ (x : Claim T). x.key) s)
        | false ↦ λ e. let s : d ≡ c = cc in (d, refl, ap (λ (x : Claim T). x.key) s)
      ] e

  pub IsOf-done : (count : ℕ) (old : Option (Claim T)) (c : Claim T) → with_done count old ≡ Some c → IsOf old c
  IsOf-done count None c e = absurd (cc)
  IsOf-done count (Some d) c e = let s : record d { done = count } ≡ c = cc in (d, refl, ap (λ (x : Claim T). x.key) s)

  -- a step after which each claim is of the key that the hand's claim was of, and pending keys stay pending
  pub held_same : (pending new_pending : Key → Bool) (claims new_claims : ℕ → Option (Claim T))
      → ((q : Key) → pending q ≡ true → new_pending q ≡ true)
      → ((h : ℕ) (c : Claim T) → new_claims h ≡ Some c → IsOf (claims h) c)
      → AreHeld pending claims → AreHeld new_pending new_claims
  held_same pending new_pending claims new_claims p e w = record {
    held = λ h c i. let m = e h c i in let t : pending c.key ≡ true = ap pending (sym m.2) ∙ w.held h m.0 m.1 in p c.key t;
    apart = λ h j c d i k s.
        let m = e h c i in
        let n = e j d k in
        let t : same_key m.0.key n.0.key ≡ true = ap (λ x. same_key x n.0.key) m.2 ∙ ap (same_key c.key) n.2 ∙ s in
        w.apart h j m.0 n.0 m.1 n.1 t;
  }

  -- the hand's claim, put in its place, is of the key that the hand's claim was of
  pub IsOf-put : (claims : ℕ → Option (Claim T)) (hand : ℕ) (claim : Option (Claim T)) (h : ℕ) (c : Claim T)
      → ((c : Claim T) → claim ≡ Some c → IsOf (claims hand) c)
      → put_hand claims hand claim h ≡ Some c → IsOf (claims h) c
  IsOf-put claims hand claim h c of i =
      ⊎_elim
      (λ t. let same : hand ≡ h = eqb-true hand h t in let at : claim ≡ Some c = grind arith in
      let m = of c at in (m.0, ap claims (sym same) ∙ m.1, m.2))
      (λ f. let at : claims h ≡ Some c = grind arith in (c, at, refl))
      (cases_Bool (nat_eq hand h))

  pub cases_put : (claims : ℕ → Option (Claim T)) (hand : ℕ) (claim : Option (Claim T)) (h : ℕ) (c : Claim T)
      → put_hand claims hand claim h ≡ Some c
      → ((hand ≡ h) × (claim ≡ Some c)) ⊎ ((nat_eq hand h ≡ false) × (claims h ≡ Some c))
  cases_put claims hand claim h c i =
      ⊎_elim
      (λ t. let at : claim ≡ Some c = grind arith in inl (eqb-true hand h t, at))
      (λ f. let at : claims h ≡ Some c = grind arith in inr (f, at))
      (cases_Bool (nat_eq hand h))

  pub held_gone : (pending : Key → Bool) (claims new_claims : ℕ → Option (Claim T)) (hand : ℕ)
      → ((h : ℕ) → new_claims h ≡ put_hand claims hand None h)
      → AreHeld pending claims → AreHeld pending new_claims
  held_gone pending claims new_claims hand e w =
      held_same pending pending claims new_claims (λ q t. t)
      (λ h c i. IsOf-put claims hand None h c (λ c n. absurd (cc)) (sym (e h) ∙ i))
      w

  -- the claim ends, and its key is pending no longer unless it was lowered
  pub held_settled : (pending new_pending : Key → Bool) (claims new_claims : ℕ → Option (Claim T)) (hand : ℕ) (claim : Claim T)
      → claims hand ≡ Some claim
      → ((h : ℕ) → new_claims h ≡ put_hand claims hand None h)
      → ((q : Key) → new_pending q ≡ (not (same_key claim.key q) && pending q))
      → AreHeld pending claims → AreHeld new_pending new_claims
  held_settled pending new_pending claims new_claims hand claim here e p w =
      let gone : AreHeld pending new_claims = held_gone pending claims new_claims hand e w in
      record {
        held = λ h c i.
            ⊎_elim
            (λ at. absurd (cc))
            (λ at.
            let other : same_key claim.key c.key ≡ false =
            false_from_ne_true (same_key claim.key c.key)
            (λ s. both_ways (nat_eq hand h) at.0 (eq-eqb hand h (w.apart hand h claim c here at.1 s)))
            in
            let stays : pending c.key ≡ true = w.held h c at.1 in
            grind (arith, p c.key))
            (cases_put claims hand None h c (sym (e h) ∙ i));
        apart = gone.apart;
      }

  -- a hand claims a pending key that no hand has claimed
  pub held_claimed : (pending : Key → Bool) (claims new_claims : ℕ → Option (Claim T)) (hand : ℕ) (claim : Claim T)
      → pending claim.key ≡ true
      → ((h : ℕ) (c : Claim T) → claims h ≡ Some c → same_key c.key claim.key ≡ false)
      → ((h : ℕ) → new_claims h ≡ put_hand claims hand (Some claim) h)
      → AreHeld pending claims → AreHeld pending new_claims
  held_claimed pending claims new_claims hand claim here free e w = record {
    held = λ h c i.
        ⊎_elim
        (λ at. let same : claim ≡ c = cc (at.1) in ap (λ (x : Claim T). pending x.key) (sym same) ∙ here)
        (λ at. w.held h c at.1)
        (cases_put claims hand (Some claim) h c (sym (e h) ∙ i));
    apart = λ h j c d i k s.
        ⊎_elim
        (λ at.
        ⊎_elim
        (λ to. sym at.0 ∙ to.0)
        (λ to.
        let same : claim ≡ c = cc (at.1) in
        let free_d : same_key d.key claim.key ≡ false = free j d to.1 in
        let t : same_key claim.key d.key ≡ true = ap (λ (x : Claim T). same_key x.key d.key) same ∙ s in
        absurd (both_ways (same_key d.key claim.key) free_d (same_key_symm d.key claim.key ∙ t)))
        (cases_put claims hand (Some claim) j d (sym (e j) ∙ k)))
        (λ at.
        ⊎_elim
        (λ to.
        let same : claim ≡ d = cc (to.1) in
        let free_c : same_key c.key claim.key ≡ false = free h c at.1 in
        let t : same_key c.key claim.key ≡ true = ap (λ (x : Claim T). same_key c.key x.key) same ∙ s in
        absurd (both_ways (same_key c.key claim.key) free_c t))
        (λ to. w.apart h j c d at.1 to.1 s)
        (cases_put claims hand (Some claim) j d (sym (e j) ∙ k)))
        (cases_put claims hand (Some claim) h c (sym (e h) ∙ i));
  }

  -- where no claim of the list is of the key, none at a hand is
  pub free_at : (key : Key) (claims : List (Option (Claim T))) → list_any (is_claim_of key) claims ≡ false
      → (h : ℕ) (c : Claim T) → get_or claims h None ≡ Some c → same_key c.key key ≡ false
  free_at key [] f h c e = absurd (cc)
  free_at key (x ∷ xs) f zero c e =
      let parts : (is_claim_of key x ≡ false) × (list_any (is_claim_of key) xs ≡ false) = or_parts (is_claim_of key x) (list_any (is_claim_of key) xs) f in
      ap (is_claim_of key) (sym e) ∙ parts.0
  free_at key (x ∷ xs) f (suc h) c e =
      let parts : (is_claim_of key x ≡ false) × (list_any (is_claim_of key) xs ≡ false) = or_parts (is_claim_of key x) (list_any (is_claim_of key) xs) f in
      free_at key xs parts.1 h c e

  -- and so each claim is of another key
  pub apart_at : (key : Key) (claims : List (Option (Claim T))) → list_any (is_claim_of key) claims ≡ false
      → (h : ℕ) (c : Claim T) → get_or claims h None ≡ Some c → c.key ≢ key
  apart_at key claims f h c e same =
      both_ways (same_key c.key key) (free_at key claims f h c e) (ap (λ k. same_key c.key k) (sym same) ∙ same_key_refl c.key)

  -- where the list has a claim of the key, some hand has it
  pub claimed_at : (key : Key) (claims : List (Option (Claim T))) → list_any (is_claim_of key) claims ≡ true
      → (h : ℕ) × is_claim_of key (get_or claims h None) ≡ true
  claimed_at key [] t = absurd (cc)
  claimed_at key (x ∷ xs) t =
      ⊎_elim (λ here. (zero, here)) (λ later. let rest = claimed_at key xs later in (suc rest.0, rest.1))
      (or_cases (is_claim_of key x) (list_any (is_claim_of key) xs) t)
