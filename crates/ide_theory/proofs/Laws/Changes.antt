-- What a change at one argument tells of each argument, and which claims each step leaves.
use Rattle.std.proofs.Common.{◌≡◌, ◌≢◌, ℕ, ◌⊎◌, Bool, true, false, ◌||◌, cond, nat_eq, Option, Some, None, option_map, ap, sym, refl, ◌∙◌, inl, inr, true≢false}
use Rattle.std.specs.Prelude.{unwrap_or, is_some}
use Rattle.ide_wire.specs.Key.{same_key, same_key_exact, same_key_refl}
use Rattle.ide_wire.specs.declared.key.Key.{Key}
use Rattle.ide_theory.specs.State.{Claim, State, put, without_first, part_done}
use Rattle.ide_theory.proofs.Laws.Targets.{nat_eq-exact, nat_eq-refl}

pub put-tells : {X T : Type 0} (same : X → X → Bool) → ((x y : X) → same x y ≡ true → x ≡ y) → ((x : X) → same x x ≡ true)
    → (f : X → T) (at : X) (value : T) (x : X) → ((at ≡ x) × (put same f at value x ≡ value)) ⊎ ((at ≢ x) × (put same f at value x ≡ f x))
put-tells {X} {T} same exact reflexive f at value x = go (same at x) refl
  where
    go : (b : Bool) → same at x ≡ b → ((at ≡ x) × (put same f at value x ≡ value)) ⊎ ((at ≢ x) × (put same f at value x ≡ f x))
    go true is = inl (exact at x is, ap (λ b. cond b value (f x)) is)
    go false is = inr ((λ e. true≢false (sym (reflexive at) ∙ ap (same at) e ∙ is)), ap (λ b. cond b value (f x)) is)

pub hand-tells : {T : Type 0} (f : ℕ → T) (h : ℕ) (value : T) (j : ℕ)
    → ((h ≡ j) × (put nat_eq f h value j ≡ value)) ⊎ ((h ≢ j) × (put nat_eq f h value j ≡ f j))
hand-tells f h value j = put-tells nat_eq nat_eq-exact nat_eq-refl f h value j

pub key-tells : {T : Type 0} (f : Key → T) (t : Key) (value : T) (k : Key)
    → ((t ≡ k) × (put same_key f t value k ≡ value)) ⊎ ((t ≢ k) × (put same_key f t value k ≡ f k))
key-tells f t value k = put-tells same_key same_key_exact same_key_refl f t value k

-- two keys are the same or not
pub same-or : (t k : Key) → (t ≡ k) ⊎ ((t ≢ k) × (same_key t k ≡ false))
same-or t k = go (same_key t k) refl
  where
    go : (b : Bool) → same_key t k ≡ b → (t ≡ k) ⊎ ((t ≢ k) × (same_key t k ≡ false))
    go true is = inl (same_key_exact t k is)
    go false is = inr ((λ e. true≢false (sym (same_key_refl t) ∙ ap (same_key t) e ∙ is)), is)

pub some-inj : {T : Type 0} {x y : T} → Some x ≡ Some y → x ≡ y
some-inj {x = x} e = ap (λ o. unwrap_or o x) e

pub none-some : {T : Type 0} {x : T} → None ≡ Some x → ⊥
none-some e = true≢false (sym (ap is_some e))

pub map-tells : {X Y : Type 0} (f : X → Y) (o : Option X) {y : Y} → option_map f o ≡ Some y → (x : X) × (o ≡ Some x) × (f x ≡ y)
map-tells f None e = elim (none-some e) [ ]
map-tells f (Some x) e = (x, refl, some-inj e)

pub or-true : (b c : Bool) → c ≡ true → (b || c) ≡ true
or-true true c h = refl
or-true false c h = h

module _ {F : Type 0} (s : State F) (h : ℕ) where
  -- with a claim of the hand's, each claim is that one, or one of before by another hand
  pub left-with : (d : Claim F) (j : ℕ) (c : Claim F) → put nat_eq s.claims h (Some d) j ≡ Some c
      → ((h ≡ j) × (d ≡ c)) ⊎ ((h ≢ j) × (s.claims j ≡ Some c))
  left-with d j c has = elim (hand-tells s.claims h (Some d) j) [
    | inl here ↦ inl (here.0, some-inj (sym here.1 ∙ has))
    | inr other ↦ inr (other.0, sym other.1 ∙ has)
  ]

  pub has-claim : (d : Claim F) → put nat_eq s.claims h (Some d) h ≡ Some d
  has-claim d = elim (hand-tells s.claims h (Some d) h) [
    | inl here ↦ here.1
    | inr other ↦ elim (other.0 refl) [ ]
  ]

  pub kept-with : (d : Option (Claim F)) (j : ℕ) (c : Claim F) → h ≢ j → s.claims j ≡ Some c → put nat_eq s.claims h d j ≡ Some c
  kept-with d j c apart has = elim (hand-tells s.claims h d j) [
    | inl here ↦ elim (apart here.0) [ ]
    | inr other ↦ other.1 ∙ has
  ]

  -- without the hand's claim, each claim is one of before by another hand
  pub left-without : (j : ℕ) (c : Claim F) → put nat_eq s.claims h None j ≡ Some c → (h ≢ j) × (s.claims j ≡ Some c)
  left-without j c has = elim (hand-tells s.claims h None j) [
    | inl here ↦ elim (none-some (sym here.1 ∙ has)) [ ]
    | inr other ↦ (other.0, sym other.1 ∙ has)
  ]

  -- after a part is done, each claim is one of before, or one of before but for its first part
  pub left-done : (j : ℕ) (c : Claim F) → (part_done s h).claims j ≡ Some c
      → (d : Claim F) × (s.claims j ≡ Some d) × ((d ≡ c) ⊎ (without_first d ≡ c))
  left-done j c has = elim (hand-tells s.claims h (option_map without_first (s.claims h)) j) [
    | inl here ↦
        let found : (d : Claim F) × (s.claims h ≡ Some d) × (without_first d ≡ c) = map-tells without_first (s.claims h) (sym here.1 ∙ has) in
        (found.0, ap s.claims (sym here.0) ∙ found.1, inr found.2)
    | inr other ↦ (c, sym other.1 ∙ has, inl refl)
  ]

  pub kept-done : (j : ℕ) (c : Claim F) → s.claims j ≡ Some c
      → ((h ≡ j) × ((part_done s h).claims j ≡ Some (without_first c))) ⊎ ((part_done s h).claims j ≡ Some c)
  kept-done j c has = elim (hand-tells s.claims h (option_map without_first (s.claims h)) j) [
    | inl here ↦ inl (here.0, here.1 ∙ ap (option_map without_first) (ap s.claims here.0 ∙ has))
    | inr other ↦ inr (other.1 ∙ has)
  ]
