-- Where entries stand: what is found at the place of a key, and which places there are once an entry is put in.
use Rattle.std.proofs.Common.{◌≡◌, ℕ, zero, suc, ◌+◌, ◌-◌, ◌<◌, refl, sym, ap, subst, ◌∙◌, arith, List, [], ◌∷◌, ◌++◌, length, Option, None, Some, Bool, true, false, cond}
use Rattle.std.specs.Prelude.{IfSome, slice_get, slice_set}
use Rattle.std.proofs.lemmas.List.{length-set}
use Rattle.std.proofs.lemmas.Option.{same_Some}
use Rattle.std.specs.List.{AllByRecursion, IsDistinct}
use Rattle.std.specs.Map.{keys_of, lookup}
use Rattle.std.specs.Option.{option_map}
use Rattle.std.proofs.lemmas.Map.Keys.{IsDistinct-cons, IsDistinct-head, IsDistinct-tail}
use Rattle.ide_wire.specs.declared.key.Key.{Key}
use Rattle.ide_wire.specs.Key.{same_key, same_key_exact, same_key_refl, same_key_symm}
use Rattle.ide_image.specs.Tables.{behind, place_in, with_entry}

behind-zero : (p : ℕ) → behind p ≡ 0 → p ≡ 0
behind-zero zero is = refl
behind-zero (suc p) is = absurd (omega (arith, is))

behind-more : (p n : ℕ) → behind p ≡ suc (suc n) → p ≡ suc n
behind-more zero n is = absurd (omega (arith, is))
behind-more (suc p) n is = omega (arith, is)

-- the place of the key once its entry is put in
abbrev pub place_then : (place count : ℕ) → ℕ
place_then zero count = suc count
place_then (suc n) count = suc n

then-behind : (place count : ℕ) → behind (place_then place count) ≡ place_then (behind place) (suc count)
then-behind zero count = refl
then-behind (suc n) count = refl

-- a place above 0 is one more than an index
place-up : (place : ℕ) → 0 < place → place ≡ suc (place - 1)
place-up place positive = omega (arith, positive)

module _ {F : Type 0} (key : Key) where
  -- a key that is not found stands nowhere
  pub place-absent : (es : List (Key × F)) → lookup (same_key key) es ≡ None → place_in key es ≡ 0
  place-absent [] none = refl
  place-absent (e ∷ es) none =
      elim (same_key key e.0) as (λ b. cond b (Some e.1) (lookup (same_key key) es) ≡ None → cond b 1 (behind (place_in key es)) ≡ 0) [
        | true ↦ λ no. absurd (cc (no))
        | false ↦ λ rest. ap behind (place-absent es rest)
      ] none

  -- where the key has no entry
  pub none-at : (es : List (Key × F)) → place_in key es ≡ 0 → lookup (same_key key) es ≡ None
  none-at [] is = refl
  none-at (e ∷ es) is =
      elim (same_key key e.0) as (λ b. cond b 1 (behind (place_in key es)) ≡ 0 → cond b (Some e.1) (lookup (same_key key) es) ≡ None) [
        | true ↦ λ no. absurd (omega (arith, no))
        | false ↦ λ none. none-at es (behind-zero (place_in key es) none)
      ] is

  pub put-last : (es : List (Key × F)) (f : F) → place_in key es ≡ 0 → with_entry es key f ≡ es ++ (key, f) ∷ []
  put-last [] f is = refl
  put-last (e ∷ es) f is =
      elim (same_key key e.0) as (λ b. cond b 1 (behind (place_in key es)) ≡ 0 → cond b ((e.0, f) ∷ es) (e ∷ with_entry es key f) ≡ e ∷ (es ++ (key, f) ∷ [])) [
        | true ↦ λ no. absurd (omega (arith, no))
        | false ↦ λ none. ap (λ xs. e ∷ xs) (put-last es f (behind-zero (place_in key es) none))
      ] is

  -- where it has one
  pub found-at : (es : List (Key × F)) (n : ℕ) → place_in key es ≡ suc n → option_map (λ e. e.1) (slice_get es n) ≡ lookup (same_key key) es
  found-at [] n is = absurd (omega (arith, is))
  found-at (e ∷ es) zero is =
      elim (same_key key e.0) as (λ b. cond b 1 (behind (place_in key es)) ≡ 1 → Some e.1 ≡ cond b (Some e.1) (lookup (same_key key) es)) [
        | true ↦ λ _. refl
        | false ↦ λ one. absurd (not-behind (place_in key es) one)
      ] is
    where
      not-behind : (p : ℕ) → behind p ≡ 1 → ⊥
      not-behind zero one = omega (arith, one)
      not-behind (suc p) one = omega (arith, one)
  found-at (e ∷ es) (suc n) is =
      elim (same_key key e.0) as (λ b. cond b 1 (behind (place_in key es)) ≡ suc (suc n) → option_map (λ e. e.1) (slice_get es n) ≡ cond b (Some e.1) (lookup (same_key key) es)) [
        | true ↦ λ no. absurd (omega (arith, no))
        | false ↦ λ more. found-at es n (behind-more (place_in key es) n more)
      ] is

  pub stands-at : (es : List (Key × F)) (n : ℕ) → place_in key es ≡ suc n → n < length es
  stands-at [] n is = absurd (omega (arith, is))
  stands-at (e ∷ es) zero is = omega arith
  stands-at (e ∷ es) (suc n) is =
      elim (same_key key e.0) as (λ b. cond b 1 (behind (place_in key es)) ≡ suc (suc n) → suc n < length (e ∷ es)) [
        | true ↦ λ no. absurd (omega (arith, no))
        | false ↦ λ more. let within : n < length es = stands-at es n (behind-more (place_in key es) n more) in omega (arith, within)
      ] is

  pub put-at : (es : List (Key × F)) (n : ℕ) (f : F) → place_in key es ≡ suc n → with_entry es key f ≡ slice_set es n (key, f)
  put-at [] n f is = absurd (omega (arith, is))
  put-at (e ∷ es) zero f is =
      elim (same_key key e.0) as (λ b. same_key key e.0 ≡ b → cond b 1 (behind (place_in key es)) ≡ 1 → cond b ((e.0, f) ∷ es) (e ∷ with_entry es key f) ≡ (key, f) ∷ es) [
        | true ↦ λ same _. ap (λ k. (k, f) ∷ es) (sym (same_key_exact key e.0 same))
        | false ↦ λ _ one. absurd (not-behind (place_in key es) one)
      ] refl is
    where
      not-behind : (p : ℕ) → behind p ≡ 1 → ⊥
      not-behind zero one = omega (arith, one)
      not-behind (suc p) one = omega (arith, one)
  put-at (e ∷ es) (suc n) f is =
      elim (same_key key e.0) as (λ b. cond b 1 (behind (place_in key es)) ≡ suc (suc n) → cond b ((e.0, f) ∷ es) (e ∷ with_entry es key f) ≡ e ∷ slice_set es n (key, f)) [
        | true ↦ λ no. absurd (omega (arith, no))
        | false ↦ λ more. ap (λ xs. e ∷ xs) (put-at es n f (behind-more (place_in key es) n more))
      ] is

  -- the place of each key once one's entry is put in
  place-next : (q : Key) (e : Key × F) (own there : Bool) (place count own_place q_place : ℕ) → same_key key q ≡ own → same_key q e.0 ≡ there → same_key key e.0 ≡ false
      → own_place ≡ cond own (place_then place count) q_place
      → cond there 1 (behind own_place) ≡ cond own (place_then (behind place) (suc count)) (cond there 1 (behind q_place))
  place-next q e true true place count own_place q_place a b c is =
      absurd (cc (c, b, ap (λ k. same_key k e.0) (same_key_exact key q a)))
  place-next q e true false place count own_place q_place a b c is = ap behind is ∙ then-behind place count
  place-next q e false true place count own_place q_place a b c is = refl
  place-next q e false false place count own_place q_place a b c is = ap behind is

  pub place-put : (es : List (Key × F)) (q : Key) (f : F)
      → place_in q (with_entry es key f) ≡ cond (same_key key q) (place_then (place_in key es) (length es)) (place_in q es)
  place-put [] q f = ap (λ b. cond b 1 0) (same_key_symm q key)
  place-put (e ∷ es) q f =
      elim (same_key key e.0) as (λ here. same_key key e.0 ≡ here
      → place_in q (cond here ((e.0, f) ∷ es) (e ∷ with_entry es key f))
      ≡ cond (same_key key q) (place_then (cond here 1 (behind (place_in key es))) (suc (length es))) (place_in q (e ∷ es))) [
        | true ↦ λ same. first (same_key key q) (sym (ap (λ k. same_key k q) (same_key_exact key e.0 same) ∙ same_key_symm e.0 q))
        | false ↦ λ other.
            place-next q e (same_key key q) (same_key q e.0) (place_in key es) (length es) (place_in q (with_entry es key f)) (place_in q es) refl refl other (place-put es q f)
      ] refl
    where
      first : (own : Bool) → same_key q e.0 ≡ own → cond (same_key q e.0) 1 (behind (place_in q es)) ≡ cond own 1 (cond (same_key q e.0) 1 (behind (place_in q es)))
      first true is = ap (λ b. cond b 1 (behind (place_in q es))) is
      first false is = refl

  -- a key that has an entry stands where it stood
  pub stays-put : (es : List (Key × F)) (q : Key) (f : F) (n : ℕ) → place_in q es ≡ suc n → place_in q (with_entry es key f) ≡ suc n
  stays-put es q f n is = place-put es q f ∙ at (same_key key q) refl
    where
      at : (own : Bool) → same_key key q ≡ own → cond own (place_then (place_in key es) (length es)) (place_in q es) ≡ suc n
      at true same = ap (λ k. place_then (place_in k es) (length es)) (same_key_exact key q same) ∙ ap (λ p. place_then p (length es)) is
      at false other = is

  -- where the key stands already, so does each key
  pub place-stays : (es : List (Key × F)) (q : Key) (f : F) (n : ℕ) → n + 1 ≡ place_in key es → place_in q (with_entry es key f) ≡ place_in q es
  place-stays es q f n is = place-put es q f ∙ by-case (same_key key q) refl
    where
      own : place_in key es ≡ suc n
      own = let up : n + 1 ≡ suc n = omega arith in sym is ∙ up

      by-case : (b : Bool) → same_key key q ≡ b → cond b (place_then (place_in key es) (length es)) (place_in q es) ≡ place_in q es
      by-case true same = ap (λ p. place_then p (length es)) own ∙ sym own ∙ ap (λ k. place_in k es) (same_key_exact key q same)
      by-case false other = refl

  -- and as many stand there
  pub long-stays : (es : List (Key × F)) (f : F) (n : ℕ) → n + 1 ≡ place_in key es → length (with_entry es key f) ≡ length es
  long-stays es f n is =
      let up : n + 1 ≡ suc n = omega arith in
      ap length (put-at es n f (sym is ∙ up)) ∙ length-set es n (key, f)

  -- entries of distinct keys stay so
  apart-put : (x : Key) (es : List (Key × F)) (f : F) → AllByRecursion (λ y. same_key x y ≡ false) (keys_of es) → same_key x key ≡ false
      → AllByRecursion (λ y. same_key x y ≡ false) (keys_of (with_entry es key f))
  apart-put x [] f all other = (other, tt)
  apart-put x (e ∷ es) f all other =
      elim (same_key key e.0) as (λ here. AllByRecursion (λ y. same_key x y ≡ false) (keys_of (cond here ((e.0, f) ∷ es) (e ∷ with_entry es key f)))) [
        | true ↦ all
        | false ↦ (all.0, apart-put x es f all.1 other)
      ]

  pub distinct-put : (es : List (Key × F)) (f : F) → IsDistinct same_key (keys_of es) → IsDistinct same_key (keys_of (with_entry es key f))
  distinct-put [] f apart = IsDistinct-cons same_key key [] tt apart
  distinct-put (e ∷ es) f apart =
      let head : AllByRecursion (λ y. same_key e.0 y ≡ false) (keys_of es) = IsDistinct-head same_key e.0 (keys_of es) apart in
      let tail : IsDistinct same_key (keys_of es) = IsDistinct-tail same_key e.0 (keys_of es) apart in
      elim (same_key key e.0) as (λ here. same_key key e.0 ≡ here → IsDistinct same_key (keys_of (cond here ((e.0, f) ∷ es) (e ∷ with_entry es key f)))) [
        | true ↦ λ _. apart
        | false ↦ λ other.
            IsDistinct-cons same_key e.0 (keys_of (with_entry es key f)) (apart-put e.0 es f head (same_key_symm e.0 key ∙ other)) (distinct-put es f tail)
      ] refl

  -- the same of a place that is known to be above 0
  pub found-before : (es : List (Key × F)) (place : ℕ) → place ≡ place_in key es → 0 < place → option_map (λ e. e.1) (slice_get es (place - 1)) ≡ lookup (same_key key) es
  found-before es place is positive = found-at es (place - 1) (sym is ∙ place-up place positive)

  pub found-none : (es : List (Key × F)) (place : ℕ) → None ≡ slice_get es (place - 1) → place ≡ place_in key es → 0 < place
      → None ≡ lookup (same_key key) es
  found-none es place there is positive = ap (option_map (λ e. e.1)) there ∙ found-before es place is positive

-- what holds of each key holds of that of an entry
key-at : {F : Type 0} (P : Key → Type 0) (es : List (Key × F)) (i : ℕ) (e : Key × F) → AllByRecursion P (keys_of es) → slice_get es i ≡ Some e → P e.0
key-at P [] i e all is = absurd (cc (is))
key-at P (x ∷ es) zero e all is = subst (λ y. P y.0) (same_Some x e is) all.0
key-at P (x ∷ es) (suc i) e all is = key-at P es i e all.1 is

-- an entry is what is found at its key
pub found-present : {F : Type 0} (es : List (Key × F)) (i : ℕ) (e : Key × F) → IsDistinct same_key (keys_of es) → slice_get es i ≡ Some e
    → lookup (same_key e.0) es ≡ Some e.1
found-present [] i e apart is = absurd (cc (is))
found-present (x ∷ es) zero e apart is =
    ap (λ b. cond b (Some x.1) (lookup (same_key e.0) es)) (ap (λ y. same_key y.0 x.0) (sym (same_Some x e is)) ∙ same_key_refl x.0)
    ∙ ap (λ y. Some y.1) (same_Some x e is)
found-present (x ∷ es) (suc i) e apart is =
    let other : same_key x.0 e.0 ≡ false = key-at (λ y. same_key x.0 y ≡ false) es i e (IsDistinct-head same_key x.0 (keys_of es) apart) is in
    ap (λ b. cond b (Some x.1) (lookup (same_key e.0) es)) (same_key_symm e.0 x.0 ∙ other)
    ∙ found-present es i e (IsDistinct-tail same_key x.0 (keys_of es) apart) is

pub present-at : {F : Type 0} (es : List (Key × F)) (i : ℕ) (o : Option (Key × F)) → o ≡ slice_get es i → IsDistinct same_key (keys_of es)
    → IfSome o (λ e. lookup (same_key e.0) es ≡ Some e.1)
present-at es i None is apart = tt
present-at es i (Some e) is apart = found-present es i e apart (sym is)
