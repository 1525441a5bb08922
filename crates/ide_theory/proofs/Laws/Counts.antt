-- How many elements of a list pass a test, where another test lets through more, or as many but one.
use Rattle.std.proofs.Common.{◌≡◌, ◌≢◌, ℕ, ◌+◌, ◌≤◌, ◌⊎◌, Bool, true, false, cond, List, [], ◌∷◌, length, ap, sym, subst, refl, ◌∙◌, inl, inr, true≢false, arith}
use Rattle.std.specs.Prelude.{filter}
use Rattle.std.specs.List.{IsDistinct, AllByRecursion}
use Rattle.ide_wire.specs.Key.{same_key, same_key_refl}
use Rattle.ide_wire.specs.declared.key.Key.{Key}
use Rattle.ide_theory.specs.Member.{IsIn, first, later}
use Rattle.ide_theory.specs.Members.{first-or, not-in-empty}
use Rattle.ide_theory.proofs.Laws.Changes.{same-or}

abbrev pub count : (Key → Bool) → List Key → ℕ
count test keys = length (filter test keys)

-- one more key counts one where it passes, and else none
count-here : (test : Key → Bool) (k : Key) (ks : List Key) → test k ≡ true → count test (k ∷ ks) ≡ count test ks + 1
count-here test k ks is = ap (λ b. length (cond b (k ∷ filter test ks) (filter test ks))) is ∙ one
  where
    one : length (k ∷ filter test ks) ≡ count test ks + 1
    one = omega arith

pub count-not : (test : Key → Bool) (k : Key) (ks : List Key) → test k ≡ false → count test (k ∷ ks) ≡ count test ks
count-not test k ks is = ap (λ b. length (cond b (k ∷ filter test ks) (filter test ks))) is

-- a test is passed or not
pub test-or : (b : Bool) → (b ≡ true) ⊎ (b ≡ false)
test-or true = inl refl
test-or false = inr refl

count-most : (test : Key → Bool) (k : Key) (ks : List Key) → count test (k ∷ ks) ≤ count test ks + 1
count-most test k ks = elim (test-or (test k)) [
  | inl is ↦ let here = count-here test k ks is in omega (arith, here)
  | inr none ↦ let here = count-not test k ks none in omega (arith, here)
]

pub count-least : (test : Key → Bool) (k : Key) (ks : List Key) → count test ks ≤ count test (k ∷ ks)
count-least test k ks = elim (test-or (test k)) [
  | inl is ↦ let here = count-here test k ks is in omega (arith, here)
  | inr none ↦ let here = count-not test k ks none in omega (arith, here)
]

-- a test that more keys of the list pass counts more
pub count-below : (few more : Key → Bool) (ks : List Key) → ((k : Key) → IsIn k ks → few k ≡ true → more k ≡ true) → count few ks ≤ count more ks
count-below few more [] all = omega arith
count-below few more (k ∷ ks) all =
    let rest = count-below few more ks (λ j among. all j (later among)) in
    elim (test-or (few k)) [
      | inl is ↦
          let here = count-here few k ks is in
          let also = count-here more k ks (all k first is) in
          omega (arith, rest, here, also)
      | inr none ↦
          let here = count-not few k ks none in
          let also = count-least more k ks in
          omega (arith, rest, here, also)
    ]

-- and at least one more where a key of the list passes it alone
pub count-less : (few more : Key → Bool) (x : Key) {ks : List Key} → IsIn x ks → few x ≡ false → more x ≡ true
    → ((k : Key) → few k ≡ true → more k ≡ true) → count few ks + 1 ≤ count more ks
count-less few more x (first {xs = ks}) none is all =
    let rest = count-below few more ks (λ j _. all j) in
    let here = count-not few x ks none in
    let also = count-here more x ks is in
    omega (arith, rest, here, also)
count-less few more x (later {y = k} {xs = ks} among) none is all =
    let rest = count-less few more x among none is all in
    elim (test-or (few k)) [
      | inl passes ↦
          let here = count-here few k ks passes in
          let also = count-here more k ks (all k passes) in
          omega (arith, rest, here, also)
      | inr fails ↦
          let here = count-not few k ks fails in
          let also = count-least more k ks in
          omega (arith, rest, here, also)
    ]

-- what differs from each key of the list is not in it
not-among : (x : Key) (ks : List Key) → AllByRecursion (λ y. same_key x y ≡ false) ks → IsIn x ks → ⊥
not-among x [] all among = elim (not-in-empty among) [ ]
not-among x (k ∷ ks) all among = elim (first-or among) [
  | inl same ↦ true≢false (sym (same_key_refl x) ∙ ap (same_key x) same ∙ all.0)
  | inr rest ↦ not-among x ks all.1 rest
]

all-differ : (x : Key) (ks : List Key) → (IsIn x ks → ⊥) → AllByRecursion (λ y. same_key x y ≡ false) ks
all-differ x [] none = tt
all-differ x (k ∷ ks) none = elim (same-or x k) [
  | inl same ↦ elim (none (subst (λ j. IsIn j (k ∷ ks)) (sym same) first)) [ ]
  | inr other ↦ (other.1, all-differ x ks (λ among. none (later among)))
]

-- a key is in the list or not
pub among-or : (x : Key) (ks : List Key) → IsIn x ks ⊎ (IsIn x ks → ⊥)
among-or x [] = inr not-in-empty
among-or x (k ∷ ks) = elim (same-or x k) [
  | inl same ↦ inl (subst (λ j. IsIn j (k ∷ ks)) (sym same) first)
  | inr other ↦ elim (among-or x ks) [
    | inl among ↦ inl (later among)
    | inr none ↦ inr (λ among. elim (first-or among) [
      | inl same ↦ other.0 same
      | inr rest ↦ none rest
    ])
  ]
]

-- a key that is not in the list may go before it
pub distinct-more : (x : Key) (ks : List Key) → (IsIn x ks → ⊥) → IsDistinct same_key ks → IsDistinct same_key (x ∷ ks)
unfolding IsDistinct
distinct-more x ks none once = (all-differ x ks none, once)

-- where all but one key that pass the one test pass the other, it counts at most one more
pub count-but : (few more : Key → Bool) (x : Key) (ks : List Key) → IsDistinct same_key ks → ((k : Key) → x ≢ k → more k ≡ true → few k ≡ true)
    → count more ks ≤ count few ks + 1
unfolding IsDistinct
count-but few more x [] once all = omega arith
count-but few more x (k ∷ ks) once all = elim (same-or x k) [
  | inl same ↦
      let apart : IsIn x ks → ⊥ = λ among. not-among k ks once.0 (subst (λ j. IsIn j ks) same among) in
      let rest = count-below more few ks (λ j among. all j (λ e. apart (subst (λ i. IsIn i ks) (sym e) among))) in
      let here = count-most more k ks in
      let also = count-least few k ks in
      omega (arith, rest, here, also)
  | inr other ↦
      let rest = count-but few more x ks once.1 all in
      elim (test-or (more k)) [
        | inl passes ↦
            let here = count-here more k ks passes in
            let also = count-here few k ks (all k other.0 passes) in
            omega (arith, rest, here, also)
        | inr fails ↦
            let here = count-not more k ks fails in
            let also = count-least few k ks in
            omega (arith, rest, here, also)
      ]
]
