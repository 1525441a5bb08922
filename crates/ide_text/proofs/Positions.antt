-- The place of the first element that passes a test.
use Rattle.std.proofs.Common.{◌≡◌, ℕ, zero, suc, ◌+◌, ◌<◌, Bool, ◌||◌, true, false, cond, List, [], ◌∷◌, ◌++◌, length, get_or, Option, None, Some, is_some, ◌∙◌, sym, ap, refl, arith}
use Rattle.std.specs.List.{list_any, position}
use Rattle.std.specs.Option.{option_map}
use Rattle.std.proofs.lemmas.Bool.Decides.{nat_tests}

-- the first of two options that has a value
abbrev pub or_else : {X : Type 0} → Option X → Option X → Option X
or_else first second = cond (is_some first) first second

abbrev pub later : Bool → Option ℕ → Option ℕ
later b o = cond b (Some 0) (option_map suc o)

-- the place of the first element that passes, by recursion
abbrev pub place_in : {X : Type 0} → (X → Bool) → List X → Option ℕ
place_in p [] = None
place_in p (x ∷ xs) = later (p x) (place_in p xs)

module _ {X : Type 0} (p : X → Bool) where
  pub position-cons : (x : X) (xs : List X) (b : Bool) → p x ≡ b → position p (x ∷ xs) ≡ later b (position p xs)
  position-cons x xs true e = grind (arith, nat_tests)
  position-cons x xs false e = grind (arith, nat_tests)

  pub position-place_in : (xs : List X) → position p xs ≡ place_in p xs
  position-place_in [] = refl
  position-place_in (x ∷ xs) = position-cons x xs (p x) refl ∙ ap (later (p x)) (position-place_in xs)

  later-append : (n : ℕ) (b : Bool) (o r q : Option ℕ) → r ≡ or_else o (option_map (λ i. n + i) q) → later b r ≡ or_else (later b o) (option_map (λ i. suc n + i) q)
  later-append n true o r q e = refl
  later-append n false (Some i) r q e = ap (option_map suc) e
  later-append n false None r None e = ap (option_map suc) e
  later-append n false None r (Some i) e = ap (option_map suc) e ∙ ap Some (omega arith)

  none-append : (o : Option ℕ) → o ≡ option_map (λ i. 0 + i) o
  none-append None = refl
  none-append (Some i) = ap Some (omega arith)

  place_in-append : (xs ys : List X) → place_in p (xs ++ ys) ≡ or_else (place_in p xs) (option_map (λ i. length xs + i) (place_in p ys))
  place_in-append [] ys = none-append (place_in p ys)
  place_in-append (x ∷ xs) ys = later-append (length xs) (p x) (place_in p xs) (place_in p (xs ++ ys)) (place_in p ys) (place_in-append xs ys)

  -- in two lists, one after the other
  pub position-append : (xs ys : List X) → position p (xs ++ ys) ≡ or_else (position p xs) (option_map (λ i. length xs + i) (position p ys))
  position-append xs ys = rw (position-place_in (xs ++ ys), position-place_in xs, position-place_in ys) (place_in-append xs ys)

  pub position-one : (x : X) → position p (x ∷ []) ≡ cond (p x) (Some 0) None
  position-one x = position-place_in (x ∷ []) ∙ by (p x)
    where
      by : (b : Bool) → later b None ≡ cond b (Some 0) None
      by true = refl
      by false = refl

  -- one more element is the first that passes only where none was
  pub position-push : (xs : List X) (x : X) → position p (xs ++ x ∷ []) ≡ or_else (position p xs) (cond (p x) (Some (length xs)) None)
  position-push xs x = position-append xs (x ∷ []) ∙ ap (or_else (position p xs)) (ap (option_map (λ i. length xs + i)) (position-one x) ∙ by (p x))
    where
      by : (b : Bool) → option_map (λ i. length xs + i) (cond b (Some 0) None) ≡ cond b (Some (length xs)) None
      by true = ap Some (omega arith)
      by false = refl

  within-cons : (x : X) (xs : List X) (b : Bool) (o : Option ℕ) → ((j : ℕ) → o ≡ Some j → j < length xs) → (i : ℕ) → later b o ≡ Some i → i < length (x ∷ xs)
  within-cons x xs true o inside i e = let h : Some 0 ≡ Some i = e in let z : 0 ≡ i = cc in omega arith
  within-cons x xs false None inside i e = let no : None ≡ Some i = e in cc
  within-cons x xs false (Some j) inside i e = let h : Some (suc j) ≡ Some i = e in let z : suc j ≡ i = cc in let w = inside j refl in omega (arith, w)

  place_within : (xs : List X) (i : ℕ) → place_in p xs ≡ Some i → i < length xs
  place_within [] i e = let no : None ≡ Some i = e in cc
  place_within (x ∷ xs) i e = within-cons x xs (p x) (place_in p xs) (place_within xs) i e

  pub position_within : (xs : List X) (i : ℕ) → position p xs ≡ Some i → i < length xs
  position_within xs i e = place_within xs i (sym (position-place_in xs) ∙ e)

  found-cons : (x : X) (xs : List X) (d : X) (b : Bool) (o : Option ℕ) → p x ≡ b → ((j : ℕ) → o ≡ Some j → p (get_or xs j d) ≡ true) → (i : ℕ) → later b o ≡ Some i → p (get_or (x ∷ xs) i d) ≡ true
  found-cons x xs d true o is found zero e = is
  found-cons x xs d true o is found (suc i) e = let h : Some 0 ≡ Some (suc i) = e in let z : 0 ≡ suc i = cc in absurd (omega arith)
  found-cons x xs d false None is found i e = let no : None ≡ Some i = e in cc
  found-cons x xs d false (Some j) is found zero e = let h : Some (suc j) ≡ Some 0 = e in let z : suc j ≡ 0 = cc in absurd (omega arith)
  found-cons x xs d false (Some j) is found (suc i) e = let h : Some (suc j) ≡ Some (suc i) = e in let z : suc j ≡ suc i = cc in found i (ap Some (omega (arith, z)))

  place_found : (xs : List X) (d : X) (i : ℕ) → place_in p xs ≡ Some i → p (get_or xs i d) ≡ true
  place_found [] d i e = let no : None ≡ Some i = e in cc
  place_found (x ∷ xs) d i e = found-cons x xs d (p x) (place_in p xs) refl (place_found xs d) i e

  -- the element there passes
  pub position_found : (xs : List X) (d : X) (i : ℕ) → position p xs ≡ Some i → p (get_or xs i d) ≡ true
  position_found xs d i e = place_found xs d i (sym (position-place_in xs) ∙ e)

  is_some-later : (b : Bool) (o : Option ℕ) → is_some (later b o) ≡ (b || is_some o)
  is_some-later true o = refl
  is_some-later false None = refl
  is_some-later false (Some i) = refl

  pub is_some-place_in : (xs : List X) → is_some (place_in p xs) ≡ list_any p xs
  is_some-place_in [] = refl
  is_some-place_in (x ∷ xs) = is_some-later (p x) (place_in p xs) ∙ ap (λ b. p x || b) (is_some-place_in xs)

  pub is_some-position : (xs : List X) → is_some (position p xs) ≡ list_any p xs
  is_some-position xs = ap is_some (position-place_in xs) ∙ is_some-place_in xs
