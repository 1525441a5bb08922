-- What a name finds by its position: it is found where some element passes the test.
use Rattle.std.proofs.Common.{◌≡◌, ℕ, suc, Bool, true, false, cond, List, [], ◌∷◌, Option, None, Some, ◌||◌, ◌∙◌, sym, ap, refl, arith}
use Rattle.std.specs.Prelude.{slice_get}
use Rattle.std.specs.List.{list_any, find, position}
use Rattle.std.specs.Option.{option_map}
use Rattle.std.proofs.lemmas.Bool.Decides.{nat_tests}
use Rattle.std.proofs.lemmas.Option.{same_Some}

abbrev next : Bool → Option ℕ → Option ℕ
next b o = cond b (Some 0) (option_map suc o)

module _ {X : Type 0} (p : X → Bool) where
  position-cons : (x : X) (xs : List X) (b : Bool) → p x ≡ b → position p (x ∷ xs) ≡ next b (position p xs)
  position-cons x xs true e = grind (arith, nat_tests)
  position-cons x xs false e = grind (arith, nat_tests)

  found_later : (b : Bool) (rest : Bool) (o : Option ℕ) → (b || rest) ≡ true → (rest ≡ true → (k : ℕ) × (o ≡ Some k)) → (k : ℕ) × (next b o ≡ Some k)
  found_later true rest o e more = (0, refl)
  found_later false rest o e more = let r = more e in (suc r.0, ap (option_map suc) r.1)

  pub found : (xs : List X) → list_any p xs ≡ true → (k : ℕ) × (position p xs ≡ Some k)
  found [] e = let none : ⊥ = cc in elim none [ ]
  found (x ∷ xs) e = let r = found_later (p x) (list_any p xs) (position p xs) e (found xs) in (r.0, position-cons x xs (p x) refl ∙ r.1)

  find_next : (b : Bool) (x : X) (xs : List X) (k : ℕ) (o : Option ℕ) (f : Option X) → next b o ≡ Some k → ((j : ℕ) → o ≡ Some j → f ≡ slice_get xs j) → cond b (Some x) f ≡ slice_get (x ∷ xs) k
  find_next true x xs k o f e more = let zero_is : 0 ≡ k = cc in rw (← zero_is) refl
  find_next false x xs k None f e more = let none : ⊥ = cc in elim none [ ]
  find_next false x xs k (Some j) f e more = let same : suc j ≡ k = cc in rw (← same) (more j refl)

  -- the first element that passes is the one at the first position
  pub find-position : (xs : List X) (k : ℕ) → position p xs ≡ Some k → find p xs ≡ slice_get xs k
  find-position [] k e = let none : ⊥ = cc in elim none [ ]
  find-position (x ∷ xs) k e = find_next (p x) x xs k (position p xs) (find p xs) (sym (position-cons x xs (p x) refl) ∙ e) (find-position xs)

  none_next : (b : Bool) (x : X) (o : Option ℕ) (f : Option X) → next b o ≡ None → (o ≡ None → f ≡ None) → cond b (Some x) f ≡ None
  none_next true x o f e more = let none : ⊥ = cc in elim none [ ]
  none_next false x None f e more = more refl
  none_next false x (Some j) f e more = let none : ⊥ = cc in elim none [ ]

  -- no element passes where there is no first position
  pub find-none : (xs : List X) → position p xs ≡ None → find p xs ≡ None
  find-none [] e = refl
  find-none (x ∷ xs) e = none_next (p x) x (position p xs) (find p xs) (sym (position-cons x xs (p x) refl) ∙ e) (find-none xs)

  there_next : (b : Bool) (x : X) (xs : List X) (k : ℕ) (o : Option ℕ) → p x ≡ b → next b o ≡ Some k → ((j : ℕ) → o ≡ Some j → (y : X) × (slice_get xs j ≡ Some y) × (p y ≡ true)) → (y : X) × (slice_get (x ∷ xs) k ≡ Some y) × (p y ≡ true)
  there_next true x xs k o is e more = let zero_is : 0 ≡ k = cc in (x, rw (← zero_is) refl, is)
  there_next false x xs k None is e more = let none : ⊥ = cc in elim none [ ]
  there_next false x xs k (Some j) is e more = let same : suc j ≡ k = cc in let r = more j refl in (r.0, rw (← same) r.1, r.2)

  -- at the first position stands an element that passes
  pub there : (xs : List X) (k : ℕ) → position p xs ≡ Some k → (y : X) × (slice_get xs k ≡ Some y) × (p y ≡ true)
  there [] k e = let none : ⊥ = cc in elim none [ ]
  there (x ∷ xs) k e = there_next (p x) x xs k (position p xs) refl (sym (position-cons x xs (p x) refl) ∙ e) (there xs)

pub mapped : {A B : Type 0} (f : A → B) (o : Option A) (y : B) → option_map f o ≡ Some y → (x : A) × (o ≡ Some x) × (f x ≡ y)
mapped f None y e = let none : ⊥ = cc in elim none [ ]
mapped f (Some x) y e = (x, refl, same_Some (f x) y e)
