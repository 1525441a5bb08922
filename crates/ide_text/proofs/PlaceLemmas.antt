-- What the first place of a name in a list says.
use Rattle.std.proofs.Common.{◌≡◌, ℕ, suc, zero, ◌+◌, ◌<◌, ◌≤◌, Bool, true, false, true≢false, cond, List, [], ◌∷◌, ◌++◌, length, take, get_or, slice_get, Bor, Option, None, Some, is_some, ◌||◌, nat_lt, ◌∙◌, sym, ap, subst, refl, arith}
use Rattle.std.specs.List.{list_any, find, position, HoldsAt}
use Rattle.std.specs.Option.{option_copied, MatchOption}
use Rattle.std.specs.Str.{bytes_eq}
use Rattle.std.proofs.lemmas.Bool.Decides.{nat_tests}
use Rattle.std.proofs.lemmas.List.{take_more}
use Rattle.std.proofs.lemmas.Option.{slice_get_past, slice_get-get_or}
use Rattle.std.proofs.lemmas.Slice.Eq.{bytes_eq-Decides}
use Rattle.ide_text.proofs.NameLists.{none_from_is_some}
use Rattle.ide_text.proofs.Positions.{or_else, later, place_in, position-place_in, position-push}
use Rattle.ide_text.specs.Places.{place_of, with_place, ArePlaces}

-- the element that is found, and which fronts of the list have one
abbrev pub IsFirstAt : {X : Type 0} → (X → Bool) → List X → Option ℕ → Type 0
IsFirstAt p xs None = (find p xs ≡ None) × ((k : ℕ) → list_any p (take k xs) ≡ false)
IsFirstAt p xs (Some i) = (find p xs ≡ slice_get xs i) × ((k : ℕ) → i < k → list_any p (take k xs) ≡ true) × ((k : ℕ) → k ≤ i → list_any p (take k xs) ≡ false)

module _ {X : Type 0} (p : X → Bool) where
  any_here : (x : X) (xs : List X) (k : ℕ) → p x ≡ true → 0 < k → list_any p (take k (x ∷ xs)) ≡ true
  any_here x xs zero e pos = absurd (omega arith)
  any_here x xs (suc k) e pos = ap (λ b. b || list_any p (take k xs)) e

  any_none : (x : X) (xs : List X) (k : ℕ) → k ≤ 0 → list_any p (take k (x ∷ xs)) ≡ false
  any_none x xs zero h = refl
  any_none x xs (suc k) h = absurd (omega arith)

  none_later : (x : X) (xs : List X) (k : ℕ) → p x ≡ false → ((j : ℕ) → list_any p (take j xs) ≡ false) → list_any p (take k (x ∷ xs)) ≡ false
  none_later x xs zero e h = refl
  none_later x xs (suc k) e h = ap (λ b. b || list_any p (take k xs)) e ∙ h k

  any_later : (x : X) (xs : List X) (i k : ℕ) → p x ≡ false → ((j : ℕ) → i < j → list_any p (take j xs) ≡ true) → suc i < k → list_any p (take k (x ∷ xs)) ≡ true
  any_later x xs i zero e h above = absurd (omega arith)
  any_later x xs i (suc k) e h above = ap (λ b. b || list_any p (take k xs)) e ∙ h k (omega arith)

  none_before : (x : X) (xs : List X) (i k : ℕ) → p x ≡ false → ((j : ℕ) → j ≤ i → list_any p (take j xs) ≡ false) → k ≤ suc i → list_any p (take k (x ∷ xs)) ≡ false
  none_before x xs i zero e h below = refl
  none_before x xs i (suc k) e h below = ap (λ b. b || list_any p (take k xs)) e ∙ h k (omega arith)

  first_at-cons : (x : X) (xs : List X) (b : Bool) (o : Option ℕ) → p x ≡ b → IsFirstAt p xs o → IsFirstAt p (x ∷ xs) (later b o)
  first_at-cons x xs true o e h = (ap (λ b. cond b (Some x) (find p xs)) e, λ k above. any_here x xs k e above, λ k below. any_none x xs k below)
  first_at-cons x xs false None e h = (ap (λ b. cond b (Some x) (find p xs)) e ∙ h.0, λ k. none_later x xs k e h.1)
  first_at-cons x xs false (Some i) e h =
      (ap (λ b. cond b (Some x) (find p xs)) e ∙ h.0, λ k above. any_later x xs i k e h.1 above, λ k below. none_before x xs i k e h.2 below)

  none_in_nothing : (k : ℕ) → list_any p (take k []) ≡ false
  none_in_nothing zero = refl
  none_in_nothing (suc k) = refl

  first_at-place_in : (xs : List X) → IsFirstAt p xs (place_in p xs)
  first_at-place_in [] = (refl, none_in_nothing)
  first_at-place_in (x ∷ xs) = first_at-cons x xs (p x) (place_in p xs) refl (first_at-place_in xs)

module _ {P : Type 0} where
  place_of-cons : (e : List ℕ × P) (es new : List (List ℕ × P)) (other : List ℕ) (next : Option P) (b : Bool)
      → place_of new other ≡ or_else (place_of es other) next
      → cond b (Some e.1) (place_of new other) ≡ or_else (cond b (Some e.1) (place_of es other)) next
  place_of-cons e es new other next true h = refl
  place_of-cons e es new other next false h = h

  -- one more name finds its place where it had none
  place_of-push : (places : List (List ℕ × P)) (name other : List ℕ) (place : P)
      → place_of (places ++ (name, place) ∷ []) other ≡ or_else (place_of places other) (cond (bytes_eq other name) (Some place) None)
  place_of-push [] name other place = refl
  place_of-push (e ∷ es) name other place =
      place_of-cons e es (es ++ (name, place) ∷ []) other (cond (bytes_eq other name) (Some place) None) (bytes_eq other e.0) (place_of-push es name other place)

  -- the place of each name, where one more name may have been given one
  pub place_of-with_place : (places : List (List ℕ × P)) (name other : List ℕ) (place : P)
      → place_of (with_place places name place) other ≡ or_else (place_of places other) (cond (bytes_eq other name) (Some place) None)
  place_of-with_place places name other place = by (is_some (place_of places name)) (is_some (place_of places other)) (bytes_eq other name) refl refl refl
    where
      by : (there found same : Bool) → is_some (place_of places name) ≡ there → is_some (place_of places other) ≡ found → bytes_eq other name ≡ same
          → place_of (cond there places (places ++ (name, place) ∷ [])) other ≡ cond found (place_of places other) (cond same (Some place) None)
      by true true same e f s = refl
      by true false true e f s =
          absurd (true≢false (sym e ∙ (ap (λ n. is_some (place_of places n)) (sym ((bytes_eq-Decides other name).0 s)) ∙ f)))
      by true false false e f s = none_from_is_some (place_of places other) f
      by false found same e f s =
          place_of-push places name other place
          ∙ (ap (λ b. cond b (place_of places other) (cond (bytes_eq other name) (Some place) None)) f ∙ ap (λ b. cond found (place_of places other) (cond b (Some place) None)) s)

-- the facts on the first place, of the place that a name has
pub first_at : {X : Type 0} (test : List ℕ → X → Bool) (xs : List X) (places : List (List ℕ × ℕ)) → ArePlaces test xs places → (name : List ℕ) (o : Option ℕ) → place_of places name ≡ o → IsFirstAt (test name) xs o
first_at test xs places placed name o is = subst (IsFirstAt (test name) xs) (sym (position-place_in (test name) xs) ∙ (sym (placed name) ∙ is)) (first_at-place_in (test name) xs)

-- whether a found place is before another
pub before-first_at : {X : Type 0} (p : X → Bool) (xs : List X) (i k : ℕ) → IsFirstAt p xs (Some i) → nat_lt i k ≡ list_any p (take k xs)
before-first_at p xs i k h = by (nat_lt i k) refl
  where
    by : (b : Bool) → nat_lt i k ≡ b → b ≡ list_any p (take k xs)
    by true e = sym (h.1 k (grind (arith, nat_tests)))
    by false e = sym (h.2 k (grind (arith, nat_tests)))

-- what a slice gives at an index
pub copied_at : {X : Type 0} (r : Option (Bor X)) (xs : List X) (i : ℕ) → MatchOption r (length xs ≤ i) (λ x. (i < length xs) × HoldsAt (λ y. x.now ≡ y) xs i) → option_copied r ≡ slice_get xs i
copied_at None xs i h = sym (slice_get_past xs i h)
copied_at (Some x) xs i h = sym (slice_get-get_or xs i x.now h.0 ∙ ap Some (sym (h.1 x.now)))

-- one more element than the front has
pub front_more : {X : Type 0} (P : List X → Type 0) (xs : List X) (i : ℕ) (x : X) → i < length xs → x ≡ get_or xs i x → P (take i xs ++ x ∷ []) → P (take (i + 1) xs)
front_more P xs i x inside at h = subst P (sym (take_more xs i x inside ∙ ap (λ y. take i xs ++ y ∷ []) (sym at))) h

module _ {X : Type 0} (test : List ℕ → X → Bool) (xs : List X) (places : List (List ℕ × ℕ)) (x : X) (old : ArePlaces test xs places) where
  -- one more element, that has the name
  pub ArePlaces-named : (name : List ℕ) (n : ℕ) → n ≡ length xs → ((other : List ℕ) → test other x ≡ bytes_eq other name) → ArePlaces test (xs ++ x ∷ []) (with_place places name n)
  ArePlaces-named name n counted has other =
      ap (λ i. place_of (with_place places name i) other) counted
      ∙ place_of-with_place places name other (length xs)
      ∙ ap (λ o. or_else o (cond (bytes_eq other name) (Some (length xs)) None)) (old other)
      ∙ ap (λ b. or_else (position (test other) xs) (cond b (Some (length xs)) None)) (sym (has other))
      ∙ sym (position-push (test other) xs x)

  -- one more element, that has no name
  pub ArePlaces-unnamed : ((other : List ℕ) → test other x ≡ false) → ArePlaces test (xs ++ x ∷ []) places
  ArePlaces-unnamed none other =
      old other ∙ sym (same (position (test other) xs))
      ∙ ap (λ b. or_else (position (test other) xs) (cond b (Some (length xs)) None)) (sym (none other))
      ∙ sym (position-push (test other) xs x)
    where
      same : (o : Option ℕ) → or_else o None ≡ o
      same None = refl
      same (Some i) = refl
