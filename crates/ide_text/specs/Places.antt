-- The places of names: each name has that of the first one that it is given.
use Rattle.std.specs.Prelude.{ℕ, ◌≡◌, Bool, List, [], ◌∷◌, ◌++◌, Option, cond, is_some}
use Rattle.std.specs.List.{position}
use Rattle.std.specs.Map.{lookup}
use Rattle.std.specs.Str.{bytes_eq}

-- the place of a name
abbrev pub place_of : {P : Type 0} → List (List ℕ × P) → List ℕ → Option P
place_of places name = lookup (bytes_eq name) places

-- the places, and that of one more name, unless it has one
abbrev pub with_place : {P : Type 0} → List (List ℕ × P) → List ℕ → P → List (List ℕ × P)
with_place places name place = cond (is_some (place_of places name)) places (places ++ (name, place) ∷ [])

-- each name has the place of the first element that passes its test
abbrev pub ArePlaces : {X : Type 0} → (List ℕ → X → Bool) → List X → List (List ℕ × ℕ) → Type 0
ArePlaces test xs places = (name : List ℕ) → place_of places name ≡ position (test name) xs
