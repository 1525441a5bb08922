-- Membership in a list, and what holds of each element, matched by clauses.
use Rattle.std.specs.Prelude.{List, [], ◌∷◌}

-- the element stands in the list
pub data IsIn {T : Type 0} : T → List T → Type 0 where
  first : {x : T} {xs : List T} → IsIn x (x ∷ xs)
  later : {x y : T} {xs : List T} → IsIn x xs → IsIn x (y ∷ xs)

-- the property holds of each element
abbrev pub Each : {T : Type 0} → (T → Type 0) → List T → Type 0
Each P [] = Unit {0}
Each P (x ∷ xs) = P x × Each P xs
