-- Lists that have exactly what they are to have, in ascending order.
use Rattle.std.specs.Prelude.{ℕ, ◌<◌, List}
use Rattle.std.specs.List.{All, AllPairs, Contains}

-- the list has exactly what P holds of, strictly ascending by the key, so that each stands there once
pub record Lists {X : Type 0} (P : X → Type 0) (key : X → ℕ) (xs : List X) : Type 0 where
  pub each : All P xs
  pub whole : (x : X) → P x → Contains xs x
  pub ascending : AllPairs (λ x y. key x < key y) xs
