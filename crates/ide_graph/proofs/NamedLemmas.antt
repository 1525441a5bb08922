-- Looking up in a list whose keys or elements are mapped is looking up by the mapped test.
use Rattle.std.proofs.Common.{◌≡◌, ◌+◌, Bool, List, [], ◌∷◌, Some, cond, map, not, ap, refl}
use Rattle.std.proofs.lemmas.List.{length-map}
use Rattle.std.specs.List.{position, prefix_len}
use Rattle.std.specs.Map.{lookup}

module _ {K B : Type 0} (h : K → B) where
  pub lookup-map_keys : {X : Type 0} (test : B → Bool) (es : List (K × X)) → lookup test (map (λ e. (h e.0, e.1)) es) ≡ lookup (λ k. test (h k)) es
  lookup-map_keys test [] = refl
  lookup-map_keys test (e ∷ es) = ap (λ r. cond (test (h e.0)) (Some e.1) r) (lookup-map_keys test es)

  pub prefix_len-map : (p : B → Bool) (xs : List K) → prefix_len p (map h xs) ≡ prefix_len (λ x. p (h x)) xs
  prefix_len-map p [] = refl
  prefix_len-map p (x ∷ xs) = ap (λ r. cond (p (h x)) (1 + r) 0) (prefix_len-map p xs)

  pub position-map : (p : B → Bool) (xs : List K) → position p (map h xs) ≡ position (λ x. p (h x)) xs
  position-map p xs = rw (prefix_len-map (λ x. not (p x)) xs, length-map xs h) refl
