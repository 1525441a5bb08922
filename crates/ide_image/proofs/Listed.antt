-- Items that are gone over one by one: what `h` passes of them goes on by `f`, behind what came of those before.
use Rattle.std.proofs.Common.{◌≡◌, ℕ, ◌+◌, ◌<◌, sym, ap, ◌∙◌, List, [], ◌∷◌, ◌++◌, length, map, drop, get_or, Option, None, Some}
use Rattle.std.specs.List.{cons_option, filter_map}
use Rattle.std.proofs.lemmas.List.{append_assoc, drop_more}

module _ {X Y Z : Type 0} (h : X → Option Y) (f : Y → Z) (before : List Z) (xs : List X) (i : ℕ) (x : X) where
  pub passed : i < length xs → (y : Y) → h (get_or xs i x) ≡ Some y
      → (before ++ f y ∷ []) ++ map f (filter_map h (drop (i + 1) xs)) ≡ before ++ map f (filter_map h (drop i xs))
  passed within y is =
      append_assoc before (f y ∷ []) (map f (filter_map h (drop (i + 1) xs)))
      ∙ sym (ap (λ o. before ++ map f (cons_option o (filter_map h (drop (i + 1) xs)))) is)
      ∙ sym (ap (λ rest. before ++ map f (filter_map h rest)) (drop_more xs i x within))

  pub passed_over : i < length xs → h (get_or xs i x) ≡ None → before ++ map f (filter_map h (drop (i + 1) xs)) ≡ before ++ map f (filter_map h (drop i xs))
  passed_over within is =
      sym (ap (λ o. before ++ map f (cons_option o (filter_map h (drop (i + 1) xs)))) is)
      ∙ sym (ap (λ rest. before ++ map f (filter_map h rest)) (drop_more xs i x within))
