-- Things that ascend by places: one more behind them ascends exactly where it is above the last.
use Rattle.std.specs.Prelude.{◌≡◌, List, [], ◌∷◌, ◌++◌, Option, Some, None}
use Rattle.std.specs.Cmp.{IsTotalOrder, nat_cmp_total}
use Rattle.std.specs.List.{AllByRecursion}
use Rattle.std.specs.List.Sorted.{IsStrictlySortedBy}
use Rattle.std.specs.declared.cmp.Ordering.{Ordering}
use Rattle.std.specs.declared.cmp.Ordering.TheVariants.{Less}
use Rattle.std.proofs.Common.{refl}
use Rattle.std.proofs.lemmas.Cmp.{on_total, then_total}
use Rattle.ide_batch.specs.GroupsRead.{IsAbove, Place, last_place, place_cmp}

place_total : IsTotalOrder place_cmp
place_total = then_total (on_total (λ (p : Place). p.0) nat_cmp_total) (on_total (λ (p : Place). p.1) nat_cmp_total)

pub all-push : {T : Type 0} (P : T → Type 0) (xs : List T) (x : T) → AllByRecursion P xs → P x → AllByRecursion P (xs ++ x ∷ [])
all-push P [] x all here = (here, tt)
all-push P (y ∷ xs) x all here = (all.0, all-push P xs x all.1 here)

-- what all have, each behind some of them has
pub all_at : {T : Type 0} (P : T → Type 0) (xs : List T) (x : T) (ys : List T) → AllByRecursion P (xs ++ x ∷ ys) → P x
all_at P [] x ys all = all.0
all_at P (y ∷ xs) x ys all = all_at P xs x ys all.1

module _ {T : Type 0} (place : T → Place) where
  abbrev pub by_place : T → T → Ordering
  by_place x y = place_cmp (place x) (place y)

  pub last-push : (before : Option Place) (xs : List T) (x : T) → last_place place before (xs ++ x ∷ []) ≡ Some (place x)
  last-push before [] x = refl
  last-push before (y ∷ xs) x = last-push (Some (place y)) xs x

  first_below : (x : T) (xs : List T) (y : T) → IsStrictlySortedBy by_place (x ∷ xs) → IsAbove (last_place place (Some (place x)) xs) (place y) → by_place x y ≡ Less
  unfolding IsStrictlySortedBy
  first_below x [] y sorted above = above
  first_below x (z ∷ xs) y sorted above = place_total.trans (place x) (place z) (place y) sorted.0.0 (first_below z xs y sorted.1 above)

  fewer : (before : Option Place) (xs : List T) (y : Place) → IsAbove (last_place place before xs) y → IsAbove (last_place place None xs) y
  fewer before [] y above = tt
  fewer before (x ∷ xs) y above = above

  pub sorted-push : (xs : List T) (y : T) → IsStrictlySortedBy by_place xs → IsAbove (last_place place None xs) (place y) → IsStrictlySortedBy by_place (xs ++ y ∷ [])
  unfolding IsStrictlySortedBy
  sorted-push [] y sorted above = (tt, tt)
  sorted-push (x ∷ xs) y sorted above =
      (all-push (λ z. by_place x z ≡ Less) xs y sorted.0 (first_below x xs y sorted above), sorted-push xs y sorted.1 (fewer (Some (place x)) xs (place y) above))

  above_first : (x : T) (xs : List T) (y : T) (ys : List T) → IsStrictlySortedBy by_place (x ∷ (xs ++ y ∷ ys)) → IsAbove (last_place place (Some (place x)) xs) (place y)
  unfolding IsStrictlySortedBy
  above_first x [] y ys sorted = sorted.0.0
  above_first x (z ∷ xs) y ys sorted = above_first z xs y ys sorted.1

  pub above_last : (xs : List T) (y : T) (ys : List T) → IsStrictlySortedBy by_place (xs ++ y ∷ ys) → IsAbove (last_place place None xs) (place y)
  above_last [] y ys sorted = tt
  above_last (x ∷ xs) y ys sorted = above_first x xs y ys sorted
