-- A client's own pairs: they stand in longer lists too, and one more, whose number no other has, may follow.
use Rattle.std.proofs.Common.{◌≡◌, ◌≢◌, ℕ, ◌-◌, ◌<◌, ◌≤◌, List, [], ◌∷◌, ◌++◌, length, map, drop, Some, slice_get, ap, subst, ◌∙◌, arith, length-append}
use Rattle.std.specs.List.{AllByRecursion}
use Rattle.std.proofs.lemmas.Option.{slice_get_within}
use Rattle.std.proofs.Math.Seq.{drop-append_seam}
use mathlib.Core.List.{IsPrefix}
use Rattle.ide_board.specs.Records.{Marked, AreSealed, AreStoredBelow, AscendInNumber, IsNotNoted, IsLastOf, last_pair}
use Rattle.ide_board.proofs.Beginnings.{prefix_get, prefix_back, last_at}

pub all_map : {X : Type 0} (P Q : X → Type 0) (xs : List X) → ((x : X) → P x → Q x) → AllByRecursion P xs → AllByRecursion Q xs
all_map P Q [] f all = tt
all_map P Q (x ∷ xs) f all = (f x all.0, all_map P Q xs f all.1)

pub all_both : {X : Type 0} (P Q S : X → Type 0) (xs : List X) → ((x : X) → P x → Q x → S x) → AllByRecursion P xs → AllByRecursion Q xs → AllByRecursion S xs
all_both P Q S [] f one two = tt
all_both P Q S (x ∷ xs) f one two = (f x one.0 two.0, all_both P Q S xs f one.1 two.1)

pub all_snoc : {X : Type 0} (P : X → Type 0) (xs : List X) (x : X) → AllByRecursion P xs → P x → AllByRecursion P (xs ++ x ∷ [])
all_snoc P [] x all last = (last, tt)
all_snoc P (y ∷ ys) x all last = (all.0, all_snoc P ys x all.1 last)

module _ {R : Type 0} where
  -- sealed records stay so in a longer list
  pub sealed_longer : (sealed longer : List (Marked R)) (client : ℕ) (own : List (ℕ × R)) → IsPrefix sealed longer → AreSealed sealed client own → AreSealed longer client own
  sealed_longer sealed longer client own p all = all_map _ _ own (λ pair e. prefix_get sealed longer pair.0 (pair.1, Some client) p e) all

  -- sealed records below a number are stored ones, where so many are stored and begin the sealed ones
  pub sealed_stored : (sealed stored : List (Marked R)) (client bound : ℕ) (own : List (ℕ × R)) → IsPrefix stored sealed → bound ≤ length stored → AreSealed sealed client own → AreStoredBelow bound stored client own
  sealed_stored sealed stored client bound own p enough all =
      all_map _ _ own (λ pair e below. prefix_back stored sealed pair.0 (pair.1, Some client) p (omega arith) e) all

  -- the number of a sealed record is below their count, and where it isn't the last one's, below that
  pub numbers_below : (sealed : List (Marked R)) (client : ℕ) (own : List (ℕ × R)) → AreSealed sealed client own → IsNotNoted (length sealed - 1) own → AllByRecursion (λ pair. pair.0 < length sealed - 1) own
  numbers_below sealed client own all new =
      all_both _ _ _ own (λ pair e other. below pair.0 (slice_get_within sealed pair.0 (pair.1, Some client) e) other) all new
    where
      below : (k : ℕ) → k < length sealed → k ≢ length sealed - 1 → k < length sealed - 1
      below k l other = omega arith

  pub ascends_snoc : (own : List (ℕ × R)) (last : ℕ × R) → AscendInNumber own → AllByRecursion (λ pair. pair.0 < last.0) own → AscendInNumber (own ++ last ∷ [])
  ascends_snoc [] last up below = (tt, tt)
  ascends_snoc (pair ∷ pairs) last up below = (all_snoc _ pairs last up.0 below.0, ascends_snoc pairs last up.1 below.1)

  -- the last pair of some records is the last one with its number
  pub last_pair-push : (before : List (Marked R)) (m : Marked R) → last_pair (before ++ m ∷ []) ≡ (length before, m.0) ∷ []
  last_pair-push before m =
      let count : length (before ++ m ∷ []) - 1 ≡ length before = omega (arith, length-append before (m ∷ [])) in
      ap (λ n. map (λ (x : Marked R). (n, x.0)) (drop n (before ++ m ∷ []))) count ∙ ap (map (λ (x : Marked R). (length before, x.0))) (drop-append_seam before (m ∷ []))

  -- the last record, which is the client's, may be one more of its own
  pub with_last : (sealed all : List (Marked R)) (client : ℕ) (own : List (ℕ × R)) → IsLastOf client sealed → IsPrefix sealed all → IsNotNoted (length sealed - 1) own → AreSealed sealed client own
      → AscendInNumber own → AreSealed all client own → AscendInNumber (own ++ last_pair sealed) × AreSealed all client (own ++ last_pair sealed)
  with_last sealed all client own (before, x, is) begins new here up there =
      let m : Marked R = (x, Some client) in
      let pair : last_pair sealed ≡ (length before, x) ∷ [] = ap last_pair is ∙ last_pair-push before m in
      let at : slice_get sealed (length before) ≡ Some m = ap (λ l. slice_get l (length before)) is ∙ last_at before m in
      let count : length sealed - 1 ≡ length before = omega (arith, ap length is, length-append before (m ∷ [])) in
      let below : AllByRecursion (λ (p : ℕ × R). p.0 < length before) own = subst (λ n. AllByRecursion (λ (p : ℕ × R). p.0 < n) own) count (numbers_below sealed client own here new) in
      rw pair (ascends_snoc own (length before, x) up below, all_snoc _ own (length before, x) there (prefix_get sealed all (length before) m begins at))
