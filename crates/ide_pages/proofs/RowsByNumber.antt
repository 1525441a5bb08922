-- Rows by their numbers: where a number stands, one row more, and a row that is written.
use Rattle.std.proofs.Common.{◌≡◌, ℕ, zero, suc, ◌<◌, refl, sym, ap, subst, ◌∙◌, List, [], ◌∷◌, ◌++◌, length, get_or, Some, None, false, ◌&&◌, ⊎_elim}
use Rattle.std.specs.Prelude.{nat_eq, position, if◌then◌else◌}
use Rattle.std.specs.List.{IsDistinct, list_any}
use Rattle.std.proofs.Math.Seq.{get_or-append_seam}
use Rattle.std.proofs.lemmas.Bool.{cases_eq, eq-eqb, eqb-true, ne_eqb}
use Rattle.std.proofs.lemmas.Cmp.{nat_eq_equiv}
use Rattle.std.proofs.lemmas.List.Quantifiers.{position-Some}
use Rattle.ide_pages.specs.Rows.{Lists, page_in, row_in}
use Rattle.ide_pages.proofs.Places.{found-where, position-absent, position-last, position-other}

-- ---- where a number stands

pub number-at : (numbers : List ℕ) (k number d : ℕ) → IsDistinct nat_eq numbers → k < length numbers → get_or numbers k d ≡ number
    → position (nat_eq number) numbers ≡ Some k
number-at numbers k number d apart l is = subst (λ n. position (nat_eq n) numbers ≡ Some k) is (found-where nat_eq nat_eq_equiv numbers k d apart l)

-- two numbers do not stand at one index
pub one-number : (numbers : List ℕ) (n m k : ℕ) → position (nat_eq n) numbers ≡ Some k → position (nat_eq m) numbers ≡ Some k → n ≡ m
one-number numbers n m k at_n at_m =
    eqb-true n (get_or numbers k 0) (position-Some (nat_eq n) numbers k 0 at_n).1
    ∙ sym (eqb-true m (get_or numbers k 0) (position-Some (nat_eq m) numbers k 0 at_m).1)

-- behind the last row there stands none
get_or-past : {X : Type 0} (xs : List X) (k : ℕ) (d : X) → get_or (xs ++ d ∷ []) k d ≡ get_or xs k d
get_or-past [] zero d = refl
get_or-past [] (suc k) d = refl
get_or-past (x ∷ xs) zero d = refl
get_or-past (x ∷ xs) (suc k) d = get_or-past xs k d

-- ---- one row more, with no fact

module _ (numbers : List ℕ) (rows : List (List (ℕ × ℕ))) (same : length rows ≡ length numbers) (n : ℕ) where
  row-own : list_any (nat_eq n) numbers ≡ false
      → row_in (rows ++ [] ∷ []) (position (nat_eq n) (numbers ++ n ∷ [])) ≡ row_in rows (position (nat_eq n) numbers)
  row-own none =
      ap (row_in (rows ++ [] ∷ [])) (position-last (nat_eq n) numbers n none (eq-eqb n n refl))
      ∙ ap (λ k. get_or (rows ++ [] ∷ []) k []) (sym same) ∙ get_or-append_seam rows [] [] []
      ∙ ap (row_in rows) (sym (position-absent (nat_eq n) numbers none))

  row-other : (r : ℕ) → (r ≡ n → ⊥) → row_in (rows ++ [] ∷ []) (position (nat_eq r) (numbers ++ n ∷ [])) ≡ row_in rows (position (nat_eq r) numbers)
  row-other r ne =
      ap (row_in (rows ++ [] ∷ [])) (position-other (nat_eq r) n (ne_eqb r n ne) numbers)
      ∙ elim (position (nat_eq r) numbers) as (λ o. row_in (rows ++ [] ∷ []) o ≡ row_in rows o) [
        | None ↦ refl
        | Some k ↦ get_or-past rows k []
      ]

  pub rows-pushed : list_any (nat_eq n) numbers ≡ false
      → (r : ℕ) → row_in (rows ++ [] ∷ []) (position (nat_eq r) (numbers ++ n ∷ [])) ≡ row_in rows (position (nat_eq r) numbers)
  rows-pushed none r =
      ⊎_elim
      (λ e. subst (λ q. row_in (rows ++ [] ∷ []) (position (nat_eq q) (numbers ++ n ∷ [])) ≡ row_in rows (position (nat_eq q) numbers))
      (sym e) (row-own none))
      (row-other r)
      (cases_eq r n)

-- ---- a row that is written

module _ (numbers : List ℕ) (old new : List (List (ℕ × ℕ))) (number index fact page : ℕ) (at : position (nat_eq number) numbers ≡ Some index) where
  written-own : Lists fact page (get_or old index []) (get_or new index [])
      → (d : ℕ) → page_in (row_in new (position (nat_eq number) numbers)) d
      ≡ (if nat_eq number number && nat_eq fact d then Some page else page_in (row_in old (position (nat_eq number) numbers)) d)
  written-own lists d =
      ap (λ o. page_in (row_in new o) d) at ∙ lists d
      ∙ sym (ap (λ b. if b && nat_eq fact d then Some page else page_in (row_in old (position (nat_eq number) numbers)) d) (eq-eqb number number refl)
      ∙ ap (λ o. if nat_eq fact d then Some page else page_in (row_in old o) d) at)

  written-other : ((k : ℕ) → nat_eq index k ≡ false → get_or new k [] ≡ get_or old k [])
      → (r : ℕ) → (number ≡ r → ⊥) → row_in new (position (nat_eq r) numbers) ≡ row_in old (position (nat_eq r) numbers)
  written-other others r ne =
      elim (position (nat_eq r) numbers) as (λ o. position (nat_eq r) numbers ≡ o → row_in new o ≡ row_in old o) [
        | None ↦ λ is. refl
        | Some k ↦ λ is. others k (ne_eqb index k (λ e. ne (one-number numbers number r index at (is ∙ ap Some (sym e)))))
      ] refl

  pub rows-written : Lists fact page (get_or old index []) (get_or new index [])
      → ((k : ℕ) → nat_eq index k ≡ false → get_or new k [] ≡ get_or old k [])
      → (r d : ℕ) → page_in (row_in new (position (nat_eq r) numbers)) d
      ≡ (if nat_eq number r && nat_eq fact d then Some page else page_in (row_in old (position (nat_eq r) numbers)) d)
  rows-written lists others r d =
      ⊎_elim
      (λ e. subst (λ q. page_in (row_in new (position (nat_eq q) numbers)) d
      ≡ (if nat_eq number q && nat_eq fact d then Some page else page_in (row_in old (position (nat_eq q) numbers)) d)) e (written-own lists d))
      (λ ne. ap (λ row. page_in row d) (written-other others r ne)
      ∙ sym (ap (λ b. if b && nat_eq fact d then Some page else page_in (row_in old (position (nat_eq r) numbers)) d) (ne_eqb number r ne)))
      (cases_eq number r)
