-- The numbers of a row's facts at one node, which are read off the row, are exact and ascend. `get` gives the number of the page at an
-- index, where that is not 0.
use Rattle.std.proofs.Common.{◌≡◌, ℕ, ◌+◌, ◌*◌, ◌/◌, ◌%◌, ◌<◌, ◌^◌, refl, sym, ap, subst, ◌∙◌, arith, List, [], ◌∷◌, Option, None, Some, true, false, cond}
use Rattle.std.specs.Prelude.{position}
use Rattle.std.specs.BTreeMap.{is_at}
use Rattle.std.specs.List.{filter_map, cons_option, AllByRecursion}
use Rattle.std.specs.List.Sorted.{IsStrictlySortedBy}
use Rattle.std.specs.Map.{lookup, keys_of}
use Rattle.std.specs.Option.{option_map}
use Rattle.std.specs.Ordering.{nat_cmp}
use Rattle.std.specs.declared.cmp.Ordering.TheVariants.{Less}
use Rattle.std.proofs.lemmas.Bool.Decides.{nat_tests}
use Rattle.ide_wire.specs.declared.key.Key.{Key}
use Rattle.ide_wire.specs.declared.key.Key.TheVariants.{Jump}
use Rattle.ide_wire.specs.Key.{same_key}
use Rattle.ide_pages.specs.Pages.{ArePages, IsPage, IsRowOfJumps, listed_fact, nonzero, cell_number, number_at, number_by, numbers_of, numbers_within, offset_of, page_of, partner_of, read_at, row_of}
use Rattle.ide_pages.specs.Rows.{IsRow, RowsData, page_in, row_at}
use Rattle.ide_pages.proofs.KeyCells.{number-found, number-in-cell}

-- a fact that is at another is that one
pub at_exact : (a b : ℕ) → is_at (nat_cmp a) b ≡ true → a ≡ b
at_exact a b e = grind (arith, nat_tests)

not_at : (a b : ℕ) → nat_cmp a b ≡ Less → is_at (nat_cmp a) b ≡ false
not_at a b less = grind (arith, nat_tests)

-- a fact below all others is none of them
pub lookup-above : (fact : ℕ) (row : List (ℕ × ℕ)) → AllByRecursion (λ d. nat_cmp fact d ≡ Less) (keys_of row) → lookup (is_at (nat_cmp fact)) row ≡ None
lookup-above fact [] above = refl
lookup-above fact (e ∷ es) above =
    ap (λ b. cond b (Some e.1) (lookup (is_at (nat_cmp fact)) es)) (not_at fact e.0 above.0) ∙ lookup-above fact es above.1

module _ (get : ℕ → Option ℕ) where
  abbrev partner : ℕ × ℕ → Option (ℕ × ℕ)
  partner e = option_map (λ n. (e.0, n)) (get e.1)

  abbrev partners : List (ℕ × ℕ) → List (ℕ × ℕ)
  partners row = filter_map partner row

  -- the partners of a row, of whose first fact the number is known
  abbrev partners_with : Option ℕ → ℕ × ℕ → List (ℕ × ℕ) → List (ℕ × ℕ)
  partners_with own e es = cons_option (option_map (λ n. (e.0, n)) own) (partners es)

  -- what holds of each fact of a row holds of each partner
  all-partners : (P : ℕ → Type 0) (row : List (ℕ × ℕ)) → AllByRecursion P (keys_of row) → AllByRecursion P (keys_of (partners row))
  all-partners P [] all = tt
  all-partners P (e ∷ es) all =
      elim (get e.1) as (λ own. AllByRecursion P (keys_of (partners_with own e es))) [
        | None ↦ all-partners P es all.1
        | Some n ↦ (all.0, all-partners P es all.1)
      ]

  ascending : (row : List (ℕ × ℕ)) → IsStrictlySortedBy nat_cmp (keys_of row) → IsStrictlySortedBy nat_cmp (keys_of (partners row))
  unfolding IsStrictlySortedBy
  ascending [] sorted = tt
  ascending (e ∷ es) sorted =
      elim (get e.1) as (λ own. IsStrictlySortedBy nat_cmp (keys_of (partners_with own e es))) [
        | None ↦ ascending es sorted.1
        | Some n ↦ (all-partners (λ d. nat_cmp e.0 d ≡ Less) es sorted.0, ascending es sorted.1)
      ]

  -- the number of the page that is found, where it is not 0
  abbrev pub got : Option ℕ → Option ℕ
  got None = None
  got (Some index) = get index

  -- the fact's number is that of its page
  exact : (row : List (ℕ × ℕ)) (d : ℕ) → IsStrictlySortedBy nat_cmp (keys_of row) → lookup (is_at (nat_cmp d)) (partners row) ≡ got (page_in row d)
  unfolding IsStrictlySortedBy
  exact [] d sorted = refl
  exact (e ∷ es) d sorted =
      elim (is_at (nat_cmp d) e.0)
      as (λ b. is_at (nat_cmp d) e.0 ≡ b → lookup (is_at (nat_cmp d)) (partners_with (get e.1) e es) ≡ got (cond b (Some e.1) (page_in es d))) [
        | true ↦ λ own.
            elim (get e.1) as (λ o. lookup (is_at (nat_cmp d)) (partners_with o e es) ≡ o) [
              | None ↦
                  subst (λ k. lookup (is_at (nat_cmp k)) (partners es) ≡ None) (sym (at_exact d e.0 own))
                  (lookup-above e.0 (partners es) (all-partners (λ k. nat_cmp e.0 k ≡ Less) es sorted.0))
              | Some n ↦ ap (λ b. cond b (Some n) (lookup (is_at (nat_cmp d)) (partners es))) own
            ]
        | false ↦ λ other.
            elim (get e.1) as (λ o. lookup (is_at (nat_cmp d)) (partners_with o e es) ≡ got (page_in es d)) [
              | None ↦ exact es d sorted.1
              | Some n ↦ ap (λ b. cond b (Some n) (lookup (is_at (nat_cmp d)) (partners es))) other ∙ exact es d sorted.1
            ]
      ] refl

-- the number on a page that is found
got-number : (cells : List ℕ) (offset : ℕ) (o : Option ℕ)
    → got (λ index. nonzero (number_by cells offset index)) o ≡ nonzero (cell_number cells (option_map (λ index. 64 * index + offset) o))
got-number cells offset None = refl
got-number cells offset (Some index) = refl

module _ {pages : List Key} {cells : List ℕ} {rows : RowsData} {count : ℕ} (are : ArePages pages cells rows count) where
  -- the number of the key whose page a row has at a fact
  pub number-listed : (key : Key) → IsPage (page_of key)
      → got (λ index. nonzero (number_by cells (offset_of key) index)) (page_in (row_at rows (row_of (page_of key))) (listed_fact (page_of key)))
      ≡ nonzero (number_at (numbers_of pages cells) key)
  number-listed key is =
      ap (got (λ index. nonzero (number_by cells (offset_of key) index))) (are.told (page_of key) is)
      ∙ got-number cells (offset_of key) (position (same_key (page_of key)) pages)
      ∙ ap nonzero (sym (number-found are key))

  -- the numbers in the cells of the pages that are listed are those of the keys
  read-listed : (offset : ℕ) (row : List (ℕ × ℕ)) → read_at (numbers_of pages cells) offset row ≡ filter_map (partner_of (number_by cells offset)) row
  read-listed offset [] = refl
  read-listed offset (e ∷ es) =
      ap (λ n. cons_option (option_map (λ (m : ℕ). (e.0, m)) (nonzero n)) (read_at (numbers_of pages cells) offset es)) (number-in-cell are (64 * e.1 + offset))
      ∙ ap (cons_option (partner_of (number_by cells offset) e)) (read-listed offset es)

  -- the pages of the jumps at a node to a fact, read at the node's offset
  pub are-jumps : (most node fact : ℕ) (row : List (ℕ × ℕ)) → node < 2 ^ 32 → fact < 2 ^ 16 → row ≡ row_at rows (row_of (Jump (node / 64) 0 fact)) → IsRow row
      → IsRowOfJumps node fact (numbers_within most pages cells) (read_at (numbers_within most pages cells) (node % 64) row)
  are-jumps most node fact row low few at sorted =
      let get : ℕ → Option ℕ = λ index. nonzero (number_by cells (node % 64) index) in
      subst (IsRowOfJumps node fact (numbers_within most pages cells)) (sym (read-listed (node % 64) row))
      (record {
        ascending = ascending get row sorted.ascending;
        within = all-partners get (λ d. d < 2 ^ 16) row sorted.within;
        exact = λ d within.
            exact get row d sorted.ascending ∙ ap (λ r. got get (page_in r d)) at
            ∙ number-listed (Jump node d fact) (omega (arith, low), within, few);
      })
