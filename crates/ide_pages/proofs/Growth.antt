-- A page of zeros behind the others: no entry comes or goes.
use Rattle.std.proofs.Common.{◌≡◌, ℕ, zero, suc, ◌+◌, ◌-◌, ◌*◌, ◌/◌, ◌%◌, ◌<◌, ◌^◌, lit<, refl, sym, ap, subst, ◌∙◌, arith, List, [], ◌∷◌, ◌++◌, length, get_or, Some, None, Bool, true, false, replicate, ⊎_elim}
use Rattle.std.specs.Prelude.{position, nat_eq, ◌&&◌, if◌then◌else◌}
use Rattle.std.specs.List.{IsDistinct, list_any}
use Rattle.std.specs.Option.{option_map}
use Rattle.std.proofs.lemmas.Bool.{and_parts, cases_lt, eq-eqb, eqb-true, false_from_ne_true}
use Rattle.std.proofs.lemmas.List.{get_or_append_left, get_or-append_right, length-append, length-replicate}
use Rattle.std.proofs.lemmas.Map.Keys.{IsDistinct-push}
use Rattle.ide_wire.specs.declared.key.Key.{Key}
use Rattle.ide_wire.specs.declared.key.Key.TheVariants.{Jump, Summary}
use Rattle.ide_wire.specs.Key.{same_key, same_key_exact, same_key_laws, same_key_refl}
use Rattle.ide_pages.specs.Pages.{ArePages, IsPage, IsSmall, TellPages, cell_of, cell_on, entries, key_at, key_on, listed_fact, numbers_of, offset_of, page_at, page_of, row_of}
use Rattle.ide_pages.specs.Rows.{KeepsPages, ListsIn, RowsData, page_in, row_at, row_in}
use Rattle.ide_pages.proofs.Places.{position-last, position-none, position-other}
use Rattle.ide_pages.proofs.Slots.{full-grown}

-- a page that has no cell is not there
pub absent-page : (pages : List Key) (offset : ℕ) (page : Key) → cell_on pages offset page ≡ None → list_any (same_key page) pages ≡ false
absent-page pages offset page none =
    position-none (same_key page) pages
    (elim (position (same_key page) pages) as (λ o. option_map (λ index. 64 * index + offset) o ≡ None → o ≡ None) [
      | None ↦ λ e. refl
      | Some index ↦ λ e. absurd (cc)
    ] none)

-- the new page's cells
pub cell-last : (pages : List Key) (offset : ℕ) (page : Key) → list_any (same_key page) pages ≡ false
    → cell_on (pages ++ page ∷ []) offset page ≡ Some (64 * length pages + offset)
cell-last pages offset page none =
    ap (option_map (λ index. 64 * index + offset)) (position-last (same_key page) pages page none (same_key_refl page))

page-kept : (pages more : List Key) (index : ℕ) → index < length pages → page_at (pages ++ more) index ≡ page_at pages index
page-kept pages more index l = get_or_append_left pages more (Jump 0 0 0) index l

pub entries-kept : (pages more : List Key) (cells : List ℕ) (count : ℕ) → length cells ≡ 64 * length pages
    → entries (numbers_of (pages ++ more) (cells ++ replicate count 0)) ≡ entries (numbers_of pages cells)
entries-kept pages more cells count paged =
    full-grown (key_at pages) (key_at (pages ++ more)) cells count
    (λ j l. let in_pages : j / 64 < length pages = omega (arith, paged, l) in
    ap (λ page. key_on page (j % 64)) (sym (page-kept pages more (j / 64) in_pages)))

-- one small page more
small-push : (pages : List Key) (page : Key) (d : Key) → IsSmall d → ((index : ℕ) → IsSmall (get_or pages index d)) → IsSmall page
    → (index : ℕ) → IsSmall (get_or (pages ++ page ∷ []) index d)
small-push pages page d default small own index =
    ⊎_elim
    (λ l. subst IsSmall (sym (get_or_append_left pages (page ∷ []) d index l)) (small index))
    (λ l. subst IsSmall (sym (get_or-append_right pages (page ∷ []) (length pages) index d refl l)) (one (index - length pages)))
    (cases_lt index (length pages))
  where
    one : (k : ℕ) → IsSmall (get_or (page ∷ []) k d)
    one zero = own
    one (suc k) = default

-- ---- rows, where a page more is told

-- pages of one row that list one fact are one
same_page : (p q : Key) → IsPage p → IsPage q → row_of p ≡ row_of q → listed_fact p ≡ listed_fact q → p ≡ q
same_page (Jump n a b) (Jump m c d) own other row fact =
    let block : n ≡ m = omega (arith, row, own.2, other.2) in
    let same : b ≡ d = omega (arith, row, own.2, other.2) in
    ap (λ k. Jump k a b) block ∙ ap (λ k. Jump m k b) fact ∙ ap (Jump m c) same
same_page (Jump n a b) (Summary m c d) own other row fact = absurd (omega (arith, row, own.0, own.2))
same_page (Summary n a b) (Jump m c d) own other row fact = absurd (omega (arith, row, other.0, other.2))
same_page (Summary n a b) (Summary m c d) own other row fact =
    let block : n ≡ m = omega (arith, row, own.1, other.1) in
    let same : a ≡ c = omega (arith, row, own.1, other.1) in
    ap (λ k. Summary k a b) block ∙ ap (λ k. Summary m k b) same ∙ ap (Summary m c) fact

-- of another page the row or the fact is another one
other_page : (p q : Key) → IsPage p → IsPage q → same_key q p ≡ false → (nat_eq (row_of p) (row_of q) && nat_eq (listed_fact p) (listed_fact q)) ≡ false
other_page p q own other differ =
    false_from_ne_true (nat_eq (row_of p) (row_of q) && nat_eq (listed_fact p) (listed_fact q))
    (λ both.
    let parts = and_parts (nat_eq (row_of p) (row_of q)) (nat_eq (listed_fact p) (listed_fact q)) both in
    let same : p ≡ q = same_page p q own other (eqb-true (row_of p) (row_of q) parts.0) (eqb-true (listed_fact p) (listed_fact q) parts.1) in
    let is : same_key q p ≡ true = ap (same_key q) same ∙ same_key_refl q in
    absurd (cc (is, differ)))

-- a page that is told at its index
own_page : (p : Key) → (nat_eq (row_of p) (row_of p) && nat_eq (listed_fact p) (listed_fact p)) ≡ true
own_page p =
    ap (λ b. b && nat_eq (listed_fact p) (listed_fact p)) (eq-eqb (row_of p) (row_of p) refl) ∙ eq-eqb (listed_fact p) (listed_fact p) refl

module _ (rows new_rows : RowsData) (pages : List Key) (page : Key) (index : ℕ) (is : IsPage page)
    (none : list_any (same_key page) pages ≡ false) (at : index ≡ length pages)
    (told : TellPages rows pages) (lists : ListsIn (row_of page) (listed_fact page) index rows new_rows) where
  abbrev told-there : Bool → Key → Type 0
  told-there same q = (if same then Some index else page_in (row_at rows (row_of q)) (listed_fact q)) ≡ position (same_key q) (pages ++ page ∷ [])

  told-own : (q : Key) → IsPage q → same_key q page ≡ true → told-there (nat_eq (row_of page) (row_of q) && nat_eq (listed_fact page) (listed_fact q)) q
  told-own q proper own =
      subst (λ p. told-there (nat_eq (row_of page) (row_of p) && nat_eq (listed_fact page) (listed_fact p)) p) (sym (same_key_exact q page own))
      (subst (λ b. told-there b page) (sym (own_page page)) (ap Some at ∙ sym (position-last (same_key page) pages page none (same_key_refl page))))

  told-other : (q : Key) → IsPage q → same_key q page ≡ false → told-there (nat_eq (row_of page) (row_of q) && nat_eq (listed_fact page) (listed_fact q)) q
  told-other q proper differ =
      subst (λ b. told-there b q) (sym (other_page page q is proper differ)) (told q proper ∙ sym (position-other (same_key q) page differ pages))

  told-grown : TellPages new_rows (pages ++ page ∷ [])
  told-grown q proper =
      lists (row_of q) (listed_fact q)
      ∙ elim (same_key q page) as (λ b. same_key q page ≡ b → told-there (nat_eq (row_of page) (row_of q) && nat_eq (listed_fact page) (listed_fact q)) q) [
        | true ↦ λ own. told-own q proper own
        | false ↦ λ differ. told-other q proper differ
      ] refl

-- no page
pub are-none : (pages : List Key) (cells : List ℕ) (rows : RowsData) → pages ≡ [] → cells ≡ [] → rows.numbers ≡ [] → ArePages pages cells rows 0
unfolding IsDistinct
are-none pages cells rows no_pages no_cells no_rows =
    subst (λ ps. ArePages ps cells rows 0) (sym no_pages)
    (subst (λ ns. ArePages [] ns rows 0) (sym no_cells)
    (record {
      paged = refl;
      few = lit< tt;
      distinct = tt;
      small = λ index. none-small index;
      told = λ page is. ap (λ numbers. page_in (row_in rows.rows (position (nat_eq (row_of page)) numbers)) (listed_fact page)) no_rows;
      counted = refl;
    }))
  where
    none-small : (index : ℕ) → IsSmall (page_at [] index)
    none-small zero = lit< tt
    none-small (suc index) = lit< tt

module _ {pages : List Key} {cells : List ℕ} {rows : RowsData} {count : ℕ} (are : ArePages pages cells rows count) where
  -- other rows that list the same pages
  pub are-kept : (new_rows : RowsData) → KeepsPages rows new_rows → ArePages pages cells new_rows count
  are-kept new_rows same = record {
    paged = are.paged;
    few = are.few;
    distinct = are.distinct;
    small = are.small;
    told = λ page is. same (row_of page) (listed_fact page) ∙ are.told page is;
    counted = are.counted;
  }

  module _ (page : Key) (new_pages : List Key) (new_cells : List ℕ) (pushed : new_pages ≡ pages ++ page ∷ []) (zeros : new_cells ≡ cells ++ replicate 64 0) where
    pub entries-grown : entries (numbers_of new_pages new_cells) ≡ entries (numbers_of pages cells)
    entries-grown =
        ap (λ ps. entries (numbers_of ps new_cells)) pushed ∙ ap (λ ns. entries (numbers_of (pages ++ page ∷ []) ns)) zeros
        ∙ entries-kept pages (page ∷ []) cells 64 are.paged

    pub are-grown : (new_rows : RowsData) (index : ℕ) → IsPage page → IsSmall page → list_any (same_key page) pages ≡ false → index ≡ length pages → index + 1 < 2 ^ 32
        → ListsIn (row_of page) (listed_fact page) index rows new_rows → ArePages new_pages new_cells new_rows count
    are-grown new_rows index is low none at few lists =
        let long_pages : length new_pages ≡ length pages + 1 = ap length pushed ∙ length-append pages (page ∷ []) in
        let long_cells : length new_cells ≡ length cells + 64 = ap length zeros ∙ length-append cells (replicate 64 0) ∙ ap (λ n. length cells + n) (length-replicate {A = ℕ} 64 0) in
        let paged = are.paged in
        record {
          paged = omega (arith, long_pages, long_cells, paged);
          few = omega (arith, long_pages, at, few);
          distinct = subst (IsDistinct same_key) (sym pushed) (IsDistinct-push same_key_laws pages page are.distinct none);
          small = λ k. subst (λ ps. IsSmall (page_at ps k)) (sym pushed) (small-push pages page (Jump 0 0 0) (lit< tt) are.small low k);
          told = subst (TellPages new_rows) (sym pushed) (told-grown rows new_rows pages page index is none at are.told lists);
          counted = are.counted ∙ ap length (sym entries-grown);
        }

    pub cell-grown : (key : Key) (index offset : ℕ) → page ≡ page_of key → list_any (same_key page) pages ≡ false → index ≡ length pages → offset ≡ offset_of key
        → cell_of (numbers_of new_pages new_cells) key ≡ Some (64 * index + offset)
    cell-grown key index offset is none at on =
        ap (λ ps. cell_on ps (offset_of key) (page_of key)) pushed
        ∙ ap (λ o. cell_on (pages ++ page ∷ []) o (page_of key)) (sym on)
        ∙ ap (cell_on (pages ++ page ∷ []) offset) (sym is)
        ∙ cell-last pages offset page none
        ∙ ap (λ i. Some (64 * i + offset)) (sym at)
