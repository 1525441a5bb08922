-- The cells of pages that differ: each has a key of its own, so that a key's number is that of its cell.
use Rattle.std.proofs.Common.{◌≡◌, ℕ, ◌+◌, ◌*◌, ◌/◌, ◌%◌, ◌<◌, ◌≤◌, ◌^◌, refl, sym, ap, subst, ◌∙◌, arith, List, ◌++◌, length, take, drop, zero, suc, cond, get_or, Option, Some, None}
use Rattle.std.specs.Prelude.{IfNone, IfSome, position, slice_set, if◌then◌else◌}
use Rattle.std.specs.List.{IsDistinct}
use Rattle.std.specs.Map.{keys_of}
use Rattle.std.specs.Option.{option_map, option_to_list, unwrap_or}
use Rattle.std.proofs.lemmas.Bool.{ne_eqb}
use Rattle.std.proofs.lemmas.List.{get_or-set_other, length-append, length-set}
use Rattle.std.proofs.lemmas.List.FromFn.{fill_by_all}
use Rattle.std.proofs.lemmas.List.Quantifiers.{position-Some}
use Rattle.ide_wire.specs.declared.key.Key.{Key}
use Rattle.ide_wire.specs.declared.key.Key.TheVariants.{Jump, Summary}
use Rattle.ide_wire.specs.Key.{same_key, same_key_exact}
use Rattle.ide_pages.specs.Pages.{ArePaged, ArePages, Fits, IsSmall, Puts, PutsRun, cell_of, cell_on, entries, key_at, key_on, number_at, number_in, cell_number, numbers_of, numbers_within, offset_of, own, page_at, page_of, shown, slot_at, slot_by, slots_from, weight}
use Rattle.ide_pages.specs.CellNumbers.{with_run}
use Rattle.ide_pages.specs.Rows.{RowsData}
use Rattle.ide_pages.proofs.Places.{key_on-page_of, offset-key_on, offset-within, page_of-key_on, position-at}
use Rattle.ide_pages.proofs.Numbering.{IsNumbering, distinct-entries, number-after, number-is}
use Rattle.ide_pages.proofs.Slots.{full, full-get, full-set, get-slots, length-full, length-shown, length-slots, shown-number, shown-some, slots-set}

-- the cell of a key, in the pages
abbrev pub cell_in : List Key → Key → Option ℕ
cell_in pages key = cell_on pages (offset_of key) (page_of key)

-- an offset behind an index, in a cell that is known
pub mapped : (o : Option ℕ) (offset c : ℕ) → option_map (λ index. 64 * index + offset) o ≡ Some c → (index : ℕ) × (o ≡ Some index) × (64 * index + offset ≡ c)
mapped None offset c e = absurd (cc)
mapped (Some index) offset c e = let same : 64 * index + offset ≡ c = cc in (index, refl, same)

-- a key's cell is that of no other key, and not behind the last
pub cell-back : (pages : List Key) (q : Key) (c : ℕ) → cell_in pages q ≡ Some c → (key_at pages c ≡ q) × (c < 64 * length pages)
cell-back pages q c is =
    let found = mapped (position (same_key (page_of q)) pages) (offset_of q) c is in
    let in_page = offset-within q in
    let at : c ≡ 64 * found.0 + offset_of q = sym found.2 in
    let block : c / 64 ≡ found.0 = omega (arith, at, in_page) in
    let offset : c % 64 ≡ offset_of q = omega (arith, at, in_page) in
    let some = position-Some (same_key (page_of q)) pages found.0 (Jump 0 0 0) found.1 in
    let page : page_at pages found.0 ≡ page_of q = sym (same_key_exact (page_of q) (page_at pages found.0) some.1) in (
      ap (λ i. key_on (page_at pages i) (c % 64)) block ∙ ap (λ p. key_on p (c % 64)) page ∙ ap (key_on (page_of q)) offset ∙ key_on-page_of q,
      omega (arith, some.0, at, in_page),
    )

module _ (pages : List Key) (apart : IsDistinct same_key pages) where
  cell-there : (c : ℕ) → c < 64 * length pages → cell_in pages (key_at pages c) ≡ Some c
  cell-there c l =
      let page = page_at pages (c / 64) in
      let in_page : c % 64 < 64 = omega arith in
      let whole : 64 * (c / 64) + c % 64 ≡ c = omega arith in
      ap (cell_on pages (offset_of (key_at pages c))) (page_of-key_on page (c % 64) in_page)
      ∙ ap (λ offset. cell_on pages offset page) (offset-key_on page (c % 64) in_page)
      ∙ ap (option_map (λ index. 64 * index + c % 64)) (position-at pages (c / 64) (Jump 0 0 0) apart (omega arith))
      ∙ ap Some whole

  pub numbering : (cells : List ℕ) → length cells ≡ 64 * length pages → IsNumbering (key_at pages) (cell_in pages) (length cells)
  numbering cells paged = record {
    there = λ c l. cell-there c (omega arith);
    back = λ q c is. (cell-back pages q c is).0;
    within = λ q c is. let l = (cell-back pages q c is).1 in omega (arith, l);
  }

-- a key on a small page has numbers that fit
fits-on : (page : Key) (offset : ℕ) → IsSmall page → offset < 64 → Fits (key_on page offset)
fits-on (Jump block a b) offset small low = omega (arith, small, low)
fits-on (Summary n a block) offset small low = omega (arith, small, low)

-- what follows of the fields
module _ {pages : List Key} {cells : List ℕ} {rows : RowsData} {count : ℕ} (are : ArePages pages cells rows count) where
  abbrev by : IsNumbering (key_at pages) (cell_in pages) (length cells)
  by = numbering pages are.distinct cells are.paged

  pub number-found : (key : Key) → number_at (numbers_of pages cells) key ≡ cell_number cells (cell_in pages key)
  number-found key = number-is (key_at pages) (cell_in pages) cells by key

  pub number-of-cell : (key : Key) (cell : ℕ) → cell_in pages key ≡ Some cell → get_or cells cell 0 ≡ number_at (numbers_of pages cells) key
  number-of-cell key cell is = sym (number-found key ∙ ap (cell_number cells) is)

  pub distinct-keys : IsDistinct same_key (keys_of (entries (numbers_of pages cells)))
  distinct-keys = distinct-entries (key_at pages) (cell_in pages) cells by

  pub key-of-cell : (cell : ℕ) → cell < length cells → cell_in pages (key_at pages cell) ≡ Some cell
  key-of-cell cell l = by.there cell l

  pub slot-of-cell : (cell : ℕ) → slot_at (numbers_of pages cells) cell ≡ shown (key_at pages cell) (get_or cells cell 0)
  slot-of-cell cell =
      let same : 0 + cell ≡ cell = omega arith in
      get-slots (key_at pages) 0 cells cell ∙ ap (λ c. shown (key_at pages c) (get_or cells cell 0)) same

  pub number-in-cell : (cell : ℕ) → number_in (numbers_of pages cells) cell ≡ get_or cells cell 0
  number-in-cell cell =
      ap (λ (slot : Option (Key × ℕ)). unwrap_or (option_map (λ (entry : Key × ℕ). entry.1) slot) 0) (slot-of-cell cell)
      ∙ shown-number (key_at pages cell) (get_or cells cell 0)

  pub are-paged : (most : ℕ) → ArePaged (numbers_within most pages cells)
  are-paged most =
      let numbers = numbers_within most pages cells in
      let long : length numbers.slots ≡ 64 * length pages = length-slots (key_at pages) 0 cells ∙ are.paged in
      let paged = are.paged in
      record {
        slots =
            fill_by_all (slot_by numbers) numbers.slots (64 * length pages) None long
            (λ cell l. slot-of-cell cell ∙ ap (shown (key_at pages cell)) (number-of-cell (key_at pages cell) cell (key-of-cell cell (omega (arith, paged, l)))));
        own = λ cell l. key-of-cell cell (omega (arith, paged, l));
        absent = λ key none. number-found key ∙ ap (cell_number cells) none;
      }

  -- the key of a cell, as it is answered
  pub key-in : (r : Option Key) (cell : ℕ) → IfSome r (λ key. key ≡ key_at pages cell) → IfSome r (λ _. cell < 64 * length pages)
      → IfSome r (λ key. cell_of (numbers_of pages cells) key ≡ Some cell)
  key-in None cell is l = tt
  key-in (Some key) cell is l = let p = are.paged in ap (cell_in pages) is ∙ key-of-cell cell (omega (arith, p, l))

  pub key-fits : (r : Option Key) (cell : ℕ) → IfSome r (λ key. key ≡ key_at pages cell) → IfSome r Fits
  key-fits None cell is = tt
  key-fits (Some key) cell is = subst Fits (sym is) (fits-on (page_at pages (cell / 64)) (cell % 64) (are.small (cell / 64)) (omega arith))

  pub key-end : (r : Option Key) (cell : ℕ) → IfSome r (λ _. cell < 64 * length pages) → IfNone r (64 * length pages ≤ cell)
      → (r ≡ None → length (numbers_of pages cells).slots ≤ cell) × (length (numbers_of pages cells).slots ≤ cell → r ≡ None)
  key-end None cell l end =
      let p = are.paged in
      let s = length-slots (key_at pages) 0 cells in
      (λ e. omega (arith, p, s, end), λ m. refl)
  key-end (Some key) cell l end =
      let p = are.paged in
      let s = length-slots (key_at pages) 0 cells in
      (λ e. absurd (cc), λ m. absurd (omega (arith, p, s, l, m)))

  pub slot-empty : (cell : ℕ) → get_or cells cell 0 ≡ 0 → slot_at (numbers_of pages cells) cell ≡ None
  slot-empty cell is = slot-of-cell cell ∙ ap (shown (key_at pages cell)) is

  pub slot-full : (cell : ℕ) (key : Key) (n : ℕ) → key ≡ key_at pages cell → n ≡ get_or cells cell 0 → (n ≡ 0 → ⊥) → slot_at (numbers_of pages cells) cell ≡ Some (key, n)
  slot-full cell key n is at some =
      slot-of-cell cell ∙ ap (shown (key_at pages cell)) (sym at) ∙ ap (λ k. shown k n) (sym is) ∙ shown-some key n some

  pub slot-number : (cell : ℕ) (key : Key) → key ≡ key_at pages cell → cell < 64 * length pages → number_at (numbers_of pages cells) key ≡ get_or cells cell 0
  slot-number cell key is l =
      let p = are.paged in
      sym (number-of-cell key cell (ap (cell_in pages) is ∙ key-of-cell cell (omega (arith, p, l))))

  length-run : (number first n : ℕ) → length (with_run cells first number n) ≡ length cells
  length-run number first zero = refl
  length-run number first (suc n) = length-set (with_run cells first number n) (first + n) number ∙ length-run number first n

  -- ---- one cell is written

  module _ (key : Key) (cell number : ℕ) (is : cell_in pages key ≡ Some cell) where
    abbrev slots : List (Option (Key × ℕ))
    slots = slots_from (key_at pages) 0 cells

    pub in-cells : cell < length cells
    in-cells = by.within key cell is

    own-key : key_at pages (0 + cell) ≡ key
    own-key = let same : 0 + cell ≡ cell = omega arith in ap (key_at pages) same ∙ by.back key cell is

    in-slots : cell < length slots
    in-slots = let long : length slots ≡ length cells = length-slots (key_at pages) 0 cells in let l = in-cells in omega (arith, long, l)

    was : entries (numbers_of pages cells)
        ≡ (full (take cell slots) ++ own key (number_at (numbers_of pages cells) key)) ++ full (drop (suc cell) slots)
    was =
        full-get slots cell in-slots
        ∙ ap (λ (slot : Option (Key × ℕ)). (full (take cell slots) ++ option_to_list slot) ++ full (drop (suc cell) slots))
        (get-slots (key_at pages) 0 cells cell ∙ ap (λ k. shown k (get_or cells cell 0)) own-key ∙ ap (shown key) (number-of-cell key cell is))

    now : entries (numbers_of pages (slice_set cells cell number))
        ≡ (full (take cell slots) ++ own key number) ++ full (drop (suc cell) slots)
    now =
        ap full (slots-set (key_at pages) 0 cells cell number ∙ ap (λ k. slice_set slots cell (shown k number)) own-key)
        ∙ full-set slots cell (shown key number) in-slots

    pub puts : (most : ℕ) → Puts (numbers_within most pages cells) (numbers_within most pages (slice_set cells cell number)) key number
    puts most = record {
      numbers = λ q.
          number-is (key_at pages) (cell_in pages) (slice_set cells cell number)
          (numbering pages are.distinct (slice_set cells cell number) (length-set cells cell number ∙ are.paged)) q
          ∙ number-after (key_at pages) (cell_in pages) cells by key q cell number is
          ∙ ap (λ n. if same_key key q then number else n) (sym (number-found q));
      before = full (take cell slots);
      after = full (drop (suc cell) slots);
      was = was;
      is = now;
      pages = refl;
    }

    abbrev others : ℕ
    others = length (full (take cell slots)) + length (full (drop (suc cell) slots))

    long : (own_entry : List (Key × ℕ)) → length ((full (take cell slots) ++ own_entry) ++ full (drop (suc cell) slots)) ≡ others + length own_entry
    long own_entry =
        omega (arith, length-append (full (take cell slots) ++ own_entry) (full (drop (suc cell) slots)), length-append (full (take cell slots)) own_entry)

    count-was : count ≡ others + weight (get_or cells cell 0)
    count-was =
        are.counted ∙ ap length was ∙ long (own key (number_at (numbers_of pages cells) key))
        ∙ ap (λ n. others + n) (length-shown key (number_at (numbers_of pages cells) key) ∙ ap weight (sym (number-of-cell key cell is)))

    count-now : length (entries (numbers_of pages (slice_set cells cell number))) ≡ others + weight number
    count-now = ap length now ∙ long (own key number) ∙ ap (λ n. others + n) (length-shown key number)

    -- the number that the cell had, as it was read
    module _ (old : ℕ) (read : old ≡ get_or cells cell 0) where
      pub weight-within : weight old ≤ count
      weight-within = let w = count-was in let o = ap weight read in omega (arith, w, o)

      pub weight-few : count + weight number < 2 ^ 64 + weight old
      weight-few =
          let w = count-was in
          let o = ap weight read in
          let n = count-now in
          let paged = are.paged in
          let few = are.few in
          let l : length (entries (numbers_of pages (slice_set cells cell number))) ≤ length cells =
          subst (λ m. length (entries (numbers_of pages (slice_set cells cell number))) ≤ m)
          (length-slots (key_at pages) 0 (slice_set cells cell number) ∙ length-set cells cell number)
          (length-full (slots_from (key_at pages) 0 (slice_set cells cell number))) in
          omega (arith, w, o, n, l, paged, few)

      pub are-written : (after : ℕ) → after + weight old ≡ count + weight number → ArePages pages (slice_set cells cell number) rows after
      are-written after is_after = record {
        paged = length-set cells cell number ∙ are.paged;
        few = are.few;
        distinct = are.distinct;
        small = are.small;
        told = are.told;
        counted =
            let w = count-was in
            let o = ap weight read in
            let n = count-now in
            omega (arith, w, o, n, is_after);
      }

-- ---- so many cells that had 0 are written

pub there-in : (pages : List Key) (cells : List ℕ) (end : ℕ) → end ≤ length (numbers_of pages cells).slots → end ≤ length cells
there-in pages cells end there = let long = length-slots (key_at pages) 0 cells in omega (arith, there, long)

-- a cell behind the run is as it was
unwritten : (cells : List ℕ) (first number n k : ℕ) → n ≤ k → get_or (with_run cells first number n) (first + k) 0 ≡ get_or cells (first + k) 0
unwritten cells first number zero k order = refl
unwritten cells first number (suc n) k order =
    get_or-set_other (with_run cells first number n) (first + n) (first + k) number 0 (λ e. omega (arith, order, e))
    ∙ unwritten cells first number n k (omega (arith, order))

module _ {pages : List Key} {cells : List ℕ} {rows : RowsData} {count : ℕ} (are : ArePages pages cells rows count) (first number length_of : ℕ)
    (some : 0 < number) (there : first + length_of ≤ length cells)
    (absent : (n : ℕ) → n < length_of → number_at (numbers_of pages cells) (key_at pages (first + n)) ≡ 0) where
  zero-there : (n : ℕ) → n < length_of → get_or cells (first + n) 0 ≡ 0
  zero-there n less = number-of-cell are (key_at pages (first + n)) (first + n) (key-of-cell are (first + n) (omega (arith, less, there))) ∙ absent n less

  weight-some : weight number ≡ 1
  weight-some = ap (λ b. cond b 0 1) (ne_eqb number 0 (λ e. omega (arith, e, some)))

  pub run-written : (n : ℕ) → n ≤ length_of → ArePages pages (with_run cells first number n) rows (count + n)
  run-written zero order = let same : count ≡ count + zero = omega arith in subst (λ c. ArePages pages cells rows c) same are
  run-written (suc n) order =
      let before = run-written n (omega (arith, order)) in
      let cell = first + n in
      let within : cell < length (with_run cells first number n) = omega (arith, order, there, length-run are number first n) in
      are-written before (key_at pages cell) cell number (key-of-cell before cell within) 0
      (sym (unwritten cells first number n n (omega arith) ∙ zero-there n (omega (arith, order)))) (count + suc n) (omega (arith, weight-some))

  pub run-puts : (most n : ℕ) → n ≤ length_of
      → PutsRun (λ k. key_at pages (first + k)) number (numbers_within most pages cells) n (numbers_within most pages (with_run cells first number n))
  run-puts most zero order = PutsRun.no_key
  run-puts most (suc n) order =
      let before = run-written n (omega (arith, order)) in
      let cell = first + n in
      let within : cell < length (with_run cells first number n) = omega (arith, order, there, length-run are number first n) in
      PutsRun.one_more (run-puts most n (omega (arith, order))) (puts before (key_at pages cell) cell number (key-of-cell before cell within) most)

  pub run-few : count + length_of < 2 ^ 64
  run-few =
      let last = run-written length_of (omega arith) in
      let counted = last.counted in
      let slots = length-full (slots_from (key_at pages) 0 (with_run cells first number length_of)) in
      let long = length-slots (key_at pages) 0 (with_run cells first number length_of) in
      let same = length-run are number first length_of in
      let paged = are.paged in
      let few = are.few in
      omega (arith, counted, slots, long, same, paged, few)
