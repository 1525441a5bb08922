-- The cells of pages: where each key's stands, which function it has, and what they are once a function is put in or a page is added.
use Rattle.std.proofs.Common.{◌≡◌, ℕ, zero, suc, ◌+◌, ◌-◌, ◌*◌, ◌/◌, ◌%◌, ◌<◌, ◌≤◌, ◌^◌, refl, sym, ap, subst, ◌∙◌, arith, List, [], ◌∷◌, ◌++◌, length, get_or, Option, Some, None, Result, Ok, Err, Bool, true, false, cond, inl, inr, replicate, take, ⊎_elim}
use Rattle.std.specs.Prelude.{IfOk, IfSome, map, min, nat_eq, slice_get, unwrap_or, position}
use Rattle.std.specs.BTreeMap.{is_at}
use Rattle.std.specs.List.{AllByRecursion, IsDistinct, cons_option, filter_map, range_with_len}
use Rattle.std.specs.List.Sorted.{IsStrictlySortedBy}
use Rattle.std.specs.Map.{keys_of, lookup}
use Rattle.std.specs.Option.{option_flatten, option_map, option_to_list}
use Rattle.std.specs.Ordering.{nat_cmp}
use Rattle.std.proofs.lemmas.Bool.{cases_lt, eqb-false, eqb-true, ne_eqb}
use Rattle.std.proofs.lemmas.List.{append-nil, get_or_append_left, get_or_past, length-append, length-replicate}
use Rattle.std.proofs.lemmas.List.FromFn.{get_or-map-range_with_len, length-map-range_with_len}
use Rattle.std.proofs.lemmas.Map.Entries.{length-keys_of}
use Rattle.std.proofs.lemmas.Option.{same_Some, slice_get-get_or, slice_get_past, slice_get_within}
use Rattle.ide_pages.specs.Pages.{AddsPage, ArePaged, AreRow, Fits, IsAside, IsNumberIn, KeepsCells, Numbers, Puts, PutsRun, cell_of, cell_on, entries, key_at, key_on, nonzero, number_at, number_in, offset_of, page_at, no_key, one_more, page_of, shown, slot_by}
use Rattle.ide_pages.proofs.KeyCells.{cell-back, mapped}
use Rattle.ide_pages.proofs.Numbering.{IsNumbering, apart-at, same-at}
use Rattle.ide_wire.specs.declared.key.Key.{Key}
use Rattle.ide_wire.specs.declared.key.Key.TheVariants.{Jump, Summary}
use Rattle.ide_wire.specs.Key.{same_key}
use Rattle.ide_image.specs.Functions.{MayKeep}
use Rattle.ide_image.specs.Indexed.{AreIndexed, cell_by, cells_by, empty_cells, entries_in, entry_in, function_of, kept_at, kept_in, entry_of_cell, table_of}
use Rattle.ide_image.specs.Tables.{ArePartners, found, partner_at, place_in, with_entry}
use Rattle.ide_image.specs.Cells.{BeginsWith, HasOthers, HasRoomBehind, IsAtOther, ShowTable, key_behind, tables_of}
use Rattle.ide_image.proofs.Shown.{distinct-shown, found-shown}
use Rattle.ide_image.specs.Walk.{AreAbsent, jump_behind, with_walked}
use Rattle.ide_image.proofs.Ranges.{distinct-range, lookup-none, lookup-one, map-more, map-same, place-none, place-one, with-one}

past-none : {X : Type 0} (xs : List X) (n : ℕ) → slice_get xs n ≡ None → length xs ≤ n
past-none [] n is = omega arith
past-none (x ∷ xs) zero is = absurd (cc (is))
past-none (x ∷ xs) (suc n) is = let rest = past-none xs n is in omega (arith, rest)

-- ---- any cells

module _ {F : Type 0} where
  -- the keys of one cell more
  pub listed-more : (cells : List (Key × Option F)) (i : ℕ) → i < length cells
      → keys_of (entries_in (take (suc i) cells)) ≡ keys_of (entries_in (take i cells)) ++ option_to_list (option_map (λ e. e.0) (entry_in cells i))
  listed-more [] i l = absurd (omega (arith, l))
  listed-more (x ∷ cells) zero l =
      elim (entry_of_cell x) as (λ o. keys_of (cons_option o []) ≡ option_to_list (option_map (λ e. e.0) o)) [
        | None ↦ refl
        | Some e ↦ refl
      ]
  listed-more (x ∷ cells) (suc i) l =
      elim (entry_of_cell x) as (λ o. keys_of (cons_option o (entries_in (take (suc i) cells)))
      ≡ keys_of (cons_option o (entries_in (take i cells))) ++ option_to_list (option_map (λ e. e.0) (entry_in cells i))) [
        | None ↦ listed-more cells i (omega (arith, l))
        | Some e ↦ ap (λ keys. e.0 ∷ keys) (listed-more cells i (omega (arith, l)))
      ]

  pub listed-next : (cells : List (Key × Option F)) (i : ℕ) (o : Option (Key × F)) → i < length cells → o ≡ entry_in cells i
      → keys_of (entries_in (take (i + 1) cells)) ≡ keys_of (entries_in (take i cells)) ++ option_to_list (option_map (λ e. e.0) o)
  listed-next cells i o l is =
      let next : i + 1 ≡ suc i = omega arith in
      ap (λ n. keys_of (entries_in (take n cells))) next ∙ listed-more cells i l
      ∙ ap (λ (shows : Option (Key × F)). keys_of (entries_in (take i cells)) ++ option_to_list (option_map (λ e. e.0) shows)) (sym is)

  -- the same of cells that are shown one by one
  pub shown-same : (cells : List (Key × Option F)) → filter_map (λ cell. cell) (map entry_of_cell cells) ≡ entries_in cells
  shown-same [] = refl
  shown-same (x ∷ cells) = ap (cons_option (entry_of_cell x)) (shown-same cells)

  pub shown-at : (cells : List (Key × Option F)) (n : ℕ) → entry_in cells n ≡ get_or (map entry_of_cell cells) n None
  shown-at [] zero = refl
  shown-at [] (suc n) = refl
  shown-at (x ∷ cells) zero = refl
  shown-at (x ∷ cells) (suc n) = shown-at cells n

  -- and their functions alone
  pub shown-function : (cells : List (Key × Option F)) (n : ℕ) → kept_in cells n ≡ option_map (λ (e : Key × F). e.1) (get_or (map entry_of_cell cells) n None)
  shown-function cells n = ap (option_map (λ (e : Key × F). e.1)) (shown-at cells n)

  pub show-table : (cells : List (Key × Option F)) → IsDistinct same_key (keys_of cells) → ShowTable (record { table = table_of cells; cells = map entry_of_cell cells })
  show-table cells apart = record {
    found = λ q. ap (lookup (same_key q)) (sym (shown-same cells));
    distinct = subst (λ es. IsDistinct same_key (keys_of es)) (sym (shown-same cells)) (distinct-shown cells apart);
  }

some-there : {X : Type 0} (xs : List X) (i : ℕ) → i < length xs → (x : X) × (slice_get xs i ≡ Some x)
some-there [] i l = absurd (omega (arith, l))
some-there (x ∷ xs) zero l = (x, refl)
some-there (x ∷ xs) (suc i) l = some-there xs i (omega (arith, l))

-- ---- the cells of pages and their keys

-- each cell is its key's
abbrev pub HasOwnCells : Numbers → Type 0
HasOwnCells numbers = (cell : ℕ) → cell < 64 * length numbers.pages → cell_of numbers (key_at numbers.pages cell) ≡ Some cell

-- pages that stay the same have the same cells
pub own-same : (old new : Numbers) → new.pages ≡ old.pages → HasOwnCells old → HasOwnCells new
own-same old new same own =
    subst (λ pages. (cell : ℕ) → cell < 64 * length pages → cell_on pages (offset_of (key_at pages cell)) (page_of (key_at pages cell)) ≡ Some cell) (sym same) own

module _ (numbers : Numbers) (own : HasOwnCells numbers) where
  abbrev zeros : List ℕ
  zeros = replicate (64 * length numbers.pages) 0

  zeros-long : length zeros ≡ 64 * length numbers.pages
  zeros-long = length-replicate {A = ℕ} (64 * length numbers.pages) 0

  by : IsNumbering (key_at numbers.pages) (cell_of numbers) (length zeros)
  by = record {
    there = λ c l. own c (omega (arith, l, zeros-long));
    back = λ q c is. (cell-back numbers.pages q c is).0;
    within = λ q c is. let l = (cell-back numbers.pages q c is).1 in omega (arith, l, zeros-long);
  }

  -- a key is that of a cell exactly where the cell is the key's
  pub one-cell : (key : Key) (c j : ℕ) → cell_of numbers key ≡ Some c → j < 64 * length numbers.pages → same_key key (key_at numbers.pages j) ≡ nat_eq c j
  one-cell key c j is l = same-at (key_at numbers.pages) (cell_of numbers) zeros by key c j is (omega (arith, l, zeros-long))

  no-cell : (key : Key) (j : ℕ) → cell_of numbers key ≡ None → j < 64 * length numbers.pages → same_key key (key_at numbers.pages j) ≡ false
  no-cell key j is l = apart-at (key_at numbers.pages) (cell_of numbers) zeros by key j is (omega (arith, l, zeros-long))

  apart-cells : (i j : ℕ) → i < j → j < 64 * length numbers.pages → same_key (key_at numbers.pages i) (key_at numbers.pages j) ≡ false
  apart-cells i j less l = one-cell (key_at numbers.pages i) i j (own i (omega (arith, less, l))) l ∙ ne_eqb i j (λ e. absurd (omega (arith, e, less)))

-- a key on a page is so many cells behind the page's first
-- a key on a page that has no jumps at some blocks is none at their nodes
at-other : (begin end : ℕ) (page : Key) (offset : ℕ) → offset < 64 → IsAside begin end page → IsAtOther begin end (key_on page offset)
at-other begin end (Jump block a b) offset low aside = ⊎_elim (λ less. inl (omega (arith, less, low))) (λ more. inr (omega (arith, more))) aside
at-other begin end (Summary n a block) offset low aside = aside

key-on-behind : (page : Key) (offset : ℕ) → key_on page offset ≡ key_behind (key_on page 0) offset
key-on-behind (Jump block a b) offset = let same : 64 * block + offset ≡ 64 * block + 0 + offset = omega arith in ap (λ n. Jump n a b) same
key-on-behind (Summary n a block) offset = let same : 64 * block + offset ≡ 64 * block + 0 + offset = omega arith in ap (Summary n a) same

-- the function alone of an entry
kept-of : {F : Type 0} (key : Key) (o : Option F) → option_map (λ e. e.1) (entry_of_cell (key, o)) ≡ o
kept-of key None = refl
kept-of key (Some f) = refl

-- those of 64 cells from the first of a page on fit, where that one does
room-behind : (numbers : Numbers) (page : ℕ) (key : Key) → cell_of numbers key ≡ Some (64 * page) → Fits key → HasRoomBehind key
room-behind numbers page (Jump n a b) is bound =
    let at = (mapped (position (same_key (page_of (Jump n a b))) numbers.pages) (n % 64) (64 * page) is).2 in
    omega (arith, at, bound)
room-behind numbers page (Summary n a b) is bound =
    let at = (mapped (position (same_key (page_of (Summary n a b))) numbers.pages) (b % 64) (64 * page) is).2 in
    omega (arith, at, bound)

-- the same of the first key of a page, if there is the page
pub room-if : (numbers : Numbers) (page : ℕ) (first : Option Key) → IfSome first (λ key. cell_of numbers key ≡ Some (64 * page)) → IfSome first Fits → IfSome first HasRoomBehind
room-if numbers page None is fits = tt
room-if numbers page (Some key) is fits = room-behind numbers page key is fits

positive-of : (n : ℕ) → nat_eq n 0 ≡ false → 0 < n
positive-of zero some = absurd (cc (some))
positive-of (suc n) some = omega arith

-- the function of number 0, and of another
none-kept : {F : Type 0} (functions : List F) (n : ℕ) → n ≤ length functions → kept_at functions n ≡ None → n ≡ 0
none-kept functions n few none =
    elim (nat_eq n 0) as (λ b. nat_eq n 0 ≡ b → cond b None (slice_get functions (n - 1)) ≡ None → n ≡ 0) [
      | true ↦ λ e is. eqb-true n 0 e
      | false ↦ λ e is. absurd (let past = past-none functions (n - 1) is in let some = eqb-false n 0 e in omega (arith, past, few, some))
    ] refl none

kept-zero : {F : Type 0} (functions : List F) (n : ℕ) → n ≡ 0 → kept_at functions n ≡ None
kept-zero functions n is = ap (kept_at functions) is

pub kept-some : {F : Type 0} (functions : List F) (n : ℕ) → (n ≡ 0 → ⊥) → kept_at functions n ≡ slice_get functions (n - 1)
kept-some functions n some = ap (λ b. cond b None (slice_get functions (n - 1))) (ne_eqb n 0 some)

pub kept-next : {F : Type 0} (functions : List F) (index : ℕ) (f : F) → slice_get functions index ≡ Some f → kept_at functions (index + 1) ≡ Some f
kept-next functions index f there =
    let same : (index + 1) - 1 ≡ index = omega arith in
    kept-some functions (index + 1) (λ e. omega (arith, e)) ∙ ap (slice_get functions) same ∙ there

module _ {F : Type 0} (numbers : Numbers) (functions : List F) where
  pub length-cells : length (cells_by numbers functions) ≡ 64 * length numbers.pages
  length-cells = length-map-range_with_len (cell_by numbers functions) 0 (64 * length numbers.pages)

  pub cell-there : (cell : ℕ) → cell < 64 * length numbers.pages → slice_get (cells_by numbers functions) cell ≡ Some (cell_by numbers functions cell)
  cell-there cell l =
      slice_get-get_or (cells_by numbers functions) cell (cell_by numbers functions cell) (omega (arith, l, length-cells))
      ∙ ap Some (get_or-map-range_with_len (cell_by numbers functions) 0 (64 * length numbers.pages) cell cell (cell_by numbers functions cell) l (omega arith))

  module _ (paged : ArePaged numbers) where
    pub place-there : (key : Key) (cell : ℕ) → cell_of numbers key ≡ Some cell → place_in key (cells_by numbers functions) ≡ suc cell
    place-there key cell is =
        let same : 0 + cell ≡ cell = omega arith in
        place-one (cell_by numbers functions) key 0 (64 * length numbers.pages) cell (cell-back numbers.pages key cell is).1
        (λ j l m. one-cell numbers paged.own key cell j is (omega (arith, m)) ∙ ap (λ c. nat_eq c j) (sym same))

    pub place-nowhere : (key : Key) → cell_of numbers key ≡ None → place_in key (cells_by numbers functions) ≡ 0
    place-nowhere key is =
        place-none (cell_by numbers functions) key 0 (64 * length numbers.pages) (λ j l m. no-cell numbers paged.own key j is (omega (arith, m)))

    -- the place of a key tells its cell
    pub cell-at : (key : Key) (cell : ℕ) → cell + 1 ≡ place_in key (cells_by numbers functions) → cell_of numbers key ≡ Some cell
    cell-at key cell is =
        elim (cell_of numbers key) as (λ o. cell_of numbers key ≡ o → o ≡ Some cell) [
          | None ↦ λ none. absurd (let nowhere = place-nowhere key none in omega (arith, is, nowhere))
          | Some c ↦ λ some. let there = place-there key c some in let same : c ≡ cell = omega (arith, is, there) in ap Some same
        ] refl

    pub function-is : (key : Key) → function_of (cells_by numbers functions) key ≡ kept_at functions (number_at numbers key)
    function-is key =
        elim (cell_of numbers key) as (λ o. cell_of numbers key ≡ o → function_of (cells_by numbers functions) key ≡ kept_at functions (number_at numbers key)) [
          | None ↦ λ none.
              ap option_flatten (lookup-none (cell_by numbers functions) key 0 (64 * length numbers.pages) (λ j l m. no-cell numbers paged.own key j none (omega (arith, m))))
              ∙ sym (kept-zero functions (number_at numbers key) (paged.absent key none))
          | Some c ↦ λ some.
              let back = cell-back numbers.pages key c some in
              let same : 0 + c ≡ c = omega arith in
              ap option_flatten (lookup-one (cell_by numbers functions) key 0 (64 * length numbers.pages) c back.1
              (λ j l m. one-cell numbers paged.own key c j some (omega (arith, m)) ∙ ap (λ d. nat_eq d j) (sym same)))
              ∙ ap (λ d. (cell_by numbers functions d).1) same
              ∙ ap (λ k. kept_at functions (number_at numbers k)) back.0
        ] refl

    pub function-none : (key : Key) → number_at numbers key ≡ 0 → function_of (cells_by numbers functions) key ≡ None
    function-none key is = function-is key ∙ kept-zero functions (number_at numbers key) is

    pub distinct-cells : IsDistinct same_key (keys_of (cells_by numbers functions))
    distinct-cells =
        distinct-range (cell_by numbers functions) (64 * length numbers.pages) (λ i j less l. apart-cells numbers paged.own i j less l)
        0 (64 * length numbers.pages) (omega arith)

    pub found-is : (key : Key) → found (table_of (cells_by numbers functions)) key ≡ kept_at functions (number_at numbers key)
    found-is key = found-shown (cells_by numbers functions) key distinct-cells ∙ function-is key

    pub found-none : (key : Key) → number_at numbers key ≡ 0 → found (table_of (cells_by numbers functions)) key ≡ None
    found-none key is = found-is key ∙ kept-zero functions (number_at numbers key) is

    pub slots-long : length numbers.slots ≡ 64 * length numbers.pages
    slots-long = ap length paged.slots ∙ length-map-range_with_len (slot_by numbers) 0 (64 * length numbers.pages)

    -- an absent key has the number 0, where each number has its function
    pub absent-zero : (key : Key) → number_at numbers key ≤ length functions → found (table_of (cells_by numbers functions)) key ≡ None → number_at numbers key ≡ 0
    absent-zero key kept none = none-kept functions (number_at numbers key) kept (sym (found-is key) ∙ none)

    -- ---- what cells show

    slots-past : (cell : ℕ) → 64 * length numbers.pages ≤ cell → length numbers.slots ≤ cell
    slots-past cell m =
        let long = ap length paged.slots ∙ length-map-range_with_len (slot_by numbers) 0 (64 * length numbers.pages) in
        omega (arith, long, m)

    pub entry-there : (cell : ℕ) → cell < 64 * length numbers.pages → entry_in (cells_by numbers functions) cell ≡ entry_of_cell (cell_by numbers functions cell)
    entry-there cell l = ap (λ o. option_flatten (option_map entry_of_cell o)) (cell-there cell l)

    pub entry-past : (cell : ℕ) → 64 * length numbers.pages ≤ cell → entry_in (cells_by numbers functions) cell ≡ None
    entry-past cell l =
        ap (λ o. option_flatten (option_map entry_of_cell o)) (slice_get_past (cells_by numbers functions) cell (omega (arith, l, length-cells)))

    pub entry-none : (cell : ℕ) → ((key : Key) → cell + 1 ≡ place_in key (cells_by numbers functions) → None ≡ function_of (cells_by numbers functions) key)
        → entry_in (cells_by numbers functions) cell ≡ None
    entry-none cell none =
        ⊎_elim
        (λ l. let key = key_at numbers.pages cell in
        let next : cell + 1 ≡ suc cell = omega arith in
        entry-there cell l
        ∙ ap (option_map (λ f. (key, f))) (sym (function-is key) ∙ sym (none key (next ∙ sym (place-there key cell (paged.own cell l))))))
        (λ m. entry-past cell m)
        (cases_lt cell (64 * length numbers.pages))

    entry-some : (cell : ℕ) (key : Key) (f : F) → cell_of numbers key ≡ Some cell → Some f ≡ function_of (cells_by numbers functions) key
        → entry_in (cells_by numbers functions) cell ≡ Some (key, f)
    entry-some cell key f is there =
        let back = cell-back numbers.pages key cell is in
        entry-there cell back.1
        ∙ ap (λ k. entry_of_cell (k, kept_at functions (number_at numbers k))) back.0
        ∙ ap (option_map (λ f. (key, f))) (sym (there ∙ function-is key))

    pub entry-known : (cell : ℕ) (key : Key) (f : F) → cell_of numbers key ≡ Some cell
        → ((q : Key) → cell + 1 ≡ place_in q (cells_by numbers functions) → Some f ≡ function_of (cells_by numbers functions) q)
        → (entry_in (cells_by numbers functions) cell ≡ Some (key, f)) × (function_of (cells_by numbers functions) key ≡ Some f) × (place_in key (cells_by numbers functions) ≡ cell + 1)
    entry-known cell key f is shows =
        let place : place_in key (cells_by numbers functions) ≡ cell + 1 = let there = place-there key cell is in omega (arith, there) in
        let there = shows key (sym place) in
        (entry-some cell key f is there, sym there, place)

    pub place-made : {E : Type 0} (key : Key) (r : Result ℕ E) → IfOk r (λ cell. cell_of numbers key ≡ Some cell) → IfOk r (λ cell. cell + 1 ≡ place_in key (cells_by numbers functions))
    place-made key (Ok cell) is = let there = place-there key cell is in omega (arith, there)
    place-made key (Err e) is = tt

    key-shown : (key : Key) (o : Option F) (e : Key × F) → entry_of_cell (key, o) ≡ Some e → key ≡ e.0
    key-shown key None e is = absurd (cc (is))
    key-shown key (Some f) e is = ap (λ (x : Key × F). x.0) (same_Some (key, f) e is)

    -- the function alone of a cell is that of the number in it
    pub kept-in-is : (cell n : ℕ) → n ≡ number_in numbers cell → IsNumberIn numbers cell n → kept_in (cells_by numbers functions) cell ≡ kept_at functions n
    kept-in-is cell n number same =
        ⊎_elim
        (λ l. let key = key_at numbers.pages cell in
        ap (option_map (λ (e : Key × F). e.1)) (entry-there cell l)
        ∙ kept-of key (kept_at functions (number_at numbers key))
        ∙ ap (kept_at functions) (sym (same key (paged.own cell l))))
        (λ m. ap (option_map (λ (e : Key × F). e.1)) (entry-past cell m)
        ∙ sym (kept-zero functions n (number ∙ ap (λ slot. unwrap_or (option_map (λ (e : Key × ℕ). e.1) slot) 0) (get_or_past numbers.slots cell None (slots-past cell m)))))
        (cases_lt cell (64 * length numbers.pages))

    -- the first cell of a page tells the keys of the others
    begins : (page room : ℕ) (key : Key) → cell_of numbers key ≡ Some (64 * page)
        → BeginsWith (tables_of (record { cells = cells_by numbers functions; room = room })) page key
    begins page room key is cell e on shows =
        ⊎_elim
        (λ l. let first = (cell-back numbers.pages key (64 * page) is).0 in
        let own = key-shown (key_at numbers.pages cell) (kept_at functions (number_at numbers (key_at numbers.pages cell))) e (sym (entry-there cell l) ∙ shown-at (cells_by numbers functions) cell ∙ shows) in
        let same : (64 * page) / 64 ≡ cell / 64 = omega (arith, on) in
        let zero-there : (64 * page) % 64 ≡ 0 = omega arith in
        sym own ∙ key-on-behind (page_at numbers.pages (cell / 64)) (cell % 64)
        ∙ ap (λ i. key_behind (key_on (page_at numbers.pages i) 0) (cell % 64)) (sym same)
        ∙ ap (λ k. key_behind (key_on (page_at numbers.pages ((64 * page) / 64)) k) (cell % 64)) (sym zero-there)
        ∙ ap (λ k. key_behind k (cell % 64)) first)
        (λ m. absurd (cc (sym (entry-past cell m) ∙ shown-at (cells_by numbers functions) cell ∙ shows)))
        (cases_lt cell (64 * length numbers.pages))

    pub begins-if : (page room : ℕ) (first : Option Key) → IfSome first (λ key. cell_of numbers key ≡ Some (64 * page))
        → IfSome first (BeginsWith (tables_of (record { cells = cells_by numbers functions; room = room })) page)
    begins-if page room None is = tt
    begins-if page room (Some key) is = begins page room key is

    -- nor does a page show a jump at nodes that it is not at
    pub has-others : (begin end room page : ℕ) → IsAside begin end (page_at numbers.pages page)
        → HasOthers (tables_of (record { cells = cells_by numbers functions; room = room })) begin end page
    has-others begin end room page aside cell e on shows =
        ⊎_elim
        (λ l. let own = key-shown (key_at numbers.pages cell) (kept_at functions (number_at numbers (key_at numbers.pages cell))) e (sym (entry-there cell l) ∙ shown-at (cells_by numbers functions) cell ∙ shows) in
        subst (IsAtOther begin end) own (at-other begin end (page_at numbers.pages (cell / 64)) (cell % 64) (omega arith) (subst (λ n. IsAside begin end (page_at numbers.pages n)) (sym on) aside)))
        (λ m. absurd (cc (sym (entry-past cell m) ∙ shown-at (cells_by numbers functions) cell ∙ shows)))
        (cases_lt cell (64 * length numbers.pages))

    -- ---- the entries, where each number has its function

    module _ (kept : (key : Key) → number_at numbers key ≤ length functions) where
      keys-alike : (key : Key) (n : ℕ) (es : List (Key × F)) (ns : List (Key × ℕ)) → n ≤ length functions → keys_of es ≡ keys_of ns
          → keys_of (cons_option (entry_of_cell (key, kept_at functions n)) es) ≡ keys_of (cons_option (shown key n) ns)
      keys-alike key n es ns few same =
          elim (nat_eq n 0) as (λ b. nat_eq n 0 ≡ b
          → keys_of (cons_option (option_map (λ f. (key, f)) (cond b None (slice_get functions (n - 1)))) es)
          ≡ keys_of (cons_option (option_map (λ m. (key, m)) (cond b None (Some n))) ns)) [
            | true ↦ λ zero. same
            | false ↦ λ some.
                let positive : 0 < n = positive-of n some in
                let there = some-there functions (n - 1) (omega (arith, few, positive)) in
                ap (λ o. keys_of (cons_option (option_map (λ f. (key, f)) o) es)) there.1 ∙ ap (λ keys. key ∷ keys) same
          ] refl

      keys-from : (i n : ℕ) → keys_of (entries_in (map (cell_by numbers functions) (range_with_len i n))) ≡ keys_of (filter_map (λ slot. slot) (map (slot_by numbers) (range_with_len i n)))
      keys-from i zero = refl
      keys-from i (suc n) =
          let key = key_at numbers.pages i in
          keys-alike key (number_at numbers key) (entries_in (map (cell_by numbers functions) (range_with_len (i + 1) n)))
          (filter_map (λ slot. slot) (map (slot_by numbers) (range_with_len (i + 1) n))) (kept key) (keys-from (i + 1) n)

      -- the cells show the keys whose number is not 0
      pub same-keys : keys_of (entries_in (cells_by numbers functions)) ≡ keys_of (entries numbers)
      same-keys = keys-from 0 (64 * length numbers.pages) ∙ ap (λ slots. keys_of (filter_map (λ slot. slot) slots)) (sym paged.slots)

      pub same-count : length (entries numbers) ≡ length (entries_in (cells_by numbers functions))
      same-count =
          let own = length-keys_of (entries numbers) in
          let shown = length-keys_of (entries_in (cells_by numbers functions)) in
          let same = ap length same-keys in
          omega (arith, own, shown, same)

      -- ---- a row's partners

      module _ (top : F) where
        abbrev function_in : ℕ → F
        function_in n = get_or functions (n - 1) top

        facts-stay : (row : List (ℕ × ℕ)) → keys_of (map (partner_at top functions) row) ≡ keys_of row
        facts-stay [] = refl
        facts-stay (x ∷ xs) = ap (λ ks. x.0 ∷ ks) (facts-stay xs)

        in-row : (d : ℕ) (row : List (ℕ × ℕ)) → lookup (is_at (nat_cmp d)) (map (partner_at top functions) row) ≡ option_map function_in (lookup (is_at (nat_cmp d)) row)
        in-row d [] = refl
        in-row d (x ∷ xs) =
            elim (is_at (nat_cmp d) x.0) as (λ b. cond b (Some (function_in x.1)) (lookup (is_at (nat_cmp d)) (map (partner_at top functions) xs))
            ≡ option_map function_in (cond b (Some x.1) (lookup (is_at (nat_cmp d)) xs))) [
              | true ↦ refl
              | false ↦ in-row d xs
            ]

        of-number : (n : ℕ) → n ≤ length functions → option_map function_in (nonzero n) ≡ kept_at functions n
        of-number n few =
            elim (nat_eq n 0) as (λ b. nat_eq n 0 ≡ b → option_map function_in (cond b None (Some n)) ≡ cond b None (slice_get functions (n - 1))) [
              | true ↦ λ zero. refl
              | false ↦ λ some.
                  let positive : 0 < n = positive-of n some in
                  sym (slice_get-get_or functions (n - 1) top (omega (arith, few, positive)))
            ] refl

        pub are-partners : (at : ℕ → Key) (row : List (ℕ × ℕ)) → AreRow at numbers row → ArePartners at (table_of (cells_by numbers functions)) (map (partner_at top functions) row)
        are-partners at row is = record {
          ascending = subst (IsStrictlySortedBy nat_cmp) (sym (facts-stay row)) is.ascending;
          within = subst (AllByRecursion (λ d. d < 2 ^ 16)) (sym (facts-stay row)) is.within;
          exact = λ d few.
              in-row d row ∙ ap (option_map function_in) (is.exact d few) ∙ of-number (number_at numbers (at d)) (kept (at d)) ∙ sym (found-is (at d));
        }

-- ---- a function is kept behind the others, and put into a cell

module _ {F : Type 0} where
  kept-behind : (functions : List F) (f : F) (n : ℕ) → n ≤ length functions → kept_at (functions ++ f ∷ []) n ≡ kept_at functions n
  kept-behind functions f n few =
      elim (nat_eq n 0) as (λ b. nat_eq n 0 ≡ b → cond b None (slice_get (functions ++ f ∷ []) (n - 1)) ≡ cond b None (slice_get functions (n - 1))) [
        | true ↦ λ zero. refl
        | false ↦ λ some. let positive : 0 < n = positive-of n some in there-behind functions (n - 1) (omega (arith, few, positive))
      ] refl
    where
      there-behind : (xs : List F) (i : ℕ) → i < length xs → slice_get (xs ++ f ∷ []) i ≡ slice_get xs i
      there-behind [] i l = absurd (omega (arith, l))
      there-behind (x ∷ xs) zero l = refl
      there-behind (x ∷ xs) (suc i) l = there-behind xs i (omega (arith, l))

  pub same-kept : (numbers : Numbers) (old new : List F) (f : F) → MayKeep f old new → ((key : Key) → number_at numbers key ≤ length old)
      → cells_by numbers new ≡ cells_by numbers old
  same-kept numbers old new f (inl same) kept = ap (cells_by numbers) same
  same-kept numbers old new f (inr more) kept =
      ap (cells_by numbers) more
      ∙ map-same (cell_by numbers (old ++ f ∷ [])) (cell_by numbers old) 0 (64 * length numbers.pages)
      (λ j l m. let key = key_at numbers.pages j in ap (λ o. (key, o)) (kept-behind old f (number_at numbers key) (kept key)))

  pub kept-long : (old new : List F) (f : F) → MayKeep f old new → length old ≤ length new
  kept-long old new f (inl same) = let long = ap length same in omega (arith, long)
  kept-long old new f (inr more) = let long = ap length more ∙ length-append old (f ∷ []) in omega (arith, long)

  kept-few : (old new : List F) (f : F) → MayKeep f old new → length new ≤ length old + 1
  kept-few old new f (inl same) = let long = ap length same in omega (arith, long)
  kept-few old new f (inr more) = let long = ap length more ∙ length-append old (f ∷ []) in omega (arith, long)

  -- one function more at most is kept, so that one more than its index is a number that there was room for
  pub kept-fits : (old new : List F) (f : F) (index room most : ℕ) → MayKeep f old new → slice_get new index ≡ Some f
      → 0 < min room (most - length old) → index + 1 ≤ most
  kept-fits old new f index room most keeps there some =
      let within = slice_get_within new index f there in
      let few = kept-few old new f keeps in
      omega (arith, within, few, some)

  module _ (old new : Numbers) (functions : List F) (own : HasOwnCells old) (key : Key) (cell n : ℕ) (f : F) (is : cell_of old key ≡ Some cell)
      (puts : Puts old new key n) (there : kept_at functions n ≡ Some f) where
    cell-put : (here : Bool) (j : ℕ) → same_key key (key_at old.pages j) ≡ here
        → (key_at old.pages j, kept_at functions (number_at new (key_at old.pages j))) ≡ cond here (key_at old.pages j, Some f) (cell_by old functions j)
    cell-put here j same =
        let k = key_at old.pages j in
        ap (λ m. (k, kept_at functions m)) (puts.numbers k ∙ ap (λ b. cond b n (number_at old k)) same)
        ∙ elim here as (λ b. (k, kept_at functions (cond b n (number_at old k))) ≡ cond b (k, Some f) (cell_by old functions j)) [
          | true ↦ ap (λ o. (k, o)) there
          | false ↦ refl
        ]

    pub put-cells : cells_by new functions ≡ with_entry (cells_by old functions) key (Some f)
    put-cells =
        let zero_cell : 0 + cell ≡ cell = omega arith in
        let one : (j : ℕ) → 0 ≤ j → j < 0 + 64 * length old.pages → same_key key (key_at old.pages j) ≡ nat_eq (0 + cell) j =
        λ j l m. one-cell old own key cell j is (omega (arith, m)) ∙ ap (λ c. nat_eq c j) (sym zero_cell) in
        ap (λ pages. map (λ j. (key_at pages j, kept_at functions (number_at new (key_at pages j)))) (range_with_len 0 (64 * length pages))) puts.pages
        ∙ with-one (cell_by old functions) key (λ j. (key_at old.pages j, kept_at functions (number_at new (key_at old.pages j)))) (Some f)
        0 (64 * length old.pages) cell (cell-back old.pages key cell is).1
        one
        (λ j l m. cell-put (nat_eq (0 + cell) j) j (one j l m))

    pub put-kept : n ≤ length functions → ((q : Key) → number_at old q ≤ length functions) → (q : Key) → number_at new q ≤ length functions
    put-kept few kept q =
        subst (λ m. m ≤ length functions) (sym (puts.numbers q))
        (elim (same_key key q) as (λ b. cond b n (number_at old q) ≤ length functions) [ true ↦ few | false ↦ kept q ])

  -- what follows of a function that is put in
  module _ (old new : Numbers) (before after : List F) (key : Key) (cell index : ℕ) (f : F) (are : AreIndexed old before) (is : cell_of old key ≡ Some cell)
      (keeps : MayKeep f before after) (there : slice_get after index ≡ Some f) (puts : Puts old new key (index + 1)) where
    pub put-in : cells_by new after ≡ with_entry (cells_by old before) key (Some f)
    put-in =
        put-cells old new after are.paged.own key cell (index + 1) f is puts (kept-next after index f there)
        ∙ ap (λ cells. with_entry cells key (Some f)) (same-kept old before after f keeps are.kept)

    pub put-indexed : ArePaged new → AreIndexed new after
    put-indexed paged =
        let few = are.few in
        let long = ap length puts.pages in
        let within = slice_get_within after index f there in
        let more = kept-long before after f keeps in
        record {
          paged = paged;
          kept = put-kept old new after are.paged.own key cell (index + 1) f is puts (kept-next after index f there) (omega (arith, within))
              (λ q. let one = are.kept q in omega (arith, one, more));
          few = omega (arith, few, long);
        }

-- ---- a page is added

empty-range : {F : Type 0} (pages : List Key) (js : List ℕ) → empty_cells {F = F} (map (key_at pages) js) ≡ map (λ j. (key_at pages j, None)) js
empty-range pages [] = refl
empty-range {F} pages (j ∷ js) = ap (λ (cells : List (Key × Option F)). (key_at pages j, None) ∷ cells) (empty-range pages js)

module _ {F : Type 0} (old new : Numbers) (functions : List F) (paged : ArePaged new) (entries_are : entries new ≡ entries old) (keeps : KeepsCells old new) where
  same-number : (key : Key) → number_at new key ≡ number_at old key
  same-number key = ap (λ es. unwrap_or (lookup (same_key key) es) 0) entries_are

  pub same-pages : new.pages ≡ old.pages → cells_by new functions ≡ cells_by old functions
  same-pages same =
      ap (λ pages. map (λ j. (key_at pages j, kept_at functions (number_at new (key_at pages j)))) (range_with_len 0 (64 * length pages))) same
      ∙ map-same (λ j. (key_at old.pages j, kept_at functions (number_at new (key_at old.pages j)))) (cell_by old functions) 0 (64 * length old.pages)
      (λ j l m. ap (λ k. (key_at old.pages j, kept_at functions k)) (same-number (key_at old.pages j)))

  module _ (page : Key) (added : new.pages ≡ old.pages ++ page ∷ []) (absent : (key : Key) → cell_of old key ≡ None → number_at old key ≡ 0) where
    pages-long : length new.pages ≡ length old.pages + 1
    pages-long = ap length added ∙ length-append old.pages (page ∷ [])

    key-stays : (j : ℕ) → j < 64 * length old.pages → key_at new.pages j ≡ key_at old.pages j
    key-stays j l =
        ap (λ p. key_on p (j % 64))
        (ap (λ pages. page_at pages (j / 64)) added ∙ get_or_append_left old.pages (page ∷ []) (Jump 0 0 0) (j / 64) (omega (arith, l)))

    number-none : (j : ℕ) → 64 * length old.pages ≤ j → j < 64 * length new.pages → number_at new (key_at new.pages j) ≡ 0
    number-none j l m =
        let key = key_at new.pages j in
        same-number key
        ∙ elim (cell_of old key) as (λ o. cell_of old key ≡ o → number_at old key ≡ 0) [
          | None ↦ λ none. absent key none
          | Some c ↦ λ some. absurd (
              let within = (cell-back old.pages key c some).1 in
              let same : c ≡ j = same_Some c j (sym (keeps key c some) ∙ paged.own j m) in
              omega (arith, within, same, l))
        ] refl

    pub page-added : cells_by new functions ≡ cells_by old functions ++ empty_cells (map (key_at new.pages) (range_with_len (64 * length old.pages) 64))
    page-added =
        let count = 64 * length old.pages in
        let long : 64 * length new.pages ≡ count + 64 = omega (arith, pages-long) in
        ap (λ n. map (cell_by new functions) (range_with_len 0 n)) long
        ∙ map-more (cell_by new functions) 0 count 64
        ∙ ap (λ cells. cells ++ map (cell_by new functions) (range_with_len (0 + count) 64))
        (map-same (cell_by new functions) (cell_by old functions) 0 count
        (λ j l m. ap (λ k. (k, kept_at functions (number_at new k))) (key-stays j (omega (arith, m)))
        ∙ ap (λ n. (key_at old.pages j, kept_at functions n)) (same-number (key_at old.pages j))))
        ∙ ap (λ start. cells_by old functions ++ map (cell_by new functions) (range_with_len start 64)) (omega arith)
        ∙ ap (λ cells. cells_by old functions ++ cells)
        (map-same (cell_by new functions) (λ j. (key_at new.pages j, None)) count 64
        (λ j l m. ap (λ o. (key_at new.pages j, o)) (kept-zero functions (number_at new (key_at new.pages j)) (number-none j l (omega (arith, m, long)))))
        ∙ sym (empty-range new.pages (range_with_len count 64)))

  pub widened : (key : Key) → AddsPage old new key → ((q : Key) → cell_of old q ≡ None → number_at old q ≡ 0)
      → (keys : List Key) × (cells_by new functions ≡ cells_by old functions ++ empty_cells keys)
  widened key (inl same) absent = ([], same-pages same ∙ sym (append-nil (cells_by old functions)))
  widened key (inr added) absent = (
    map (key_at new.pages) (range_with_len (64 * length old.pages) 64),
    page-added (page_of key) added absent,
  )

-- ---- the cells behind a jump's on its page

pub cell-behind : (node from to : ℕ) (numbers : Numbers) (cell n : ℕ) → cell_of numbers (Jump node from to) ≡ Some cell → node % 64 + n < 64
    → cell_of numbers (jump_behind node from to n) ≡ Some (cell + n)
cell-behind node from to numbers cell n is on =
    let page : (node + n) / 64 ≡ node / 64 = omega (arith, on) in
    let offset : (node + n) % 64 ≡ node % 64 + n = omega (arith, on) in
    let found = mapped (position (same_key (page_of (Jump node from to))) numbers.pages) (node % 64) cell is in
    let at : 64 * found.0 + (node % 64 + n) ≡ cell + n = omega (arith, found.2) in
    ap (λ block. cell_on numbers.pages ((node + n) % 64) (Jump block from to)) page
    ∙ ap (λ o. cell_on numbers.pages o (Jump (node / 64) from to)) offset
    ∙ ap (option_map (λ index. 64 * index + (node % 64 + n))) found.1
    ∙ ap Some at

module _ (node from to : ℕ) where
  next-key : (n : ℕ) → jump_behind node from to (suc n) ≡ Jump (node + 1 + n) from to
  next-key n = let same : node + suc n ≡ node + 1 + n = omega arith in ap (λ m. Jump m from to) same

  pub next-cell : (old mid : Numbers) (cell n : ℕ) → cell_of old (Jump node from to) ≡ Some cell → node % 64 + suc n < 64 → mid.pages ≡ old.pages
      → cell_of mid (Jump (node + 1 + n) from to) ≡ Some (cell + 1 + n)
  next-cell old mid cell n is on same =
      let next : cell + suc n ≡ cell + 1 + n = omega arith in
      ap (λ pages. cell_on pages ((node + 1 + n) % 64) (page_of (Jump (node + 1 + n) from to))) same
      ∙ ap (cell_of old) (sym (next-key n)) ∙ cell-behind node from to old cell (suc n) is on ∙ ap Some next

  -- the function is put at one key more
  pub walked-more : {F : Type 0} (f : F) (before now new : List (Key × Option F)) (n : ℕ) → now ≡ with_walked before (jump_behind node from to) f n
      → new ≡ with_entry now (Jump (node + 1 + n) from to) (Some f) → new ≡ with_walked before (jump_behind node from to) f (n + 1)
  walked-more f before now new n is put =
      let more : suc n ≡ n + 1 = omega arith in
      put ∙ ap (λ cells. with_entry cells (Jump (node + 1 + n) from to) (Some f)) is
      ∙ ap (λ key. with_entry (with_walked before (jump_behind node from to) f n) key (Some f)) (sym (next-key n))
      ∙ ap (with_walked before (jump_behind node from to) f) more

  -- and so at many, one after the other
  module _ {F : Type 0} (numbers : Numbers) (functions : List F) (own : HasOwnCells numbers) (cell count number : ℕ) (f : F)
      (is : cell_of numbers (Jump node from to) ≡ Some cell) (page : node % 64 + count < 64) (there : kept_at functions number ≡ Some f) where
    own-run : (n : ℕ) → n < count → key_at numbers.pages (cell + 1 + n) ≡ Jump (node + 1 + n) from to
    own-run n less = (cell-back numbers.pages (Jump (node + 1 + n) from to) (cell + 1 + n) (next-cell numbers numbers cell n is (omega (arith, less, page)) refl)).0

    put-at : (n : ℕ) (mid now : Numbers) → n < count → Puts mid now (key_at numbers.pages (cell + 1 + n)) number → Puts mid now (Jump (node + 1 + n) from to) number
    put-at n mid now less puts = subst (λ key. Puts mid now key number) (own-run n less) puts

    pub run-pages : (n : ℕ) (now : Numbers) → n ≤ count → PutsRun (λ k. key_at numbers.pages (cell + 1 + k)) number numbers n now → now.pages ≡ numbers.pages
    run-pages zero now order no_key = refl
    run-pages (suc n) now order (one_more before puts) = puts.pages ∙ run-pages n _ (omega (arith, order)) before

    pub run-walked : (n : ℕ) (now : Numbers) → n ≤ count → PutsRun (λ k. key_at numbers.pages (cell + 1 + k)) number numbers n now
        → cells_by now functions ≡ with_walked (cells_by numbers functions) (jump_behind node from to) f n
    run-walked zero now order no_key = refl
    run-walked (suc n) now order (one_more {mid = mid} before puts) =
        let same = run-pages n mid (omega (arith, order)) before in
        let at = next-cell numbers mid cell n is (omega (arith, order, page)) same in
        let next : n + 1 ≡ suc n = omega arith in
        walked-more f (cells_by numbers functions) (cells_by mid functions) (cells_by now functions) n (run-walked n mid (omega (arith, order)) before)
        (put-cells mid now functions (own-same numbers mid same own) (Jump (node + 1 + n) from to) (cell + 1 + n) number f at (put-at n mid now (omega (arith, order)) puts) there)
        ∙ ap (with_walked (cells_by numbers functions) (jump_behind node from to) f) next

    pub run-kept : number ≤ length functions → ((q : Key) → number_at numbers q ≤ length functions) → (n : ℕ) (now : Numbers) → n ≤ count
        → PutsRun (λ k. key_at numbers.pages (cell + 1 + k)) number numbers n now → (q : Key) → number_at now q ≤ length functions
    run-kept few kept zero now order no_key = kept
    run-kept few kept (suc n) now order (one_more {mid = mid} before puts) =
        let same = run-pages n mid (omega (arith, order)) before in
        let at = next-cell numbers mid cell n is (omega (arith, order, page)) same in
        put-kept mid now functions (own-same numbers mid same own) (Jump (node + 1 + n) from to) (cell + 1 + n) number f at (put-at n mid now (omega (arith, order)) puts) there
        few (run-kept few kept n mid (omega (arith, order)) before)

  -- the cells behind that of a jump are there
  pub run-within : (numbers : Numbers) (cell count : ℕ) → length numbers.slots ≡ 64 * length numbers.pages → cell_of numbers (Jump node from to) ≡ Some cell → node % 64 + count < 64
      → cell + 1 + count ≤ length numbers.slots
  run-within numbers cell zero long is page = let within = (cell-back numbers.pages (Jump node from to) cell is).1 in omega (arith, within, long)
  run-within numbers cell (suc n) long is page =
      let at = next-cell numbers numbers cell n is page refl in
      let within = (cell-back numbers.pages (Jump (node + 1 + n) from to) (cell + 1 + n) at).1 in
      omega (arith, within, long)

  -- where the jumps behind a jump are absent, their numbers are 0
  pub absent-run : {F : Type 0} (numbers : Numbers) (functions : List F) (paged : ArePaged numbers) (cell count : ℕ) → cell_of numbers (Jump node from to) ≡ Some cell
      → node % 64 + count < 64 → ((key : Key) → number_at numbers key ≤ length functions) → AreAbsent (table_of (cells_by numbers functions)) (jump_behind node from to) count
      → (n : ℕ) → n < count → number_at numbers (key_at numbers.pages (cell + 1 + n)) ≡ 0
  absent-run numbers functions paged cell count is page kept absent n less =
      let key = Jump (node + 1 + n) from to in
      let own = (cell-back numbers.pages key (cell + 1 + n) (next-cell numbers numbers cell n is (omega (arith, less, page)) refl)).0 in
      ap (number_at numbers) own
      ∙ absent-zero numbers functions paged key (kept key) (ap (found (table_of (cells_by numbers functions))) (sym (next-key n)) ∙ absent n less)
