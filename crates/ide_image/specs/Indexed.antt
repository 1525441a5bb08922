-- What contracts say of cells: each has a key, and a function where the key is present.
use Rattle.std.specs.Prelude.{◌≡◌, ℕ, ◌-◌, ◌*◌, ◌<◌, ◌≤◌, ◌^◌, ◌++◌, List, Option, None, Some, length, map, min, nat_eq, slice_get, if◌then◌else◌}
use Rattle.std.specs.List.{All, IsDistinct, filter_map, range_with_len}
use Rattle.std.specs.Map.{keys_of, lookup}
use Rattle.std.specs.Option.{option_flatten, option_map}
use Rattle.ide_pages.specs.Pages.{ArePaged, Numbers, key_at, number_at}
use Rattle.ide_image.specs.Functions.{Functions}
use Rattle.ide_image.specs.Tables.{Table, place_in, with_all, with_entry}
use Rattle.ide_wire.specs.Key.{same_key}
use Rattle.ide_wire.specs.declared.key.Key.{Key}

-- the cells in their order, each with its key and the key's function, if it has one; and for how many more functions there is room
pub record Indexed (F : Type 0) : Type 0 where
  pub cells : List (Key × Option F)
  pub room : ℕ

module _ {F : Type 0} where
  -- the function of a number: none for 0, and else the one that is kept under the index before it
  abbrev pub kept_at : List F → ℕ → Option F
  kept_at functions n = if nat_eq n 0 then None else slice_get functions (n - 1)

  -- a cell: its key, with the function of the key's number
  abbrev pub cell_by : Numbers → List F → ℕ → Key × Option F
  cell_by numbers functions cell = (key_at numbers.pages cell, kept_at functions (number_at numbers (key_at numbers.pages cell)))

  -- the cells of all pages, 64 each
  abbrev pub cells_by : Numbers → List F → List (Key × Option F)
  cells_by numbers functions = map (cell_by numbers functions) (range_with_len 0 (64 * length numbers.pages))

  -- for how many more functions there is room, which the cells have room to tell too
  abbrev pub room_of : Numbers → Functions F → ℕ
  room_of numbers functions = min functions.room (numbers.most - length functions.items)

  -- what a cell shows: its key with its function, if it has one
  abbrev pub entry_of_cell : Key × Option F → Option (Key × F)
  entry_of_cell cell = option_map (λ f. (cell.0, f)) cell.1

  -- the entries that cells show
  abbrev pub entries_in : List (Key × Option F) → List (Key × F)
  entries_in cells = filter_map entry_of_cell cells

  -- the same as a table
  abbrev pub table_of : List (Key × Option F) → Table F
  table_of cells = record { entries = entries_in cells }

  -- the function of a key, if it has one, by its cell
  abbrev pub function_of : List (Key × Option F) → Key → Option F
  function_of cells key = option_flatten (lookup (same_key key) cells)

  -- the entry that the cell at an index shows
  abbrev pub entry_in : List (Key × Option F) → ℕ → Option (Key × F)
  entry_in cells n = option_flatten (option_map entry_of_cell (slice_get cells n))

  -- its function alone
  abbrev pub kept_in : List (Key × Option F) → ℕ → Option F
  kept_in cells n = option_map (λ e. e.1) (entry_in cells n)

  -- cells of keys that have no function
  abbrev pub empty_cells : List Key → List (Key × Option F)
  empty_cells keys = map (λ key. (key, None)) keys

  -- entries, each in a cell
  abbrev pub full_cells : List (Key × F) → List (Key × Option F)
  full_cells entries = map (λ entry. (entry.0, Some entry.1)) entries

  -- the pages have their cells, each number has a function, and there are 2^32 - 64 cells at most
  pub record AreIndexed (numbers : Numbers) (functions : List F) : Type 0 where
    pub paged : ArePaged numbers
    pub kept : (key : Key) → number_at numbers key ≤ length functions
    pub few : 64 * length numbers.pages ≤ 2 ^ 32 - 64

  -- one more than the index of the key's cell: 0, if it has none
  abbrev pub place_of_key : Indexed F → Key → ℕ
  place_of_key indexed key = place_in key indexed.cells

  -- P holds of the key whose place this is: of each that has no cell, at place 0
  abbrev pub ForKeyAt : ℕ → Indexed F → (Key → Type 0) → Type 0
  ForKeyAt place indexed P = (key : Key) → place ≡ place_of_key indexed key → P key

  -- the function is put into the key's cell
  abbrev pub PutsEntry : Key → F → (old new : Indexed F) → Type 0
  PutsEntry key function old new = new.cells ≡ with_entry old.cells key (Some function)

  -- so are the functions of a list into theirs, one after the other
  abbrev pub PutsEntries : List (Key × F) → (old new : Indexed F) → Type 0
  PutsEntries list old new = new.cells ≡ with_all old.cells (full_cells list)

  -- no two cells are of one key
  abbrev pub HasDistinctKeys : Indexed F → Type 0
  HasDistinctKeys indexed = IsDistinct same_key (keys_of indexed.cells)

  -- behind the cells there may be more now, which have no function
  abbrev pub Widens : (old new : Indexed F) → Type 0
  Widens old new = (keys : List Key) × (new.cells ≡ old.cells ++ empty_cells keys)

  -- the key has a cell
  abbrev pub HasCell : Indexed F → Key → Type 0
  HasCell indexed key = 0 < place_of_key indexed key

  -- each key of the list has one
  abbrev pub HaveCells : Indexed F → List (Key × F) → Type 0
  HaveCells indexed list = All (λ entry. HasCell indexed entry.0) list
