-- Tables as they are read: by cells, of which each page has 64 side by side.
use Rattle.std.specs.Prelude.{◌≡◌, ◌⊎◌, ℕ, ◌+◌, ◌*◌, ◌/◌, ◌%◌, ◌<◌, ◌≤◌, ◌^◌, List, Option, None, Some, map}
use Rattle.std.specs.List.{IsDistinct, filter_map, slice_index_or}
use Rattle.std.specs.Map.{keys_of, lookup}
use Rattle.std.specs.Option.{option_map}
use Rattle.ide_wire.specs.declared.key.Key.{Key}
use Rattle.ide_wire.specs.declared.key.Key.TheVariants.{Jump, Summary}
use Rattle.ide_wire.specs.Key.{same_key}
use Rattle.ide_image.specs.Indexed.{Indexed, entry_of_cell, table_of}
use Rattle.ide_image.specs.Tables.{Table, found}

-- tables, and the cells by which they are read: for each the key and its function, where it has one
pub record TablesData (F : Type 0) : Type 0 where
  pub table : Table F
  pub cells : List (Option (Key × F))

-- the key so many cells behind that of a key on its page: of a jump so many nodes further on, of a summary so many facts
abbrev pub key_behind : Key → ℕ → Key
key_behind (Jump n a b) k = Jump (n + k) a b
key_behind (Summary n a b) k = Summary n a (b + k)

-- those of 64 cells from the key's on are keys: their nodes have 32 bits, and their facts 16
abbrev pub HasRoomBehind : Key → Type 0
HasRoomBehind (Jump n a b) = n + 64 ≤ 2 ^ 32
HasRoomBehind (Summary n a b) = b + 64 ≤ 2 ^ 16

-- the key is a summary, or a jump at a node that is in none of the blocks of 64 from one to before another
abbrev pub IsAtOther : (begin end : ℕ) → Key → Type 0
IsAtOther begin end (Jump n a b) = (n < 64 * begin) ⊎ (64 * end ≤ n)
IsAtOther begin end (Summary n a b) = Unit {0}

module _ {F : Type 0} where
  -- the entries that cells show
  abbrev pub shown_entries : List (Option (Key × F)) → List (Key × F)
  shown_entries cells = filter_map (λ cell. cell) cells

  -- what the cell shows: nothing behind the last one
  abbrev pub shown_in : TablesData F → ℕ → Option (Key × F)
  shown_in tables cell = slice_index_or tables.cells cell None

  -- the function alone of what it shows
  abbrev pub function_shown_in : TablesData F → ℕ → Option F
  function_shown_in tables cell = option_map (λ e. e.1) (shown_in tables cell)

  -- the cells from one on, up to before another, show the same function, or none
  abbrev pub AreAlike : TablesData F → (begin end : ℕ) → Type 0
  AreAlike tables begin end = (cell : ℕ) → begin ≤ cell → cell < end → function_shown_in tables cell ≡ function_shown_in tables begin

  -- the cells show the entries of the table, and no two of them are of one key
  pub record ShowTable (tables : TablesData F) : Type 0 where
    pub found : (q : Key) → found tables.table q ≡ lookup (same_key q) (shown_entries tables.cells)
    pub distinct : IsDistinct same_key (keys_of (shown_entries tables.cells))

  -- the page's first cell is that of the key: each entry that a cell of the page shows has the key so many nodes behind it
  abbrev pub BeginsWith : TablesData F → (page : ℕ) → (first : Key) → Type 0
  BeginsWith tables page first = (cell : ℕ) (e : Key × F) → cell / 64 ≡ page → shown_in tables cell ≡ Some e → e.0 ≡ key_behind first (cell % 64)

  -- so is the key of each entry that a cell of the page shows
  abbrev pub HasOthers : TablesData F → (begin end : ℕ) → (page : ℕ) → Type 0
  HasOthers tables begin end page = (cell : ℕ) (e : Key × F) → cell / 64 ≡ page → shown_in tables cell ≡ Some e → IsAtOther begin end e.0

  -- tables whose keys have these cells
  abbrev pub tables_of : Indexed F → TablesData F
  tables_of indexed = record { table = table_of indexed.cells; cells = map entry_of_cell indexed.cells }
