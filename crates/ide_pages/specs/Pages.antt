-- What contracts say of numbers at keys: the number of each key, the cell that has it, and the pages that there are.
use Rattle.std.specs.Prelude.{◌≡◌, ◌⊎◌, ℕ, zero, suc, ◌+◌, ◌*◌, ◌/◌, ◌%◌, ◌<◌, ◌≤◌, ◌^◌, List, [], ◌∷◌, ◌++◌, length, map, nat_eq, position, Option, None, Some, if◌then◌else◌}
use Rattle.std.specs.List.{AllByRecursion, IsDistinct, filter_map, range_with_len, slice_index_or}
use Rattle.std.specs.List.Sorted.{IsStrictlySortedBy}
use Rattle.std.specs.Map.{lookup, keys_of}
use Rattle.std.specs.BTreeMap.{is_at}
use Rattle.std.specs.Option.{option_map, option_to_list, unwrap_or}
use Rattle.std.specs.Ordering.{nat_cmp}
use Rattle.ide_wire.specs.declared.key.Key.{Key}
use Rattle.ide_wire.specs.declared.key.Key.TheVariants.{Jump, Summary}
use Rattle.ide_wire.specs.Key.{same_key}
use Rattle.ide_pages.specs.Rows.{RowsData, page_in, row_at}

-- numbers at keys: for each cell its key with its number, where that is not 0; the pages, 64 cells each, in the order of their cells;
-- and the greatest number that a cell has room for
pub record Numbers : Type 0 where
  pub slots : List (Option (Key × ℕ))
  pub pages : List Key
  pub most : ℕ

-- the keys whose number is not 0, with it. Their order is that of the cells, and means nothing else
abbrev pub entries : Numbers → List (Key × ℕ)
entries numbers = filter_map (λ slot. slot) numbers.slots

-- the number of the key: 0, if it has no entry
abbrev pub number_at : Numbers → Key → ℕ
number_at numbers key = unwrap_or (lookup (same_key key) (entries numbers)) 0

-- the page that a key is on: that of a jump has those between the two facts at 64 nodes, that of a summary those over the call from the
-- first fact to 64 facts
abbrev pub page_of : Key → Key
page_of (Jump n a b) = Jump (n / 64) a b
page_of (Summary n a b) = Summary n a (b / 64)

-- and the offset at which it is there
abbrev pub offset_of : Key → ℕ
offset_of (Jump n a b) = n % 64
offset_of (Summary n a b) = b % 64

-- the cell at an offset of the page, if there is the page
abbrev pub cell_on : List Key → ℕ → Key → Option ℕ
cell_on pages offset page = option_map (λ index. 64 * index + offset) (position (same_key page) pages)

-- the cell of the key, if there is its page
abbrev pub cell_of : Numbers → Key → Option ℕ
cell_of numbers key = cell_on numbers.pages (offset_of key) (page_of key)

-- what the cell shows: its key with its number, where that is not 0; nothing behind the last cell
abbrev pub slot_at : Numbers → ℕ → Option (Key × ℕ)
slot_at numbers cell = slice_index_or numbers.slots cell None

-- the number in the cell: 0 behind the last one
abbrev pub number_in : Numbers → ℕ → ℕ
number_in numbers cell = unwrap_or (option_map (λ entry. entry.1) (slot_at numbers cell)) 0

-- it is the number of each key that has the cell
abbrev pub IsNumberIn : Numbers → ℕ → ℕ → Type 0
IsNumberIn numbers cell n = (key : Key) → cell_of numbers key ≡ Some cell → n ≡ number_at numbers key

-- a number that is not 0
abbrev pub nonzero : ℕ → Option ℕ
nonzero n = if nat_eq n 0 then None else Some n

-- the key with the number, where that is not 0
abbrev pub shown : Key → ℕ → Option (Key × ℕ)
shown key n = option_map (λ m. (key, m)) (nonzero n)

-- the key's entry, of which there is none where its number is 0
abbrev pub own : Key → ℕ → List (Key × ℕ)
own key n = option_to_list (shown key n)

-- the key's number is put in place of the one before: every other entry stays, also in its order
pub record Puts (old new : Numbers) (key : Key) (number : ℕ) : Type 0 where
  pub numbers : (q : Key) → number_at new q ≡ (if same_key key q then number else number_at old q)
  pub before : List (Key × ℕ)
  pub after : List (Key × ℕ)
  pub was : entries old ≡ before ++ own key (number_at old key) ++ after
  pub is : entries new ≡ before ++ own key number ++ after
  pub pages : new.pages ≡ old.pages

-- the number is put in place of those of so many keys, one after the other: each of them has it then (`run-own`), and each other key what it
-- had (`run-others`)
pub data PutsRun (at : ℕ → Key) (number : ℕ) (old : Numbers) : ℕ → Numbers → Type 0 where
  no_key : PutsRun at number old zero old
  one_more : {n : ℕ} {mid new : Numbers} → PutsRun at number old n mid → Puts mid new (at n) number → PutsRun at number old (suc n) new

-- each key that had a cell has the same one
abbrev pub KeepsCells : (old new : Numbers) → Type 0
KeepsCells old new = (q : Key) (cell : ℕ) → cell_of old q ≡ Some cell → cell_of new q ≡ Some cell

-- the row, ascending by fact, has the numbers of the keys `at` a fact that are not 0
pub record AreRow (at : ℕ → Key) (numbers : Numbers) (row : List (ℕ × ℕ)) : Type 0 where
  pub ascending : IsStrictlySortedBy nat_cmp (keys_of row)
  pub within : AllByRecursion (λ d. d < 2 ^ 16) (keys_of row)
  pub exact : (d : ℕ) → d < 2 ^ 16 → lookup (is_at (nat_cmp d)) row ≡ nonzero (number_at numbers (at d))

-- it has those of the jumps at the node to the fact
abbrev pub IsRowOfJumps : ℕ → ℕ → Numbers → List (ℕ × ℕ) → Type 0
IsRowOfJumps node fact numbers row = AreRow (λ d. Jump node d fact) numbers row

-- it has those of the summaries at the call from the fact
abbrev pub IsRowOfSummaries : ℕ → ℕ → Numbers → List (ℕ × ℕ) → Type 0
IsRowOfSummaries call fact numbers row = AreRow (Summary call fact) numbers row

-- the key at an offset of the page
abbrev pub key_on : Key → ℕ → Key
key_on (Jump block a b) offset = Jump (64 * block + offset) a b
key_on (Summary n a block) offset = Summary n a (64 * block + offset)

-- a jump's node is one that fits, and so is the fact to which a summary leads
abbrev pub Fits : Key → Type 0
Fits (Jump n a b) = n < 2 ^ 32
Fits (Summary n a b) = b < 2 ^ 16

-- the page has no jumps at the blocks of 64 nodes from one to before another
abbrev pub IsAside : (begin end : ℕ) → Key → Type 0
IsAside begin end (Jump block a b) = (block < begin) ⊎ (end ≤ block)
IsAside begin end (Summary n a block) = Unit {0}

-- the page at an index, where one that is not there stands for any page
abbrev pub page_at : List Key → ℕ → Key
page_at pages index = slice_index_or pages index (Jump 0 0 0)

-- the key of the cell
abbrev pub key_at : List Key → ℕ → Key
key_at pages cell = key_on (page_at pages (cell / 64)) (cell % 64)

-- what the cells from the first on show, where `at` gives the key of each
abbrev pub slots_from : (ℕ → Key) → ℕ → List ℕ → List (Option (Key × ℕ))
slots_from at first [] = []
slots_from at first (n ∷ ns) = shown (at first) n ∷ slots_from at (first + 1) ns

-- the numbers that the cells of the pages have, with room for numbers up to one
abbrev pub numbers_within : (most : ℕ) → List Key → List ℕ → Numbers
numbers_within most pages cells = record { slots = slots_from (key_at pages) 0 cells; pages = pages; most = most }

-- the same, whatever there is room for
abbrev pub numbers_of : List Key → List ℕ → Numbers
numbers_of pages cells = numbers_within 0 pages cells

-- the number in a cell, if there is one, or 0
abbrev pub cell_number : List ℕ → Option ℕ → ℕ
cell_number cells None = 0
cell_number cells (Some cell) = slice_index_or cells cell 0

-- the number at an offset of the page, or 0
abbrev pub number_on : List Key → List ℕ → ℕ → Key → ℕ
number_on pages cells offset page = cell_number cells (cell_on pages offset page)

-- what the cell of a key shows: the key with its number, where that is not 0
abbrev pub slot_by : Numbers → ℕ → Option (Key × ℕ)
slot_by numbers cell = shown (key_at numbers.pages cell) (number_at numbers (key_at numbers.pages cell))

-- 64 cells a page, each the cell of one key, show the numbers of their keys; a key that has no cell has 0
pub record ArePaged (numbers : Numbers) : Type 0 where
  pub slots : numbers.slots ≡ map (slot_by numbers) (range_with_len 0 (64 * length numbers.pages))
  pub own : (cell : ℕ) → cell < 64 * length numbers.pages → cell_of numbers (key_at numbers.pages cell) ≡ Some cell
  pub absent : (key : Key) → cell_of numbers key ≡ None → number_at numbers key ≡ 0

-- the pages are those of before, behind which the key's may stand now
abbrev pub AddsPage : (old new : Numbers) → Key → Type 0
AddsPage old new key = (new.pages ≡ old.pages) ⊎ (new.pages ≡ old.pages ++ page_of key ∷ [])

-- there may be a page more, the key's, but none beyond a limit: each key has the number and the cell that it had
pub record GrowsFor (key : Key) (limit : ℕ) (old new : Numbers) : Type 0 where
  pub same : entries new ≡ entries old
  pub cells : KeepsCells old new
  pub pages : AddsPage old new key
  pub most : new.most ≡ old.most
  pub within : length old.pages ≤ limit → length new.pages ≤ limit

-- how many entries a cell with the number makes
abbrev pub weight : ℕ → ℕ
weight n = if nat_eq n 0 then 0 else 1

-- the number of a row: in its highest part is the kind, 0 of jumps and 1 of summaries; then come the block of nodes, or the call, and
-- the fact that its pages have in common
abbrev pub row_number : (kind place fact : ℕ) → ℕ
row_number kind place fact = kind * 281474976710656 + place * 65536 + fact

-- the row of a page: that of the jumps to its fact, or of the summaries from it
abbrev pub row_of : Key → ℕ
row_of (Jump n a b) = row_number 0 n b
row_of (Summary n a block) = row_number 1 n a

-- what tells the page from the others of its row: of jumps the fact where they start, of summaries the block of the facts where they return
abbrev pub listed_fact : Key → ℕ
listed_fact (Jump n a b) = a
listed_fact (Summary n a block) = block

-- the numbers of a page fit where those of a key have to
abbrev pub IsPage : Key → Type 0
IsPage (Jump n a b) = (n < 2 ^ 26) × (a < 2 ^ 16) × (b < 2 ^ 16)
IsPage (Summary n a block) = (n < 2 ^ 32) × (a < 2 ^ 16) × (block < 2 ^ 16)

-- and its block is so small that each key on it has numbers that fit
abbrev pub IsSmall : Key → Type 0
IsSmall (Jump n a b) = n < 2 ^ 26
IsSmall (Summary n a block) = block < 2 ^ 10

-- each page is told by its row, with its index
abbrev pub TellPages : RowsData → List Key → Type 0
TellPages rows pages = (page : Key) → IsPage page → page_in (row_at rows (row_of page)) (listed_fact page) ≡ position (same_key page) pages

-- the number at an offset of the page at an index, or 0
abbrev pub number_by : (cells : List ℕ) → (offset index : ℕ) → ℕ
number_by cells offset index = slice_index_or cells (64 * index + offset) 0

-- the fact with the number on its page, where that is not 0
abbrev pub partner_of : (ℕ → ℕ) → ℕ × ℕ → Option (ℕ × ℕ)
partner_of number listed = option_map (λ n. (listed.0, n)) (nonzero (number listed.1))

-- the number in the cell at an offset of the page at an index
abbrev pub number_on_page : Numbers → (offset index : ℕ) → ℕ
number_on_page numbers offset index = number_in numbers (64 * index + offset)

-- the facts of pages, each with the number at the offset of its page, where that is not 0
abbrev pub read_at : Numbers → ℕ → List (ℕ × ℕ) → List (ℕ × ℕ)
read_at numbers offset pages = filter_map (partner_of (number_on_page numbers offset)) pages

-- the fact at an offset of a block, with the number there on the block's page, where that is not 0
abbrev pub partner_on : Numbers → ℕ × ℕ → (offset : ℕ) → Option (ℕ × ℕ)
partner_on numbers listed offset = option_map (λ n. (64 * listed.0 + offset, n)) (nonzero (number_on_page numbers offset listed.1))

-- the facts of a block, each with its number on the block's page, where that is not 0
abbrev pub read_block : Numbers → ℕ × ℕ → List (ℕ × ℕ)
read_block numbers listed = filter_map (partner_on numbers listed) (range_with_len 0 64)

-- the blocks are those of facts that fit
abbrev pub AreBlocks : List (ℕ × ℕ) → Type 0
AreBlocks pages = AllByRecursion (λ block. block < 2 ^ 10) (keys_of pages)

-- those of blocks, one behind the other
abbrev pub read_blocks : Numbers → List (ℕ × ℕ) → List (ℕ × ℕ)
read_blocks numbers [] = []
read_blocks numbers (listed ∷ more) = read_block numbers listed ++ read_blocks numbers more

-- what holds of the fields: each page has 64 cells and stands once, they and the nodes of their keys are counted by 32 bits, the row of a
-- page tells its index, and the count is that of the entries
pub record ArePages (pages : List Key) (cells : List ℕ) (rows : RowsData) (count : ℕ) : Type 0 where
  pub paged : length cells ≡ 64 * length pages
  pub few : length pages < 2 ^ 32
  pub distinct : IsDistinct same_key pages
  pub small : (index : ℕ) → IsSmall (page_at pages index)
  pub told : TellPages rows pages
  pub counted : count ≡ length (entries (numbers_of pages cells))
