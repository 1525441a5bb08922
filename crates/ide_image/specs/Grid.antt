-- Pages in the rows of a grid, and the order in which the noted slots on them are read.
use Rattle.std.specs.Prelude.{◌≡◌, ◌≢◌, ℕ, zero, suc, ◌+◌, ◌*◌, ◌/◌, ◌%◌, ◌<◌, ◌≤◌, Bool, true, List, Some, length, slice_get, slice_index}
use Rattle.std.specs.Global.{Vec}
use Rattle.std.specs.List.{All, Contains}
use Rattle.ide_pages.specs.Pages.{offset_of}
use Rattle.ide_wire.specs.declared.key.Key.{Key}
use Rattle.ide_image.specs.Cells.{BeginsWith, tables_of}
use Rattle.ide_image.specs.Indexed.{Indexed}
use Rattle.ide_image.specs.Queue.{SlotMarks}
use Rattle.ide_image.specs.Ranks.{HasRank, item_in, key_rank}

-- the row is that of the page
pub record IsRowOf (page : ℕ) (pages : List ℕ) (row : ℕ) : Type 0 where
  pub there : row < length pages
  pub is : slice_index pages row ≡ page

-- the page has a row
abbrev pub HasPage : (pages : List ℕ) → ℕ → Type 0
HasPage pages page = (row : ℕ) × IsRowOf page pages row

-- each page that had a row has one
abbrev pub KeepsPages : (old new : List ℕ) → Type 0
KeepsPages old new = (page : ℕ) → HasPage old page → HasPage new page

-- so has the page of each of the first slots
abbrev pub HavePages : (slots : List ℕ) → (count : ℕ) → (pages : List ℕ) → Type 0
HavePages slots count pages = (i : ℕ) → i < count → HasPage pages (slice_index slots i / 64)

-- the slots of the page have 32 bits
abbrev pub IsPage : ℕ → Type 0
IsPage page = page < 67108864

-- each page has a row that is told to have one
pub record IsGrid (has_row : List Bool) (pages : List ℕ) : Type 0 where
  pub told : (page : ℕ) → slice_get has_row page ≡ Some true → HasPage pages page
  pub few : All IsPage pages

-- ---- the order of rows, each told by a number that has the rank of its first key and its index

-- the kind of a row's keys, by the highest bit of its number: 0 for jumps, 1 for summaries
abbrev pub kind_of : ℕ → ℕ
kind_of number = number / 9223372036854775808

-- how far the ranks of keys are apart that stand side by side on a page: of kind 0, jumps, a node, and of the other, summaries, a fact
abbrev pub step_of : (kind : ℕ) → ℕ
step_of zero = 16777216
step_of (suc n) = 1

-- the rank of the key at the offset
abbrev pub rank_at : (number offset : ℕ) → ℕ
rank_at number offset = number / 65536 + offset * step_of (kind_of number)

-- what rows of one kind and one block have in common: of jumps the node of the first key, and of summaries its rank, which no other row has
abbrev pub block_by : (kind number : ℕ) → ℕ
block_by zero number = number / 1099511627776
block_by (suc n) number = number / 65536

-- the same of a number, which tells its kind
abbrev pub block_of : ℕ → ℕ
block_of number = block_by (kind_of number) number

-- keys of the number's block at offsets before this one have ranks below this
abbrev pub bound_at : (number offset : ℕ) → ℕ
bound_at number offset = (block_of number + offset) * step_of (kind_of number)

-- the ranks of the first keys ascend
abbrev pub RanksAscend : List ℕ → Type 0
RanksAscend numbers = (i j : ℕ) → i < j → j < length numbers → slice_index numbers i / 65536 < slice_index numbers j / 65536

-- and the rows are those of pages, with blocks 64 steps apart
pub record AreRows (pages numbers : List ℕ) : Type 0 where
  pub ascend : RanksAscend numbers
  pub there : All (λ number. number % 65536 < length pages) numbers
  pub apart : (i : ℕ) → i < length numbers → block_of (slice_index numbers i) % 64 ≡ 0

-- the number at the index is the first one, or of another block than that before
abbrev pub BeginsBlock : List ℕ → ℕ → Type 0
BeginsBlock numbers index =
    (i : ℕ) → i + 1 ≡ index → block_of (slice_index numbers i) ≢ block_of (slice_index numbers index)

-- the numbers from an index on, up to another one, are of one block
abbrev pub AreOfBlock : List ℕ → (from to : ℕ) → Type 0
AreOfBlock numbers from to =
    (i : ℕ) → from ≤ i → i < to → block_of (slice_index numbers i) ≡ block_of (slice_index numbers from)

-- ---- noted slots, as they are read of rows

-- the slot is the first one of its page
abbrev pub IsStart : ℕ → Type 0
IsStart slot = slot % 64 ≡ 0

-- the first slot of the page of the number's row
abbrev pub start_at : (pages : List ℕ) → (number : ℕ) → ℕ
start_at pages number = 64 * slice_index pages (number % 65536)

-- these are the first slots of the pages of so many rows
pub record AreStarts (pages numbers : List ℕ) (count : ℕ) (starts : List ℕ) : Type 0 where
  pub long : length starts ≡ count
  pub each : (i : ℕ) → i < count → slice_index starts i ≡ start_at pages (slice_index numbers i)

-- rows of one block, whose pages begin with these slots
pub record IsBlock (pages numbers starts : List ℕ) : Type 0 where
  pub long : length starts ≡ length numbers
  pub on : All (λ start. HasPage pages (start / 64)) starts
  pub ascend : RanksAscend numbers
  pub same : AreOfBlock numbers 0 (length numbers)

-- the slots are such ones, and their ranks ascend
pub record AreRead (P : ℕ → Type 0) (rank : ℕ → ℕ) (slots : List ℕ) : Type 0 where
  pub each : All P slots
  pub ascend : (i j : ℕ) → i < j → j < length slots → rank (slice_index slots i) < rank (slice_index slots j)

-- and the ranks are below a bound
pub record AreReadTo (P : ℕ → Type 0) (rank : ℕ → ℕ) (bound : ℕ) (slots : List ℕ) : Type 0 where
  pub read : AreRead P rank slots
  pub below : All (λ slot. rank slot < bound) slots

module _ (noted : ℕ → Bool) where
  -- the slot is noted, and its page has a row
  pub record IsOn (pages : List ℕ) (slot : ℕ) : Type 0 where
    pub marked : noted slot ≡ true
    pub page : HasPage pages (slot / 64)

  -- each noted slot on rows that begin with slots has the rank that its row and its offset tell
  abbrev pub AreRanksOn : (start : ℕ → ℕ) → (numbers : List ℕ) → (rank : ℕ → ℕ) → Type 0
  AreRanksOn start numbers rank =
      (i offset : ℕ) → i < length numbers → offset < 64 → noted (start i + offset) ≡ true → rank (start i + offset) ≡ rank_at (slice_index numbers i) offset

  -- the slots are noted ones on the pages, and ascend by any ranks that the rows tell
  abbrev pub AreReadOn : (pages numbers : List ℕ) → Vec ℕ → Type 0
  AreReadOn pages numbers slots =
      (rank : ℕ → ℕ) → AreRanksOn (λ i. start_at pages (slice_index numbers i)) numbers rank → AreRead (IsOn pages) rank slots.items

  -- the noted slots of a block's rows are read up to an offset, if those of before were read up to another one
  abbrev pub ReadsOffsets : (starts : List ℕ) → (from to : ℕ) → (old new : Vec ℕ) → Type 0
  ReadsOffsets starts from to old new =
      (pages numbers : List ℕ) (rank : ℕ → ℕ) → IsBlock pages numbers starts → AreRanksOn (λ i. slice_index starts i) numbers rank
      → AreReadTo (IsOn pages) rank (bound_at (slice_index numbers 0) from) old.items
      → AreReadTo (IsOn pages) rank (bound_at (slice_index numbers 0) to) new.items

module _ {F : Type 0} (indexed : Indexed F) where
  -- the page has a first key, which has a rank, at the first offset
  pub record IsRow (page : ℕ) : Type 0 where
    pub first : Key
    pub begins : BeginsWith (tables_of indexed) page first
    pub ranked : HasRank first
    pub whole : offset_of first ≡ 0

  -- the number has the rank of the first key of its row's page
  pub record IsRowNumber (pages : List ℕ) (number : ℕ) : Type 0 where
    pub there : number % 65536 < length pages
    pub row : IsRow (slice_index pages (number % 65536))
    pub rank : number / 65536 ≡ key_rank row.first

  -- so does each of the numbers, and each of the first pages is a row
  pub record AreNumbersTo (pages : List ℕ) (count : ℕ) (numbers : List ℕ) : Type 0 where
    pub each : All (IsRowNumber pages) numbers
    pub rows : (row : ℕ) → row < count → IsRow (slice_index pages row)

  -- so it is of all pages of the grid
  abbrev pub AreNumbersOfRows : (pages : List ℕ) → Vec ℕ → Type 0
  AreNumbersOfRows pages numbers = AreNumbersTo pages (length pages) numbers.items

  -- the slot tells the item, and this is one of the items
  pub record TellsOneOf (marks : SlotMarks) (items : List (Key × F × Bool)) (slot : ℕ) : Type 0 where
    pub item : Key × F × Bool
    pub is : item_in indexed marks slot ≡ Some item
    pub among : Contains items item
