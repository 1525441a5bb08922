-- What is left of notes, and the slots that tell it.
use Rattle.std.specs.Prelude.{◌≡◌, ℕ, ◌<◌, Bool, true, List, Option, Some, None, length, slice_get}
use Rattle.std.specs.Global.{Vec}
use Rattle.std.specs.List.Sorted.{IsSortedByKey}
use Rattle.std.specs.declared.cmp.PartialEq.{Ghosts as PartialEq}
use Rattle.std.specs.declared.default.Default.{Ghosts as Default}
use Rattle.ide_lattice.specs.declared.edge_fn.EdgeFn.{Ghosts as EdgeFn}
use Rattle.ide_lattice.specs.declared.lattice.Lattice.{Ghosts as Lattice}
use Rattle.ide_wire.specs.declared.wire.Wire.{Ghosts as Wire}
use Rattle.ide_wire.specs.KeyOrder.{key_cmp}
use Rattle.ide_wire.specs.declared.key.Key.{Key}
use Rattle.ide_image.specs.Grid.{HavePages}
use Rattle.ide_image.specs.Ranks.{AreKeyed, AreNumbers, HaveTheItems, IsKeyed, IsLeftAt, SaysIfLeftAt, item_beside, item_of, item_told, items_in, left_by_slots, note_slot}
use Rattle.ide_image.specs.declared.noted_slots.NotedSlots.{NotedSlots}

-- over notes with what has the entries of their keys, and over what the two types of its functions and values can do
module _ {F L : Type 0} {E : EdgeFn F L} {W : Wire F} {Q : PartialEq F} {D : Default F} {A : Lattice L} {P : PartialEq L} where
  -- the item of the note whose index a number has, as it stands
  abbrev pub told_by : NotedSlots F L E W Q D A P → ℕ → Option (Key × F × Bool)
  told_by left number = item_told left.indexed.now left.queue.now left.slots.now number

  -- that note's slot
  abbrev pub slot_told : NotedSlots F L E W Q D A P → ℕ → Option ℕ
  slot_told left number = note_slot left.slots.now number

  -- it is the item of the note at the index
  abbrev pub IsItemAt : NotedSlots F L E W Q D A P → ℕ → Key × F × Bool → Type 0
  IsItemAt left index item = item_of left.indexed.now left.queue.now (slice_get left.slots.now index) ≡ Some item

  -- the items of the slots ascend by their keys
  abbrev pub AscendByKey : NotedSlots F L E W Q D A P → Vec ℕ → Type 0
  AscendByKey left slots = IsSortedByKey (λ (item : Key × F × Bool). item.0) key_cmp (items_in left.indexed.now left.queue.now slots.items)

  -- the page of each note's slot has a row
  abbrev pub HasPagesOf : NotedSlots F L E W Q D A P → List ℕ → Type 0
  HasPagesOf left pages = HavePages left.slots.now (length left.notes.now.items) pages

  -- the slot has an item of the key with which it is listed
  abbrev pub IsKeyedIn : NotedSlots F L E W Q D A P → Key × ℕ → Type 0
  IsKeyedIn left keyed = IsKeyed left.indexed.now left.queue.now keyed

  -- the item of the slot that is listed with a key, if one is
  abbrev pub keyed_item : NotedSlots F L E W Q D A P → Option (Key × ℕ) → Option (Key × F × Bool)
  keyed_item left None = None
  keyed_item left (Some keyed) = item_beside left.indexed.now left.queue.now keyed

  module _ (same : F → F → Bool) (left : NotedSlots F L E W Q D A P) where
    -- what is left, in the order of the notes
    abbrev pub items_left : List (Key × F × Bool)
    items_left = left_by_slots same left.indexed.now left.queue.now left.notes.now.items

    -- it is what is left of the note at the index
    abbrev pub IsLeftOf : ℕ → Option (Key × F × Bool) → Type 0
    IsLeftOf index item = IsLeftAt same left.indexed.now left.queue.now left.notes.now.items index item

    -- it says whether something is left of the note at the index
    abbrev pub SaysIfLeft : ℕ → Bool → Type 0
    SaysIfLeft index is = SaysIfLeftAt same left.indexed.now left.queue.now left.notes.now.items index is

    -- each slot has an item, and these are what is left, in some order
    abbrev pub AreLeft : Vec ℕ → Type 0
    AreLeft slots = HaveTheItems left.indexed.now left.queue.now items_left slots.items

    -- the slots, each with its key, are those of what is left, in the order of the notes
    abbrev pub AreKeyedLeft : Vec (Key × ℕ) → Type 0
    AreKeyedLeft keyed = AreKeyed left.indexed.now left.queue.now items_left keyed.items

    -- something is left of each note
    abbrev pub AreAllLeft : Type 0
    AreAllLeft = (index : ℕ) → index < length left.notes.now.items → SaysIfLeft index true

    -- the numbers tell what is left
    abbrev pub AreNumbersOf : Vec ℕ → Type 0
    AreNumbersOf numbers = AreNumbers (told_by left) items_left numbers.items
