-- Numbers by which what is left of notes is put in the order of keys: each has the place of a key among keys, and the index of a note.
use Rattle.std.specs.Prelude.{◌≡◌, ℕ, suc, ◌+◌, ◌*◌, ◌/◌, ◌%◌, ◌<◌, Bool, true, List, Option, Some, None, IsSome, map, nat_eq, slice_get}
use Rattle.std.specs.List.{All, filter_map, list_any}
use Rattle.std.specs.List.Sorted.{IsPermutation}
use Rattle.std.specs.Option.{option_map}
use Rattle.ide_wire.specs.declared.key.Key.{Key}
use Rattle.ide_wire.specs.declared.key.Key.TheVariants.{Jump, Summary}
use Rattle.ide_image.specs.Indexed.{Indexed, entry_in}
use Rattle.ide_image.specs.Left.{is_left_by_slot, left_by_slot}
use Rattle.ide_image.specs.Queue.{SlotMarks, pending_at}
use Rattle.ide_image.specs.declared.entry.Entry.{Entry}

-- the kind, the node and the facts in one number, the kind's bit the highest
abbrev pub joined_rank : (kind node first second : ℕ) → ℕ
joined_rank kind node first second = ((kind * 8388608 + node) * 4096 + first) * 4096 + second

-- the key's place among keys
abbrev pub key_rank : Key → ℕ
key_rank (Jump n a b) = joined_rank 0 n a b
key_rank (Summary n a b) = joined_rank 1 n a b

-- the node is a number of 23 bits, and the facts are of 12
abbrev pub HasRank : Key → Type 0
HasRank (Jump n a b) = (n < 8388608) × (a < 4096) × (b < 4096)
HasRank (Summary n a b) = (n < 8388608) × (a < 4096) × (b < 4096)

-- the number has the key's place, and the index
pub record IsNumberOf (key : Key) (index number : ℕ) : Type 0 where
  pub ranked : HasRank key
  pub rank : number / 65536 ≡ key_rank key
  pub low : number % 65536 ≡ index

-- the slot of the note whose index the number has
abbrev pub note_slot : (slots : List ℕ) → (number : ℕ) → Option ℕ
note_slot slots number = slice_get slots (number % 65536)

-- each marked slot is one of these
abbrev pub AreAmong : (marked : ℕ → Bool) → (slots : List ℕ) → Type 0
AreAmong marked slots = (slot : ℕ) → marked slot ≡ true → list_any (nat_eq slot) slots ≡ true

module _ {F : Type 0} where
  -- the key and the function of the slot, and whether it is pending
  abbrev pub item_in : Indexed F → SlotMarks → (slot : ℕ) → Option (Key × F × Bool)
  item_in indexed marks slot = option_map (λ entry. (entry.0, entry.1, pending_at marks.list slot)) (entry_in indexed.cells slot)

  -- the same, if there is a slot
  abbrev pub item_of : Indexed F → SlotMarks → (slot : Option ℕ) → Option (Key × F × Bool)
  item_of indexed marks None = None
  item_of indexed marks (Some slot) = item_in indexed marks slot

  -- each slot has an item
  abbrev pub HaveItems : Indexed F → SlotMarks → (slots : List ℕ) → Type 0
  HaveItems indexed marks slots = All (λ slot. IsSome (item_in indexed marks slot)) slots

  -- the items of slots
  abbrev pub items_in : Indexed F → SlotMarks → (slots : List ℕ) → List (Key × F × Bool)
  items_in indexed marks slots = filter_map (item_in indexed marks) slots

  -- each slot has an item, and these are the items in some order
  pub record HaveTheItems (indexed : Indexed F) (marks : SlotMarks) (items : List (Key × F × Bool)) (slots : List ℕ) : Type 0 where
    pub have : HaveItems indexed marks slots
    pub same : IsPermutation items (items_in indexed marks slots)

  -- the item of the slot that is listed with a key
  abbrev pub item_beside : Indexed F → SlotMarks → Key × ℕ → Option (Key × F × Bool)
  item_beside indexed marks keyed = item_in indexed marks keyed.1

  -- it is one of that key
  abbrev pub IsKeyed : Indexed F → SlotMarks → Key × ℕ → Type 0
  IsKeyed indexed marks keyed = option_map (λ item. item.0) (item_beside indexed marks keyed) ≡ Some keyed.0

  -- the item of the note whose index the number has
  abbrev pub item_told : Indexed F → SlotMarks → (slots : List ℕ) → (number : ℕ) → Option (Key × F × Bool)
  item_told indexed marks slots number = item_of indexed marks (note_slot slots number)

  -- the slots are those of the notes' keys
  abbrev pub AreSlots : (Key → ℕ) → List (Key × Entry F) → (slots : List ℕ) → Type 0
  AreSlots place notes slots = map (λ note. place note.0) notes ≡ map suc slots

  -- what is left of the notes, in their order
  abbrev pub left_by_slots : (F → F → Bool) → Indexed F → SlotMarks → List (Key × Entry F) → List (Key × F × Bool)
  left_by_slots same indexed marks notes = filter_map (λ note. left_by_slot same indexed marks note.0 note.1) notes

  -- it is what is left of the note at the index, if there is one
  abbrev pub IsLeftAt : (F → F → Bool) → Indexed F → SlotMarks → List (Key × Entry F) → (index : ℕ) → Option (Key × F × Bool) → Type 0
  IsLeftAt same indexed marks notes index left = (note : Key × Entry F) → slice_get notes index ≡ Some note → left ≡ left_by_slot same indexed marks note.0 note.1

  -- it says whether something is left of the note at the index, if there is one
  abbrev pub SaysIfLeftAt : (F → F → Bool) → Indexed F → SlotMarks → List (Key × Entry F) → (index : ℕ) → Bool → Type 0
  SaysIfLeftAt same indexed marks notes index is = (note : Key × Entry F) → slice_get notes index ≡ Some note → is ≡ is_left_by_slot same indexed marks note.0 note.1

  -- the number tells an item, and has the place of its key
  pub record IsNumber (told : ℕ → Option (Key × F × Bool)) (number : ℕ) : Type 0 where
    pub item : Key × F × Bool
    pub is : told number ≡ Some item
    pub ranked : HasRank item.0
    pub rank : number / 65536 ≡ key_rank item.0

  -- the slots, each with the key of its item, are those of the items, in the order of these
  pub record AreKeyed (indexed : Indexed F) (marks : SlotMarks) (items : List (Key × F × Bool)) (keyed : List (Key × ℕ)) : Type 0 where
    pub listed : filter_map (item_beside indexed marks) keyed ≡ items
    pub each : All (IsKeyed indexed marks) keyed

  -- the numbers are those of the items, in the order of these
  pub record AreNumbers (told : ℕ → Option (Key × F × Bool)) (items : List (Key × F × Bool)) (numbers : List ℕ) : Type 0 where
    pub listed : filter_map told numbers ≡ items
    pub each : All (IsNumber told) numbers
