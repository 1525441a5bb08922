-- Jumps between two facts at nodes that follow each other, which are entered in one go.
use Rattle.std.specs.Prelude.{◌≡◌, ℕ, zero, suc, ◌+◌, ◌<◌, ◌≤◌, false, ◌||◌, ◌&&◌, not, List, [], ◌∷◌, ◌++◌, Option, None, Some, length, unwrap_or}
use Rattle.std.specs.List.{IsDistinct}
use Rattle.std.specs.List.Sorted.{IsPermutation}
use Rattle.std.specs.Map.{keys_of}
use Rattle.std.specs.Option.{is_some}
use Rattle.ide_image.specs.ChangeLog.{AreSlotsOf, ChangeLog, noted_at}
use Rattle.ide_image.specs.Changes.{absent_entry}
use Rattle.ide_image.specs.Indexed.{Indexed, place_of_key}
use Rattle.ide_image.specs.KeyedImage.{Covers, IsListed, KeyedImageData, entry_by, entry_now}
use Rattle.ide_image.specs.Notes.{noted, with_note}
use Rattle.ide_image.specs.Queue.{SlotMarks}
use Rattle.ide_image.specs.Tables.{Table, found, with_entry}
use Rattle.ide_image.specs.Worklist.{Pile, is_pending}
use Rattle.ide_image.specs.declared.entry.Entry.{Entry}
use Rattle.ide_wire.specs.Key.{same_key}
use Rattle.ide_wire.specs.declared.key.Key.{Key}
use Rattle.ide_wire.specs.declared.key.Key.TheVariants.{Jump}

-- the jump between the facts so many nodes behind a node
abbrev pub jump_behind : (node from to : ℕ) → ℕ → Key
jump_behind node from to n = Jump (node + n) from to

-- the first so many of the keys behind the one at 0, each with the function
abbrev pub walked_entries : {F : Type 0} → (ℕ → Key) → F → ℕ → List (Key × F)
walked_entries at f zero = []
walked_entries at f (suc n) = walked_entries at f n ++ (at (suc n), f) ∷ []

-- the entries are those of before, and so many of the keys behind the one at 0 with the function
abbrev pub EntersWalked : {F : Type 0} → (ℕ → Key) → F → ℕ → (old new : Table F) → Type 0
EntersWalked at f count old new = IsPermutation (old.entries ++ walked_entries at f count) new.entries

-- the first so many of the keys behind the one at 0 are absent
abbrev pub AreAbsent : {F : Type 0} → Table F → (ℕ → Key) → ℕ → Type 0
AreAbsent table at count = (n : ℕ) → n < count → found table (at (suc n)) ≡ None

-- and none of them is pending
abbrev pub AreSettled : {T : Type 0} → Pile T → (ℕ → Key) → ℕ → Type 0
AreSettled pile at count = (n : ℕ) → n < count → is_pending pile (at (suc n)) ≡ false

-- the last key is pending in the place of the first
abbrev pub GoesTo : {T : Type 0} → (first last : Key) → (old new : Pile T) → Type 0
GoesTo first last old new = (q : Key) → is_pending new q ≡ (same_key last q || (not (same_key first q) && is_pending old q))

-- the cells, with the function put at the first so many of the keys behind the one at 0, one after the other
abbrev pub with_walked : {F : Type 0} → List (Key × Option F) → (ℕ → Key) → F → ℕ → List (Key × Option F)
with_walked cells at f zero = cells
with_walked cells at f (suc n) = with_entry (with_walked cells at f n) (at (suc n)) (Some f)

-- the key at 0 has this cell, and so many behind it those behind that
abbrev pub StandBehind : {F : Type 0} → ℕ → (ℕ → Key) → ℕ → Indexed F → Type 0
StandBehind cell at count indexed = (n : ℕ) → n ≤ count → (cell + n) + 1 ≡ place_of_key indexed (at n)

module _ {F : Type 0} where
  -- the first so many of the keys behind the one at 0 are noted as absent, one after the other
  abbrev pub with_entered : Option (List (Key × Entry F)) → (ℕ → Key) → ℕ → Option (List (Key × Entry F))
  with_entered notes at zero = notes
  with_entered notes at (suc n) = with_note (with_entered notes at n) (at (suc n)) absent_entry

  -- the jump at the node is noted with its entry of before, and so many behind it as absent
  abbrev pub NotesWalk : {T : Type 0} → (node from to count : ℕ) → (old new : KeyedImageData F T) → Type 0
  NotesWalk node from to count old new =
      new.changes ≡ with_entered (with_note old.changes (Jump node from to) (entry_now old (Jump node from to))) (jump_behind node from to) count

  -- the same, by the slot of the jump at the node
  abbrev pub WalksBySlot : (node from to count : ℕ) → Indexed F → SlotMarks → (old new : ChangeLog F) → Type 0
  WalksBySlot node from to count indexed marks old new =
      new.list ≡ with_entered (with_note old.list (Jump node from to) (entry_by indexed marks (Jump node from to))) (jump_behind node from to) count

  -- the notes agree with the places of their keys: their marks and slots are those of these, and each key is noted once
  pub record AreNotesIn (indexed : Indexed F) (changes : ChangeLog F) : Type 0 where
    pub unnoted : Covers (length indexed.cells) (noted_at changes)
    pub listed : (key : Key) → IsListed indexed changes key
    pub once : IsDistinct same_key (keys_of (unwrap_or changes.list []))
    pub slotted : AreSlotsOf (place_of_key indexed) changes

  -- the first so many of the keys behind the one at 0 have the slots from this one on
  abbrev pub StandFrom : ℕ → (ℕ → Key) → ℕ → Indexed F → Type 0
  StandFrom first at count indexed = (n : ℕ) → n < count → (first + n) + 1 ≡ place_of_key indexed (at (suc n))

  -- each of these slots is marked as noted exactly where the key that is to have it is
  abbrev pub AreListedFrom : ℕ → (ℕ → Key) → ℕ → ChangeLog F → Type 0
  AreListedFrom first at count changes = (n : ℕ) → n < count → noted_at changes (first + n) ≡ is_some (noted changes.list (at (suc n)))

  -- wherever the keys have these slots, the notes agree with the places as they did
  abbrev pub KeepsNotesFrom : ℕ → (ℕ → Key) → ℕ → (old new : ChangeLog F) → Type 0
  KeepsNotesFrom first at count old new = (indexed : Indexed F) → StandFrom first at count indexed → AreNotesIn indexed old → AreNotesIn indexed new
