-- What contracts say of notes with a mark at each slot: which slots' keys are noted, and the slots of the noted keys.
use Rattle.std.specs.Prelude.{◌≡◌, ℕ, ◌+◌, ◌-◌, ◌<◌, ◌≤◌, suc, Bool, true, List, [], Option, Some, None, length, map, min, nat_eq, slice_index, unwrap_or, vec_capacity, vec_len}
use Rattle.std.specs.Global.{Vec}
use Rattle.std.specs.Option.{is_some}
use Rattle.ide_wire.specs.declared.key.Key.{Key}
use Rattle.ide_image.specs.Changes.{Changes}
use Rattle.ide_image.specs.Queue.{SetsMark}
use Rattle.ide_image.specs.declared.entry.Entry.{Entry}
use Rattle.ide_image.specs.declared.noted_marks.NotedMarks.{NotedMarks}

-- what is noted, if changes are, with the slot of each note; the number of the list that a slot was last noted in, that of the
-- list as it is, and for how many notes more there is room
pub record ChangeLog (F : Type 0) : Type 0 where
  pub list : Option (List (Key × Entry F))
  pub slots : List ℕ
  pub stamps : List ℕ
  pub epoch : ℕ
  pub room : ℕ

-- how many notes more there is room for, each with its slot
abbrev pub note_room : {F Y : Type 0} → Option (Changes F) → Vec Y → ℕ
note_room None slots = 0
note_room (Some list) slots = min list.room (vec_capacity slots - vec_len slots)

-- the list, if there is one
abbrev pub list_of : {F : Type 0} → Option (Changes F) → Option (List (Key × Entry F))
list_of None = None
list_of (Some list) = Some list.items

-- whether the slot's key is noted, by the marks alone
abbrev pub is_noted_in : NotedMarks → ℕ → Bool
is_noted_in marks n = nat_eq (slice_index marks.stamps.now n) marks.epoch

module _ {F : Type 0} where
  -- whether the slot's key is noted
  abbrev pub noted_at : ChangeLog F → ℕ → Bool
  noted_at changes n = nat_eq (slice_index changes.stamps n) changes.epoch

  -- the slots are those of the noted keys, where this is each key's place
  abbrev pub AreSlotsOf : (Key → ℕ) → ChangeLog F → Type 0
  AreSlotsOf place changes = map (λ note. place note.0) (unwrap_or changes.list []) ≡ map suc changes.slots

  -- they stay those of the noted keys
  abbrev pub KeepsSlots : (Key → ℕ) → (old new : ChangeLog F) → Type 0
  KeepsSlots place old new = AreSlotsOf place old → AreSlotsOf place new

  -- so they do wherever the slot is the key's place
  abbrev pub KeepsSlotsAt : ℕ → Key → (old new : ChangeLog F) → Type 0
  KeepsSlotsAt slot key old new = (place : Key → ℕ) → place key ≡ slot + 1 → KeepsSlots place old new

  -- the slot's key is noted, where changes are, and each other slot is as it was
  abbrev pub MarksNoted : ℕ → (old new : ChangeLog F) → Type 0
  MarksNoted slot old new = SetsMark slot (is_some old.list) (noted_at old) (noted_at new)

  -- where changes are noted, there is room for so many notes more, of the first slots
  pub record MayNote (count slots : ℕ) (changes : ChangeLog F) : Type 0 where
    pub free : is_some changes.list ≡ true → count ≤ changes.room
    pub stamped : is_some changes.list ≡ true → slots ≤ length changes.stamps

-- no stamp is of a list to come, and none is of no list
pub record AreStamps (stamps : List ℕ) (epoch : ℕ) : Type 0 where
  pub begun : 0 < epoch
  pub past : (n : ℕ) → slice_index stamps n ≤ epoch
