-- A slot: a file of records behind gates that may begin with a checkpoint.
use Rattle.std.specs.Prelude.{◌≡◌, ◌≢◌, ℕ, ◌+◌, ◌<◌, ◌≤◌, All, List, [], ◌∷◌, ◌++◌, length}
use Rattle.std.specs.Int.{w32, w64, to_le_bytes}
use Rattle.ide_journal.specs.Bytes.{IsAfter, IsBefore}
use Rattle.ide_journal.specs.Format.{Entry, Head, IsEntry, after_gate, letters, zeros}

-- a record with the number that stands in it
abbrev pub NumberedEntry : Type 0
NumberedEntry = ℕ × Entry

-- what the first page tells: version and tag, generation, base, and how many commands and parts there are
pub record SlotHead : Type 0 where
  pub head : Head
  pub generation : ℕ
  pub base : ℕ
  pub commands : ℕ
  pub parts : ℕ

-- the first page: the letters, the tag, the four numbers, zeros
unfoldable pub slot_header : SlotHead → List ℕ
slot_header told =
    letters told.head.version ++ told.head.tag ∷ [] ++ to_le_bytes w64 told.generation ++ to_le_bytes w64 told.base
    ++ to_le_bytes w32 told.commands ++ to_le_bytes w32 told.parts ++ zeros 4063

-- it is valid: a slot of generation 0 begins with no checkpoint, and a later one with a command at least
pub record IsValidHead (told : SlotHead) : Type 0 where
  pub tag : 0 < told.head.tag
  pub generation : told.generation ≤ 4294967295
  pub base : told.base ≤ 4294967295
  pub commands : told.commands ≤ 4294967295
  pub parts : told.parts ≤ 4294967295
  pub first : told.generation ≡ 0 → (told.base ≡ 0) × (told.commands ≡ 0) × (told.parts ≡ 0)
  pub later : 0 < told.generation → 0 < told.commands

-- a command: a load or a root
pub record IsCommandEntry (entry : Entry) : Type 0 where
  pub some_kind : 1 ≤ entry.0
  pub known_kind : entry.0 ≤ 2
  pub short : length entry.1 ≤ 4194304

-- a part of an image
pub record IsPartEntry (entry : Entry) : Type 0 where
  pub kind : entry.0 ≡ 4
  pub short : length entry.1 ≤ 4194304

-- commands whose numbers ascend from the one number on, and lie below the base
abbrev pub AreCommands : ℕ → ℕ → List NumberedEntry → Type 0
AreCommands from base [] = Unit {0}
AreCommands from base (r ∷ records) =
    (from ≤ r.0) × (r.0 < base) × IsCommandEntry r.1 × AreCommands (r.0 + 1) base records

-- what a slot holds: the commands and the parts of its checkpoint, and the records from the base on
pub record Slot : Type 0 where
  pub head : Head
  pub generation : ℕ
  pub base : ℕ
  pub commands : List NumberedEntry
  pub parts : List Entry
  pub rest : List Entry

abbrev pub slot_head : Slot → SlotHead
slot_head slot = record {
  head = slot.head;
  generation = slot.generation;
  base = slot.base;
  commands = length slot.commands;
  parts = length slot.parts;
}

-- how many records were stored, those below the base too
abbrev pub slot_count : Slot → ℕ
slot_count slot = slot.base + length slot.rest

-- the slot with one record more
abbrev pub with_more : Slot → Entry → Slot
with_more slot entry = record slot { rest = slot.rest ++ entry ∷ [] }

-- its records are those that may stand there
pub record IsSlot (slot : Slot) : Type 0 where
  pub valid : IsValidHead (slot_head slot)
  pub commands : AreCommands 0 slot.base slot.commands
  pub parts : All IsPartEntry slot.parts
  pub rest : All IsEntry slot.rest
  pub few : slot_count slot ≤ 4294967295

-- records under numbers from the one on
abbrev pub numbered_from : ℕ → List Entry → List NumberedEntry
numbered_from number [] = []
numbered_from number (entry ∷ entries) = (number, entry) ∷ numbered_from (number + 1) entries

-- commands keep their old numbers, parts are numbered from 0 on, and the others from the base on
abbrev pub records_of : Slot → List NumberedEntry
records_of slot = slot.commands ++ numbered_from 0 slot.parts ++ numbered_from slot.base slot.rest

-- the pages are those of the records, each behind an open gate
abbrev pub HavePages : List NumberedEntry → List ℕ → Type 0
HavePages [] pages = pages ≡ []
HavePages (r ∷ records) pages =
    (gate : ℕ) × (rest : List ℕ) × (gate ≢ 0) × (pages ≡ gate ∷ after_gate r.0 r.1 ++ rest) × HavePages records rest

-- all that stands before the closed gate of a slot
pub record IsFront (slot : Slot) (front : List ℕ) : Type 0 where
  pub proper : IsSlot slot
  pub pages : List ℕ
  pub whole : HavePages (records_of slot) pages
  pub split : front ≡ slot_header (slot_head slot) ++ pages

-- a file holds the slot: the first page, the pages of the records, a closed gate, and then anything
pub record HoldsSlot (slot : Slot) (bytes : List ℕ) : Type 0 where
  pub front : List ℕ
  pub whole : IsFront slot front
  pub closed : IsBefore front bytes

-- the slot is closed: a first page, whatever it tells, and a closed gate
pub record IsClosedSlot (bytes : List ℕ) : Type 0 where
  pub page : List ℕ
  pub long : length page ≡ 4096
  pub closed : IsBefore page bytes

-- it is open, and of this generation: a first page that tells it, and an open gate
pub record IsOpenSlot (generation : ℕ) (bytes : List ℕ) : Type 0 where
  pub told : SlotHead
  pub valid : IsValidHead told
  pub is : told.generation ≡ generation
  pub opened : IsAfter (slot_header told) [] bytes

-- a store on one disk, as a slot of generation 0
abbrev pub first_slot : Head → List Entry → Slot
first_slot head entries = record { head = head; generation = 0; base = 0; commands = []; parts = []; rest = entries }
