-- The bytes of a checkpoint.
use Rattle.std.specs.Prelude.{◌≡◌, ℕ, ◌<◌, ◌≤◌, All, Bool, List, [], ◌∷◌, ◌++◌, length, map}
use Rattle.std.specs.Global.{Vec}
use Rattle.std.specs.declared.collections.VecDeque.{VecDeque}
use Rattle.ide_journal.specs.Format.{Entry, head_of}
use Rattle.ide_journal.specs.Lists.{entries_of}
use Rattle.ide_journal.specs.declared.record.RawRecord.{RawRecord}
use Rattle.ide_journal.specs.declared.version.Version.TheVariants.{Two}
use Rattle.ide_slots.specs.Filling.{chunks, with_gate}
use Rattle.ide_slots.specs.Records.{all_numbered}
use Rattle.ide_slots.specs.Slot.{AreCommands, IsPartEntry, NumberedEntry, Slot, SlotHead, numbered_from, slot_header}
use Rattle.ide_slots.specs.declared.record.NumberedRecord.{NumberedRecord}
use Rattle.ide_slot_journal.specs.declared.filler.Filler.{Filler}
use Rattle.ide_slot_journal.specs.declared.planning.Spelling.{Spelling}
use Rattle.ide_slot_journal.specs.declared.stage.FillStage.TheVariants.{Waits}

abbrev pub chunk_bytes : List (Vec ℕ) → List (List ℕ)
chunk_bytes todo = map (λ (chunk : Vec ℕ). chunk.items) todo

-- these are spelled behind the others
abbrev pub HasMore : List (List ℕ) → (old new : List (Vec ℕ)) → Type 0
HasMore more old new = chunk_bytes new ≡ chunk_bytes old ++ more

-- a record is, with that gate behind it
abbrev pub SpellsOne : (gate : ℕ) → NumberedEntry → (old new : Spelling) → Type 0
SpellsOne gate entry old new = HasMore (with_gate gate entry ∷ []) old.todo.items new.todo.items

-- records are, each with an open gate behind it
abbrev pub SpellsOpen : List NumberedEntry → (old new : Spelling) → Type 0
SpellsOpen records old new = HasMore (map (with_gate 1) records) old.todo.items new.todo.items

-- parts are numbered from 0 on
abbrev pub numbered_parts : List RawRecord → List NumberedEntry
numbered_parts parts = numbered_from 0 (entries_of parts)

-- these commands and parts are spelled, with an open gate behind each but the last
abbrev pub SpellsAll : {A : Type 0} → List NumberedRecord → List RawRecord → VecDeque (Vec ℕ) A → Type 0
SpellsAll commands parts todo = chunk_bytes todo.items ≡ chunks (all_numbered commands ++ numbered_parts parts)

-- the body of a record is within the limit
abbrev pub HasShortBody : RawRecord → Type 0
HasShortBody raw = length raw.body.items ≤ 4194304

abbrev pub HasShortRecord : NumberedRecord → Type 0
HasShortRecord found = HasShortBody found.raw

-- commands and parts that may be a checkpoint with that base
pub record MakeUpCheckpoint (base : ℕ) (records : List NumberedEntry) (images : List Entry) : Type 0 where
  pub low : base ≤ 4294967295
  pub some : 0 < length records
  pub few_commands : length records ≤ 4294967295
  pub few_parts : length images ≤ 4294967295
  pub commands : AreCommands 0 base records
  pub parts : All IsPartEntry images

-- the slot of that checkpoint
abbrev pub checkpoint_slot : (tag generation base : ℕ) → List NumberedEntry → List Entry → Slot
checkpoint_slot tag generation base commands parts = record {
  head = head_of Two tag;
  generation = generation;
  base = base;
  commands = commands;
  parts = parts;
  rest = [];
}

-- what fills the other slot with the first page that tells this, and these records
pub record IsSpelledFrom (told : SlotHead) (closed : Bool) (commands : List NumberedRecord) (parts : List RawRecord)
    (filler : Filler) : Type 0 where
  pub stage : filler.stage ≡ Waits
  pub closed_is : filler.closed ≡ closed
  pub generation : filler.generation ≡ told.generation
  pub base : filler.base ≡ told.base
  pub page : filler.page.items ≡ slot_header told
  pub todo : SpellsAll commands parts filler.todo
  pub at : filler.at ≡ 4097
