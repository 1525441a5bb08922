-- How a journal stands on its two disks.
use Rattle.std.specs.Prelude.{◌≡◌, ◌≢◌, ℕ, ◌+◌, ◌≤◌, Bool, List, Option, Some, None, Result, length, map}
use Rattle.std.specs.Global.{Vec}
use Rattle.ide_disk.specs.Disk.{DiskState}
use Rattle.ide_disk.specs.OneCall.{MakesCall}
use Rattle.ide_disk.specs.declared.disk.Disk.{Ghosts}
use Rattle.ide_journal.specs.Bytes.{EndsAt}
use Rattle.ide_journal.specs.Format.{Entry}
use Rattle.ide_slots.specs.Filling.{Filling, chunks, filled_by, with_gate}
use Rattle.ide_slots.specs.Sides.{Sides, two_sides}
use Rattle.ide_slots.specs.Slot.{Slot, records_of, slot_count, slot_head, slot_header}
use Rattle.ide_slots.specs.Two.{Checkpoint, SlotWriter, StandsTwo}
use Rattle.ide_slots.specs.TwoCalls.{TellsClosed}
use Rattle.ide_slot_journal.specs.Stages.{IsFillingAt, IsTurnAt, checkpoint_at, filling_at, stage_of}
use Rattle.ide_slot_journal.specs.declared.filler.Filler.{Filler}
use Rattle.ide_slot_journal.specs.declared.journal.SlotJournal.{SlotJournal}
use Rattle.ide_slot_journal.specs.declared.stage.FillStage.{FillStage}
use Rattle.ide_slot_journal.specs.declared.stage.FillStage.TheVariants as fills
use Rattle.ide_slot_journal.specs.declared.stage.RecordStage.TheVariants.{Failed, Idle, Waits}

-- what is still to be written behind the first page
abbrev pub todo_of : Filler → List (List ℕ)
todo_of filler = map (λ (chunk : Vec ℕ). chunk.items) filler.todo.items

abbrev pub filling_of : Filler → Filling
filling_of filler = filling_at filler.stage filler.closed filler.at (todo_of filler)

-- where the checkpoint with that slot stands
abbrev pub checkpoint_of : Slot → Filler → Checkpoint
checkpoint_of other filler = checkpoint_at filler.stage other (filling_of filler)

-- the journal as a writer, with that slot for its checkpoint
abbrev pub slot_writer : {D : Type 0} {G : Ghosts D} → Slot → SlotJournal D G → SlotWriter
slot_writer other journal = record {
  side = journal.side;
  version = journal.version;
  generation = journal.generation;
  gate = journal.gate;
  stage = stage_of journal.stage;
  checkpoint = checkpoint_of other journal.filler;
}

-- its disks, A and B
abbrev pub sides_of : {D : Type 0} {G : Ghosts D} → SlotJournal D G → Sides D
sides_of journal = two_sides journal.side journal.current journal.other

abbrev pub pair_of : {D : Type 0} → Sides D → D × D
pair_of sides = (sides.a, sides.b)

-- what each of them holds
abbrev pub disks_of : {D : Type 0} {G : Ghosts D} → SlotJournal D G → Sides DiskState
disks_of {G = G} journal = two_sides journal.side (G.state journal.current) (G.state journal.other)

-- the next record under that number, if there is one, is spelled
abbrev pub HasSpelledNext : {D : Type 0} {G : Ghosts D} → ℕ → Option Entry → SlotJournal D G → Type 0
HasSpelledNext number None journal = (journal.stage ≡ Idle) × (journal.next ≡ number)
HasSpelledNext number (Some entry) journal =
    (journal.stage ≢ Idle) × (journal.next ≡ number + 1) × (journal.tail.items ≡ with_gate 0 (number, entry))

-- the bytes of the slot that are still to be written, and where
abbrev pub HasTodo : FillStage → Slot → ℕ → List (List ℕ) → Type 0
HasTodo fills.Rests other at todo = Unit {0}
HasTodo fills.Waits other at todo = (todo ≡ chunks (records_of other)) × (at ≡ 4097)
HasTodo fills.Settles other at todo = (todo ≡ chunks (records_of other)) × (at ≡ 4097)
HasTodo fills.Trims other at todo = (todo ≡ chunks (records_of other)) × (at ≡ 4097)
HasTodo fills.Heads other at todo = (todo ≡ chunks (records_of other)) × (at ≡ 4097)
HasTodo fills.Fills other at todo = Unit {0}
HasTodo fills.OpensGate other at todo = at ≡ 4097 + length (filled_by other)
HasTodo fills.Lasts other at todo = at ≡ 4097 + length (filled_by other)

-- a checkpoint, if there is one, is that with this slot
pub record FillsWith (other : Slot) (filler : Filler) : Type 0 where
  pub generation : filler.generation ≡ other.generation
  pub base : filler.base ≡ other.base
  pub page : filler.page.items ≡ slot_header (slot_head other)
  pub todo : HasTodo filler.stage other filler.at (todo_of filler)

-- whether the first gate of the other slot is closed is known, while no checkpoint makes its calls
abbrev pub KnowsClosed : FillStage → Bool → List ℕ → Type 0
KnowsClosed fills.Rests closed bytes = TellsClosed closed bytes
KnowsClosed fills.Waits closed bytes = TellsClosed closed bytes
KnowsClosed fills.Settles closed bytes = Unit {0}
KnowsClosed fills.Trims closed bytes = Unit {0}
KnowsClosed fills.Heads closed bytes = Unit {0}
KnowsClosed fills.Fills closed bytes = Unit {0}
KnowsClosed fills.OpensGate closed bytes = Unit {0}
KnowsClosed fills.Lasts closed bytes = Unit {0}

-- the journal stands on its disks with this current slot, this next record, if any, and that slot for its checkpoint,
-- if any
pub record StandsOn {D : Type 0} {G : Ghosts D} (slot : Slot) (next : Option Entry) (other : Slot)
    (journal : SlotJournal D G) : Type 0 where
  pub two : StandsTwo slot next (slot_writer other journal) (disks_of journal)
  pub version : journal.version ≡ slot.head.version
  pub tag : journal.tag ≡ slot.head.tag
  pub base : journal.base ≡ slot.base
  pub count : journal.count ≡ slot_count slot
  pub has_next : HasSpelledNext (slot_count slot) next journal
  pub end : EndsAt (stage_of journal.stage) journal.end (journal.gate + length journal.tail.items)
  pub fills_with : journal.filler.stage ≢ fills.Rests → FillsWith other journal.filler
  pub knows_closed : KnowsClosed journal.filler.stage journal.filler.closed (G.state journal.other).now

-- there is no next record
abbrev pub HasNoNext : {D : Type 0} {G : Ghosts D} → SlotJournal D G → Type 0
HasNoNext journal = journal.stage ≡ Idle

-- a disk call failed
abbrev pub HasFaulted : {D : Type 0} {G : Ghosts D} → SlotJournal D G → Type 0
HasFaulted journal = journal.stage ≡ Failed

-- a disk call is made, if none failed before
abbrev pub CallsIfNoFault : {D T E : Type 0} {G : Ghosts D} → SlotJournal D G → Result T E → (old new : D) → Type 0
CallsIfNoFault {G = G} journal result old new = (HasFaulted journal → ⊥) → MakesCall G result old new

-- the next record, where nothing of it is written, fits behind the gate on its disk
abbrev pub HasRoomToWrite : {D : Type 0} {G : Ghosts D} → SlotJournal D G → Type 0
HasRoomToWrite {G = G} journal = journal.stage ≡ Waits → journal.gate + 1 + length journal.tail.items ≤ G.size journal.current

-- a checkpoint is planned, or makes its calls
abbrev pub IsCheckpointing : {D : Type 0} {G : Ghosts D} → SlotJournal D G → Type 0
IsCheckpointing journal = journal.filler.stage ≢ fills.Rests

-- it is the turn of records, and of a checkpoint
abbrev pub IsTurn : {D : Type 0} {G : Ghosts D} → SlotJournal D G → Type 0
IsTurn journal = IsTurnAt journal.filler.stage journal.filler.base journal.count

abbrev pub IsFilling : {D : Type 0} {G : Ghosts D} → SlotJournal D G → Type 0
IsFilling journal = IsFillingAt journal.filler.stage journal.filler.base journal.count

-- how many records are stored
abbrev pub records_stored : {D : Type 0} {G : Ghosts D} → SlotJournal D G → ℕ
records_stored journal = journal.count

-- both disks are honest
abbrev pub AreHonest : {D : Type 0} {G : Ghosts D} → SlotJournal D G → Type 0
AreHonest {G = G} journal = G.honest journal.current × G.honest journal.other
