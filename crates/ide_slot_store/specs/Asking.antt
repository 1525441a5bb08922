-- What an engine on two disks does that is asked for a checkpoint.
use Rattle.std.specs.Prelude.{◌≡◌, ◌⊎◌, ◌<◌, ◌++◌, ℕ, Bool, true, false, List, [], ◌∷◌, Option, Some, None, Result, Ok, Err}
use Rattle.ide_disk.specs.declared.disk.Disk.{Ghosts}
use Rattle.ide_journal.specs.declared.version.Version.TheVariants.{One}
use Rattle.ide_slot_journal.specs.Stands.{IsCheckpointing, sides_of}
use Rattle.ide_slot_journal.specs.declared.journal.SlotJournal.{SlotJournal}
use Rattle.ide_slots.specs.Two.{SlotWriter}
use Rattle.ide_wire.specs.declared.refused.Refused.{Refused}
use Rattle.ide_wire.specs.declared.refused.Refused.TheVariants.{Limit, NoMemory}
use Rattle.ide_store.specs.Hands.{Batches, Happens}
use Rattle.ide_store.specs.Places.{OnTwoDisks}
use Rattle.ide_store.specs.Table.{Analysis, IsReached, MayDoAll, StoreAct, TableData, after_acts}
use Rattle.ide_store.specs.TableCalls.{IsRefusal, IsSealStop}
use Rattle.ide_store.specs.Versioned.{VersionedEntry}
use Rattle.ide_store.specs.World.{Begins}
use Rattle.ide_slot_store.specs.Engine.{AreAtWork, MayHappen, SlotWorld, after_events}
use Rattle.ide_slot_store.specs.Half.{IsPlanAllRefusal}
use Rattle.ide_slot_store.specs.Parts.{IsPartsStop}
use Rattle.ide_slot_store.specs.declared.engine.SlotEngine.{SlotEngine}
use Rattle.ide_slot_store.specs.declared.writer.SlotWriterHalf.{SlotWriterHalf}

-- a checkpoint would change what the disks hold: a sealed record stands at or past the base of the slot, or that is of the
-- first version
abbrev pub IsWorthACheckpoint : {D : Type 0} {G : Ghosts D} → SlotJournal D G → (sealed : ℕ) → Type 0
IsWorthACheckpoint journal sealed = (journal.base < sealed) ⊎ (journal.version ≡ One)

module _ {F L : Type 0} (a : Analysis F L) (tag : ℕ) where
  -- what changed is sealed, if anything did
  abbrev pub sealing : Option VersionedEntry → List (StoreAct a (OnTwoDisks tag))
  sealing None = []
  sealing (Some batch) = Batches batch ∷ []

  module _ {D : Type 0} {G : Ghosts D} (w : SlotWorld a tag) (table : TableData F) (writer : SlotWriterHalf D G) where
    -- what had changed was sealed, if anything had, and the halves are at work after that
    pub record DidSeal : Type 0 where
      pub batch : Option VersionedEntry
      pub can : MayDoAll a (OnTwoDisks tag) w (sealing batch)
      pub at_work : AreAtWork a tag (after_acts a (OnTwoDisks tag) w (sealing batch)) table writer

    -- what had changed was sealed, if anything had, and behind that a checkpoint began
    pub record DidBegin : Type 0 where
      pub batch : Option VersionedEntry
      pub work : SlotWriter
      pub can : MayDoAll a (OnTwoDisks tag) w (sealing batch ++ Happens (Begins work) ∷ [])
      pub at_work : AreAtWork a tag (after_acts a (OnTwoDisks tag) w (sealing batch ++ Happens (Begins work) ∷ [])) table writer

    -- a checkpoint began
    pub record DidPlan : Type 0 where
      pub work : SlotWriter
      pub can : MayHappen a tag w (Begins work ∷ [])
      pub at_work : AreAtWork a tag (after_events a tag w (Begins work ∷ [])) table writer

    -- what planning one comes to: it began; or none, since no program is loaded; or it is refused, and the halves stay at work
    pub data PlansTo : Result Bool Refused → Type 0 where
      did_plan : DidPlan → PlansTo (Ok true)
      had_no_program : table.core.graph ≡ None → AreAtWork a tag w table writer → PlansTo (Ok false)
      did_not : {refused : Refused} → AreAtWork a tag w table writer → PlansTo (Err refused)

    -- what asking for a checkpoint comes to: one begins; or none, since one was under way, or it would change nothing, or no
    -- program is loaded; or it is refused. What had changed may be sealed all the same
    pub data ComesTo (before : SlotWriterHalf D G) : Result Bool Refused → Type 0 where
      begins : DidBegin → ComesTo before (Ok true)
      was_under_way : IsCheckpointing before.journal → DidSeal → ComesTo before (Ok false)
      none_is_new : (IsWorthACheckpoint before.journal table.sealed → ⊥) → DidSeal → ComesTo before (Ok false)
      no_program : table.core.graph ≡ None → DidSeal → ComesTo before (Ok false)
      is_refused : {refused : Refused} → DidSeal → ComesTo before (Err refused)

  -- over each world that acts led to, and on which the halves were at work
  abbrev pub AsksOver : {D : Type 0} {G : Ghosts D} → (table new_table : TableData F) (old new : SlotWriterHalf D G) → Result Bool Refused → Type 0
  AsksOver table new_table old new result = (w : SlotWorld a tag) → IsReached a (OnTwoDisks tag) w
      → AreAtWork a tag w table old → ComesTo w new_table new old result

-- so it is of what the one engine has on its disks, and the other sealed
abbrev pub IsWorthAsking : {P D L F : Type 0} {G : Ghosts D} → (old new : SlotEngine P D L F G) → Type 0
IsWorthAsking old new = IsWorthACheckpoint old.writer.journal new.table.sealed

-- while one is under way, asking for another answers false, and changes nothing
abbrev pub AsksInVain : {P D L F : Type 0} {G : Ghosts D} → Result Bool Refused → (old new : SlotEngine P D L F G) → Type 0
AsksInVain result old new = old.table.failed ≡ false → IsCheckpointing old.writer.journal → (result ≡ Ok false) × (new ≡ old)

-- no disk is called
abbrev pub CallsNoDisk : {P D L F : Type 0} {G : Ghosts D} → (old new : SlotEngine P D L F G) → Type 0
CallsNoDisk old new = sides_of new.writer.journal ≡ sides_of old.writer.journal

module _ {F L : Type 0} (a : Analysis F L) {P D : Type 0} {G : Ghosts D} (old new : SlotEngine P D L F G) where
  -- over each world that acts led to, and on which the engine was at work
  abbrev pub SealsEngine : Type 0
  SealsEngine = (tag : ℕ) (w : SlotWorld a tag) → IsReached a (OnTwoDisks tag) w → AreAtWork a tag w old.table old.writer
      → DidSeal a tag w new.table new.writer

  abbrev pub PlansEngine : Result Bool Refused → Type 0
  PlansEngine result = (tag : ℕ) (w : SlotWorld a tag) → IsReached a (OnTwoDisks tag) w
      → AreAtWork a tag w old.table old.writer → PlansTo a tag w new.table new.writer result

  abbrev pub AsksEngine : Result Bool Refused → Type 0
  AsksEngine result = (tag : ℕ) → AsksOver a tag old.table new.table old.writer new.writer result

module _ {F L : Type 0} (a : Analysis F L) {P D : Type 0} {G : Ghosts D} where
  -- why not all is sealed and handed over: what changed is not sealed, or the writer's queue wants memory
  pub data IsSealAllStop (old : SlotEngine P D L F G) : Refused → Type 0 where
    not_sealed : {refused : Refused} → IsRefusal old.table (IsSealStop a old.table) refused → IsSealAllStop old refused
    no_queue : IsSealAllStop old NoMemory

  -- why no checkpoint of what the writer has is planned: its image is not given in parts, or the writer does not plan it
  pub data IsImageStop (old : SlotEngine P D L F G) : Refused → Type 0 where
    no_parts : {refused : Refused} → IsPartsStop a old.table refused → IsImageStop old refused
    no_plan : {refused : Refused} → IsPlanAllRefusal old.writer refused → IsImageStop old refused

  -- why none begins: the current slot is of the last generation; or not all is sealed and handed over; or, once it is, as the
  -- half that works is left, none is planned
  pub data IsCheckpointStop (old new : SlotEngine P D L F G) : Refused → Type 0 where
    last_generation : old.table.failed ≡ false → old.writer.journal.generation ≡ 4294967295 → IsCheckpointStop old new Limit
    not_all_sealed : {refused : Refused} → IsSealAllStop old refused → IsCheckpointStop old new refused
    no_image : {refused : Refused} (mid : SlotEngine P D L F G) → SealsEngine a old mid → new.table ≡ mid.table
        → mid.writer.journal ≡ old.writer.journal → IsImageStop mid refused → IsCheckpointStop old new refused
