-- What the desks do that are lent for a checkpoint.
use Rattle.std.specs.Prelude.{◌≡◌, ◌++◌, Bool, true, List, [], ◌∷◌, None}
use Rattle.ide_board.specs.Records.{Marked, TableView, WriterView}
use Rattle.ide_disk.specs.declared.disk.Disk.{Ghosts}
use Rattle.ide_journal.specs.declared.version.Version.TheVariants.{Two}
use Rattle.ide_slot_journal.specs.Stands.{IsCheckpointing}
use Rattle.ide_slot_store.specs.Asking.{IsWorthACheckpoint}
use Rattle.ide_slot_store.specs.Half.{HasNoCommand, IsPlanAllRefusal}
use Rattle.ide_slot_store.specs.Parts.{IsPartsStop}
use Rattle.ide_slot_store.specs.declared.writer.SlotWriterHalf.{SlotWriterHalf}
use Rattle.ide_store.specs.Table.{Analysis, TableData}
use Rattle.ide_store.specs.TableCalls.{IsSealStop}
use Rattle.ide_store.specs.Versioned.{VersionedEntry}
use Rattle.ide_desks.specs.Desks.{IsAllStored}
use Rattle.ide_wire.specs.declared.refused.Refused.{Refused}
use Rattle.ide_wire.specs.declared.refused.Refused.TheVariants.{Failed, Limit}

-- what changed is sealed for no client, if anything did
pub data SealsForNone (before after : List (Marked VersionedEntry)) : Type 0 where
  none_sealed : after ≡ before → SealsForNone before after
  one_sealed : (batch : VersionedEntry) → after ≡ before ++ (batch, None) ∷ [] → SealsForNone before after

module _ {F : Type 0} {D : Type 0} {G : Ghosts D} where
  -- one begins: it would change what the disks hold; all that is sealed is handed over, and what is sealed from then on is spelled
  -- in the second version
  pub record BeginsCheckpoint (old : SlotWriterHalf D G) (table : TableData F) (seat : TableView VersionedEntry)
      (writer : WriterView VersionedEntry) : Type 0 where
    pub worth : IsWorthACheckpoint old.journal table.sealed
    pub handed : writer.taken ≡ seat.sealed
    pub version : table.version ≡ Two

  -- why none begins: one is under way; or the writer has not stored all that it took; or the disks would hold the same; or there is
  -- no command among the records
  pub data FindsNoCheckpoint (old : SlotWriterHalf D G) (writer : WriterView VersionedEntry) (table : TableData F) : Type 0 where
    under_way : IsCheckpointing old.journal → FindsNoCheckpoint old writer table
    some_wait : ¬ (IsAllStored writer) → FindsNoCheckpoint old writer table
    nothing_new : ¬ (IsWorthACheckpoint old.journal table.sealed) → FindsNoCheckpoint old writer table
    no_command : (mid : SlotWriterHalf D G) → mid.journal ≡ old.journal → HasNoCommand mid → FindsNoCheckpoint old writer table

module _ {F L : Type 0} (a : Analysis F L) {D : Type 0} {G : Ghosts D} where
  -- why none is planned: a call of a disk failed, of which one of the desks is told; or the image is not given in parts; or the
  -- writer, with all that is sealed, does not plan it
  pub data IsPlanStop (table : TableData F) (old : SlotWriterHalf D G) (failed : Bool) : Refused → Type 0 where
    table_told : table.failed ≡ true → IsPlanStop table old failed Failed
    writer_told : failed ≡ true → IsPlanStop table old failed Failed
    no_parts : {refused : Refused} → IsPartsStop a table refused → IsPlanStop table old failed refused
    not_planned : {refused : Refused} (mid : SlotWriterHalf D G) → mid.journal ≡ old.journal → IsPlanAllRefusal mid refused
        → IsPlanStop table old failed refused

  -- why none begins: a call of a disk failed; or the current slot is of the last generation; or what changed is not sealed; or, as
  -- that leaves the half that works, none is planned
  pub data IsAskStop (before after : TableData F) (old : SlotWriterHalf D G) (failed : Bool) : Refused → Type 0 where
    table_failed : before.failed ≡ true → IsAskStop before after old failed Failed
    writer_failed : failed ≡ true → IsAskStop before after old failed Failed
    last_generation : old.journal.generation ≡ 4294967295 → IsAskStop before after old failed Limit
    not_sealed : {refused : Refused} → IsSealStop a before refused → IsAskStop before after old failed refused
    no_plan : {refused : Refused} → IsPlanStop after old failed refused → IsAskStop before after old failed refused
