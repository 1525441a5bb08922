-- A journal as the writer of a store on one disk: its calls are the events of the store.
use Rattle.std.specs.Prelude.{◌≡◌, ◌≢◌, ◌⊎◌, ℕ, ◌≤◌, List, Some, length, slice_get, take}
use Rattle.ide_disk.specs.Disk.{CrashLeaves}
use Rattle.ide_disk.specs.declared.disk.Disk.{Ghosts}
use Rattle.ide_journal.specs.Calls.{MakesItsCall}
use Rattle.ide_journal.specs.Format.{Entry, Head, IsEntry}
use Rattle.ide_journal.specs.Lists.{IsAtRest, IsUnderWay}
use Rattle.ide_journal.specs.Phases.{LeadsTo}
use Rattle.ide_journal.specs.Records.{LeavesRecords}
use Rattle.ide_journal.specs.Stands.{HasFailed}
use Rattle.ide_journal.specs.declared.journal.Journal.{Journal}
use Rattle.ide_journal.specs.declared.stage.Phase.{Phase}
use Rattle.ide_journal.specs.declared.stage.Phase.TheVariants.{Stored}
use Rattle.ide_store.specs.OneDisk.{DoesGoodCall, Fails, IsLive, Stores, Writer}

module _ {D : Type 0} {G : Ghosts D} where
  -- where it stands
  abbrev pub work_of : Journal D G → Writer
  work_of journal = record { gate = journal.gate; stage = journal.stage }

  -- of these records so many are stored, and the next one is under way
  pub record HasNext (head : Head) (records : List Entry) (stored : ℕ) (journal : Journal D G) : Type 0 where
    pub entry : Entry
    pub next : slice_get records stored ≡ Some entry
    pub under_way : IsUnderWay head (take stored records) entry journal
    pub whole : HasFailed journal → ⊥

  -- the journal stands behind so many of these records, which can all be stored, with the next one under way or none
  pub record StandsBehind (head : Head) (records : List Entry) (stored : ℕ) (journal : Journal D G) : Type 0 where
    pub some : stored ≤ length records
    pub few : length records ≤ 4294967295
    pub proper : (number : ℕ) (entry : Entry) → slice_get records number ≡ Some entry → IsEntry entry
    pub stands : IsAtRest head (take stored records) journal ⊎ HasNext head records stored journal

-- what a read gives is something that a crash may leave, and what a crash leaves now it may have left since the moment of before
pub record IsHonestAfter {D : Type 0} (G : Ghosts D) (old new : D) : Type 0 where
  pub possible : CrashLeaves (G.state new) (G.state new).now
  pub counts_now : (left : List ℕ) → CrashLeaves (G.state new) left → G.left_since new (G.moment old) left

-- a journal that stands so is a writer of the store; a good call of it is that of the store, one that stores the record
-- if it is the last of them; and so is a failed one
pub record WritesStore {D : Type 0} (G : Ghosts D) (head : Head) (records : List Entry) (stored : ℕ) : Type 0 where
  pub live : (journal : Journal D G) → StandsBehind head records stored journal
      → IsLive head records stored (work_of journal) (G.state journal.disk)
  pub calls : (old new : Journal D G) (phase : Phase) → HasNext head records stored old → LeadsTo old.stage new.stage phase → phase ≢ Stored
      → MakesItsCall old new → DoesGoodCall records stored (work_of old) (G.state old.disk) (work_of new) (G.state new.disk)
  pub stores : (old new : Journal D G) → HasNext head records stored old → LeadsTo old.stage new.stage Stored
      → MakesItsCall old new → Stores records stored (work_of old) (G.state old.disk) (work_of new) (G.state new.disk)
  pub fails : (old new : Journal D G) → HasNext head records stored old → LeavesRecords old new → IsHonestAfter G old.disk new.disk
      → Fails head records stored (G.state new.disk)

abbrev pub JournalsWriteStores : {D : Type 0} → Ghosts D → Type 0
JournalsWriteStores G = (head : Head) (records : List Entry) (stored : ℕ) → WritesStore G head records stored
