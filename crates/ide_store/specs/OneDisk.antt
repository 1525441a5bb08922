-- A journal on one disk as a store.
use Rattle.std.specs.Prelude.{◌≡◌, ◌≢◌, ℕ, ◌+◌, ◌≤◌, List, [], ◌∷◌, ◌++◌, Option, Some, None, length, slice_get, take}
use Rattle.ide_disk.specs.Disk.{DiskState, CrashLeaves, settled, synced_now}
use Rattle.ide_journal.specs.Bytes.{Knows}
use Rattle.ide_journal.specs.Calls.{after_stage_call}
use Rattle.ide_journal.specs.Format.{Entry, Head, Holds, IsEntry, IsPages, after_gate, header}
use Rattle.ide_journal.specs.Lists.{HoldsWithOrWithout}
use Rattle.ide_journal.specs.Opening.{LeftOrSame}
use Rattle.ide_journal.specs.declared.stage.Stage.{Stage}
use Rattle.ide_journal.specs.declared.stage.Stage.TheVariants.{Idle, Begun, Written, BodySynced, GateWritten, Failed}
use Rattle.ide_store.specs.Store.{Store}

-- where the writer stands: at the gate behind the stored records, and how far the next one is
pub record Writer : Type 0 where
  pub gate : ℕ
  pub stage : Stage

-- what stands behind the gate of a record
abbrev pub tail_of : ℕ → Entry → List ℕ
tail_of number entry = after_gate number entry ++ 0 ∷ []

-- what is known of the disk: base is all before the gate, and of the next record, if there is one, its number
abbrev pub KnowsOf : Stage → List ℕ → ℕ → Option Entry → DiskState → Type 0
KnowsOf Idle base number next disk = disk ≡ settled (base ++ 0 ∷ [])
KnowsOf Failed base number next disk = ⊥
KnowsOf stage base number None disk = ⊥
KnowsOf stage base number (Some entry) disk = Knows stage base (tail_of number entry) disk

-- the writer stands behind the stored records, on a disk that has them
pub record IsLive (head : Head) (records : List Entry) (stored : ℕ) (work : Writer) (disk : DiskState) : Type 0 where
  pub pages : List ℕ
  pub whole : IsPages 0 (take stored records) pages
  pub some : stored ≤ length records
  pub few : length records ≤ 4294967295
  pub proper : (number : ℕ) (entry : Entry) → slice_get records number ≡ Some entry → IsEntry entry
  pub gate : work.gate ≡ length (header head ++ pages)
  pub knows : KnowsOf work.stage (header head ++ pages) stored (slice_get records stored) disk

-- the stage after a call that does not store the record
abbrev pub next_stage : Stage → Stage
next_stage Idle = Written
next_stage Begun = Written
next_stage Written = BodySynced
next_stage BodySynced = GateWritten
next_stage GateWritten = Idle
next_stage Failed = Failed

-- a good call that does not store the next record yet
pub record DoesGoodCall (records : List Entry) (stored : ℕ) (work : Writer) (disk : DiskState) (next : Writer) (after : DiskState) : Type 0 where
  pub entry : Entry
  pub under_way : slice_get records stored ≡ Some entry
  pub more : work.stage ≢ GateWritten
  pub work_is : next ≡ record work { stage = next_stage work.stage }
  pub disk_is : after ≡ after_stage_call work.stage work.gate (tail_of stored entry) disk

-- one that stores it
pub record Stores (records : List Entry) (stored : ℕ) (work : Writer) (disk : DiskState) (next : Writer) (after : DiskState) : Type 0 where
  pub entry : Entry
  pub under_way : slice_get records stored ≡ Some entry
  pub last : work.stage ≡ GateWritten
  pub work_is : next ≡ record { gate = work.gate + length (tail_of stored entry); stage = Idle }
  pub disk_is : after ≡ synced_now disk

-- a failed one: whatever a crash leaves then has the stored records, or these and the next
pub record Fails (head : Head) (records : List Entry) (stored : ℕ) (after : DiskState) : Type 0 where
  pub entry : Entry
  pub under_way : slice_get records stored ≡ Some entry
  pub each : (left : List ℕ) → CrashLeaves after left → HoldsWithOrWithout head (take stored records) entry left
  pub possible : CrashLeaves after after.now

-- an opening: the records that it found are left, a closed gate, and nothing behind it
pub record Opens (head : Head) (disk : DiskState) (work : Writer) (after : DiskState) : Type 0 where
  pub found : List Entry
  pub held : Holds head found disk.now
  pub pages : List ℕ
  pub whole : IsPages 0 found pages
  pub work_is : work ≡ record { gate = length (header head ++ pages); stage = Idle }
  pub disk_is : after ≡ settled (header head ++ pages ++ 0 ∷ [])

-- one that stops within: a crash leaves what one before it could, or a file of the same records
pub record Stops (disk after : DiskState) : Type 0 where
  pub each : (left : List ℕ) → CrashLeaves after left → LeftOrSame disk left
  pub possible : CrashLeaves after after.now

abbrev pub one_disk : Head → Store Entry
one_disk head = record {
  Disks = DiskState;
  Left = List ℕ;
  Work = Writer;
  reads = λ disk. disk.now;
  crashed = settled;
  Leaves = CrashLeaves;
  Holds = Holds head;
  Fits = λ work number entry. IsEntry entry × (number ≤ 4294967294);
  Live = IsLive head;
  Calls = DoesGoodCall;
  Stores = Stores;
  Fails = λ records stored work disk after. Fails head records stored after;
  Begins = λ records work next. ⊥;
  Opens = Opens head;
  Stops = Stops;
}
