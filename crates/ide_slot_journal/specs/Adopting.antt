-- A closed slot beside a store that stands on one disk.
use Rattle.std.specs.Prelude.{◌≡◌, ◌≢◌, ◌↔◌, ℕ, ◌<◌, Bool, IsTrue, List, length, slice_index, take}
use Rattle.ide_disk.specs.OneCall.{FailsOnce}
use Rattle.ide_disk.specs.declared.disk.Disk.{Ghosts}
use Rattle.ide_journal.specs.Format.{head_of}
use Rattle.ide_journal.specs.Moments.{OnlyLooks}
use Rattle.ide_journal.specs.declared.version.Version.TheVariants.{Two}
use Rattle.ide_slots.specs.Reading.{Tells}
use Rattle.ide_slots.specs.Slot.{SlotHead}
use Rattle.ide_slots.specs.Two.{first_disk}
use Rattle.ide_wire.specs.declared.refused.Refused.{Refused}
use Rattle.ide_wire.specs.declared.refused.Refused.TheVariants as refusals

-- the first page and the gate behind it are of an open slot of a generation after the first: a checkpoint stands there
pub record IsCheckpointFront (front : List ℕ) : Type 0 where
  pub told : SlotHead
  pub tells : Tells told front
  pub later : 0 < told.generation
  pub opened : slice_index front 4096 ≢ 0

-- and so does a file begin
pub record HasCheckpoint (bytes : List ℕ) : Type 0 where
  pub long : 4096 < length bytes
  pub front : IsCheckpointFront (take 4097 bytes)

-- this tells whether what a read of the disk gives does
abbrev pub TellsCheckpoint : {D : Type 0} → Ghosts D → D → Bool → Type 0
TellsCheckpoint G disk has = IsTrue has ↔ HasCheckpoint (G.state disk).now

-- the disk has a closed slot with that tag, and nothing else
abbrev pub HasClosedSlot : {D : Type 0} → Ghosts D → (tag : ℕ) → D → Type 0
HasClosedSlot G tag disk = G.state disk ≡ first_disk (head_of Two tag)

-- why no closed slot is put on a disk: a checkpoint stands there, and nothing is changed; want of memory, where nothing is
-- either; or a call of the disk failed
pub data IsClosingRefusal {D : Type 0} (G : Ghosts D) (old new : D) : Refused → Type 0 where
  closing_already : OnlyLooks G old new → (G.honest old → HasCheckpoint (G.state old).now) → IsClosingRefusal G old new refusals.Already
  closing_memory : OnlyLooks G old new → IsClosingRefusal G old new refusals.NoMemory
  closing_device : FailsOnce G old new → IsClosingRefusal G old new refusals.Disk
