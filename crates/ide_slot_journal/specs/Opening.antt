-- What an opening of two disks finds and leaves.
use Rattle.std.specs.Prelude.{◌≡◌, ◌⊎◌, ℕ, ◌<◌, ◌≤◌, Bool, List, [], ◌∷◌, ◌++◌, length, take, Result, Err, IfErr, IfOk, OnErr, OnOk}
use Rattle.ide_disk.specs.Disk.{CrashLeaves, DiskState, settled}
use Rattle.ide_disk.specs.OneCall.{FailsOnce}
use Rattle.ide_disk.specs.declared.disk.Disk.{Ghosts}
use Rattle.ide_journal.specs.Bytes.{IsBefore}
use Rattle.ide_journal.specs.Moments.{LeavesOnly}
use Rattle.ide_slots.specs.Current.{HasNoCurrent, IsCurrent}
use Rattle.ide_slots.specs.DiskCalls.{LeavesNoMoreThan}
use Rattle.ide_slots.specs.Loading.{ClosesIn, HasRecords, slot_of}
use Rattle.ide_slots.specs.Reading.{Tells}
use Rattle.ide_slots.specs.Refusals.{IsChoiceRefusal, IsSlotRefusal}
use Rattle.ide_slots.specs.Sides.{Sides, off}
use Rattle.ide_slots.specs.Slot.{HoldsSlot, IsFront, IsSlot, Slot, SlotHead}
use Rattle.ide_slots.specs.TwoCalls.{TellsClosed}
use Rattle.ide_slots.specs.declared.reading.LoadedSlot.{LoadedSlot}
use Rattle.ide_slots.specs.declared.side.Side.{Side}
use Rattle.ide_wire.specs.declared.refused.Refused.{Refused}
use Rattle.ide_wire.specs.declared.refused.Refused.TheVariants as refusals

-- so does what a read of the disk gives begin: the first page, and the gate behind it
abbrev pub HasFront : {D : Type 0} → Ghosts D → D → List ℕ → Type 0
HasFront G disk front = front ≡ take 4097 (G.state disk).now

-- what a read of the old disk gives is on the new one
abbrev pub SyncsAll : {D : Type 0} → Ghosts D → (old new : D) → Type 0
SyncsAll G old new = G.state new ≡ settled (G.state old).now

-- why the beginning of a disk is not read: a call of the disk failed, or its file is too short for a slot
pub data IsLookRefusal (bytes : List ℕ) : Refused → Type 0 where
  look_device : IsLookRefusal bytes refusals.Disk
  look_short : length bytes ≤ 4096 → IsLookRefusal bytes refusals.NotAStore

-- the slot on that side is the current one, with that tag, and this tells whether the first gate of the other is closed
pub record IsChosenWith (tag : ℕ) (left : Sides (List ℕ)) (side : Side) (closed : Bool) : Type 0 where
  pub told : SlotHead
  pub current : IsCurrent side told left
  pub tag_is : told.head.tag ≡ tag
  pub tells : TellsClosed closed (off side left)

-- why none is chosen: a call of a disk failed, or none is current with that tag
pub data IsChoosingRefusal (tag : ℕ) (left : Sides (List ℕ)) : Refused → Type 0 where
  choosing_device : IsChoosingRefusal tag left refusals.Disk
  choosing_slot : {refused : Refused} → IsChoiceRefusal tag left refused → IsChoosingRefusal tag left refused

-- what each of two disks gives a read
abbrev pub now_of : {D : Type 0} → Ghosts D → D → D → Sides (List ℕ)
now_of G a b = record { a = (G.state a).now; b = (G.state b).now }

-- of honest disks, the side that is chosen is that of the current slot
abbrev pub ChoosesSide : {D E : Type 0} → Ghosts D → (tag : ℕ) → Result (Side × Bool) E → (a b : D) → Type 0
ChoosesSide G tag result a b = G.honest a → G.honest b
    → IfOk result (λ pair. IsChosenWith tag (now_of G a b) pair.0 pair.1)

-- and where none is chosen, this is why
abbrev pub RefusesSide : {D T : Type 0} → Ghosts D → (tag : ℕ) → Result T Refused → (a b : D) → Type 0
RefusesSide G tag result a b = G.honest a → G.honest b → IfErr result (IsChoosingRefusal tag (now_of G a b))

-- the tag of the current slot
pub record IsCurrentTag (left : Sides (List ℕ)) (tag : ℕ) : Type 0 where
  pub side : Side
  pub told : SlotHead
  pub current : IsCurrent side told left
  pub tag_is : told.head.tag ≡ tag

-- why none is told: a call of a disk failed, or no slot is current
pub data IsTagRefusal (left : Sides (List ℕ)) : Refused → Type 0 where
  tag_device : IsTagRefusal left refusals.Disk
  tag_none : HasNoCurrent left → IsTagRefusal left refusals.NotAStore

-- of honest disks, the tag that is told is that of the current slot
abbrev pub TellsTag : {D : Type 0} → Ghosts D → Result ℕ Refused → (a b : D) → Type 0
TellsTag G result a b = G.honest a → G.honest b → IfOk result (IsCurrentTag (now_of G a b))

-- and where none is told, this is why
abbrev pub RefusesTag : {D T : Type 0} → Ghosts D → Result T Refused → (a b : D) → Type 0
RefusesTag G result a b = G.honest a → G.honest b → IfErr result (IsTagRefusal (now_of G a b))

-- no call of either failed at Ok, and one of one of them did where the refusal is the disk's
pub record CountsFaultsOfTwo {D T : Type 0} (G : Ghosts D) (result : Result T Refused) (a b new_a new_b : D) : Type 0 where
  pub ok : OnOk result ((G.failures new_a ≡ G.failures a) × (G.failures new_b ≡ G.failures b))
  pub fault : result ≡ Err refusals.Disk → FailsOnce G a new_a ⊎ FailsOnce G b new_b

-- a slot that was read is whole, whatever the disk
pub record IsWholeSlot (loaded : LoadedSlot) : Type 0 where
  pub records : HasRecords loaded
  pub proper : IsSlot (slot_of loaded)
  pub behind : 4096 ≤ loaded.gate

-- these bytes hold it
pub record IsReadFrom (bytes : List ℕ) (loaded : LoadedSlot) : Type 0 where
  pub held : HoldsSlot (slot_of loaded) bytes
  pub closes : ClosesIn bytes loaded

-- why a slot whose first page tells that is not read: a call of the disk failed, or what its file has
pub data IsReadRefusal (told : SlotHead) (bytes : List ℕ) : Refused → Type 0 where
  read_device : IsReadRefusal told bytes refusals.Disk
  read_file : {refused : Refused} → IsSlotRefusal told bytes refused → IsReadRefusal told bytes refused

-- a file with a first page that tells this, and its first gate
pub record BeginsWith (told : SlotHead) (bytes : List ℕ) : Type 0 where
  pub tells : Tells told bytes
  pub long : 4096 < length bytes

-- wherever a file begins so, this is why it is not read
abbrev pub RefusesRead : List ℕ → Refused → Type 0
RefusesRead bytes refused = (told : SlotHead) → BeginsWith told bytes → IsReadRefusal told bytes refused

-- the same slot, cut behind its closed gate, or not yet
pub record IsCutSlot (bytes left : List ℕ) : Type 0 where
  pub slot : Slot
  pub front : List ℕ
  pub whole : IsFront slot front
  pub was : IsBefore front bytes
  pub is : IsBefore front left

-- what a crash of the disk may have left, or the slot that a read gives
abbrev pub LeftOrCut : DiskState → List ℕ → Type 0
LeftOrCut disk left = CrashLeaves disk left ⊎ IsCutSlot disk.now left

-- all that a read gives is on the disk
abbrev pub IsAllSynced : {D : Type 0} → Ghosts D → D → Type 0
IsAllSynced G disk = G.state disk ≡ settled (G.state disk).now

-- a crash at any moment leaves no more than that
abbrev pub LeavesCut : {D : Type 0} → Ghosts D → D → D → Type 0
LeavesCut G old new = LeavesOnly G old new (LeftOrCut (G.state old))

-- so it is where the disk is honest, and all that a read gives is on it
abbrev pub OnlyCuts : {D : Type 0} → Ghosts D → (old new : D) → Type 0
OnlyCuts G old new = G.honest old → IsAllSynced G old → LeavesCut G old new

-- an opening stopped while it cut the slot that a read gave: a crash leaves that slot, cut behind its closed gate or not yet
pub record StopsCutting (old new : DiskState) : Type 0 where
  pub slot : Slot
  pub front : List ℕ
  pub whole : IsFront slot front
  pub was : IsBefore front old.now
  pub is : (left : List ℕ) → CrashLeaves new left → IsBefore front left
  pub possible : CrashLeaves new new.now

-- it stopped before it cut, or then
abbrev pub StopsOne : DiskState → DiskState → Type 0
StopsOne old new = LeavesNoMoreThan old new ⊎ StopsCutting old new

-- so a refused one did, where the disk was honest, and all that a read gave was on it
abbrev pub StopsIfRefused : {D T E : Type 0} → Ghosts D → Result T E → (old new : D) → Type 0
StopsIfRefused G result old new = G.honest old → IsAllSynced G old → OnErr result (StopsOne (G.state old) (G.state new))

-- the slot that was read was on the one disk, and is all that the other has
pub record IsRecoveredSlot {D : Type 0} (G : Ghosts D) (old new : D) (loaded : LoadedSlot) : Type 0 where
  pub read : IsReadFrom (G.state old).now loaded
  pub after : G.state new ≡ settled (take loaded.gate (G.state old).now ++ 0 ∷ [])

-- so it is where the disk was honest, and all that a read gave was on it
abbrev pub RecoversSlot : {D E : Type 0} → Ghosts D → Result LoadedSlot E → (old new : D) → Type 0
RecoversSlot G result old new = G.honest old → IsAllSynced G old → IfOk result (IsRecoveredSlot G old new)
