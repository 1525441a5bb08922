-- What an opening of two disks gives.
use Rattle.std.specs.Prelude.{◌≡◌, ◌⊎◌, ℕ, Bool, List, [], ◌∷◌, ◌++◌, None, Result, Ok, Err, IfOk, length}
use Rattle.std.specs.Global.{Vec}
use Rattle.ide_disk.specs.Disk.{DiskState, settled}
use Rattle.ide_disk.specs.OneCall.{FailsOnce}
use Rattle.ide_disk.specs.declared.disk.Disk.{Ghosts}
use Rattle.ide_journal.specs.Bytes.{IsBefore}
use Rattle.ide_slots.specs.Current.{IsCurrent}
use Rattle.ide_slots.specs.Records.{all_numbered}
use Rattle.ide_slots.specs.Refusals.{IsChoiceRefusal, IsSlotRefusal}
use Rattle.ide_slots.specs.Sides.{Shows, Sides, on}
use Rattle.ide_slots.specs.Slot.{HoldsSlot, IsFront, Slot, SlotHead, records_of, slot_count}
use Rattle.ide_slots.specs.Two.{reads_two}
use Rattle.ide_slots.specs.TwoCalls.{OpensTwo, StopsTwo}
use Rattle.ide_slots.specs.declared.record.NumberedRecord.{NumberedRecord}
use Rattle.ide_slots.specs.declared.side.Side.{Side}
use Rattle.ide_wire.specs.declared.refused.Refused.{Refused}
use Rattle.ide_wire.specs.declared.refused.Refused.TheVariants as refusals
use Rattle.ide_slot_journal.specs.Moments.{LeavesOnlyTwo}
use Rattle.ide_slot_journal.specs.Opening.{IsAllSynced, RefusesRead, now_of}
use Rattle.ide_slot_journal.specs.Stands.{StandsOn, disks_of, sides_of, slot_writer}
use Rattle.ide_slot_journal.specs.declared.journal.SlotJournal.{SlotJournal}
use Rattle.ide_slot_journal.specs.declared.stage.FillStage.TheVariants.{Rests}
use Rattle.ide_slot_journal.specs.declared.stage.RecordStage.TheVariants.{Idle}

abbrev pub disk_sides : {D : Type 0} → D → D → Sides D
disk_sides a b = record { a = a; b = b }

-- what two disks hold
abbrev pub states_of : {D : Type 0} → Ghosts D → D → D → Sides DiskState
states_of G a b = record { a = G.state a; b = G.state b }

-- the disks A and B after an opening, in the journal or beside the refusal
abbrev pub sides_left : {D R : Type 0} {G : Ghosts D} → Result (SlotJournal D G × R) (Refused × D × D) → Sides D
sides_left (Ok pair) = sides_of pair.0
sides_left (Err all) = record { a = all.1; b = all.2 }

-- the one of them on that side
abbrev pub disk_left : {D R : Type 0} {G : Ghosts D} → Side → Result (SlotJournal D G × R) (Refused × D × D) → D
disk_left {R = R} {G = G} side result = on side (sides_left {R = R} {G = G} result)

-- the slot that the disk held is all that the current disk has, and the journal is that of its writer
pub record ResumesSlot {D : Type 0} {G : Ghosts D} (current : D) (journal : SlotJournal D G) (found : List NumberedRecord)
    : Type 0 where
  pub slot : Slot
  pub front : List ℕ
  pub held : HoldsSlot slot (G.state current).now
  pub records : records_of slot ≡ all_numbered found
  pub whole : IsFront slot front
  pub was : IsBefore front (G.state current).now
  pub disk : G.state journal.current ≡ settled (front ++ 0 ∷ [])
  pub gate : journal.gate ≡ length front
  pub generation : journal.generation ≡ slot.generation
  pub base : journal.base ≡ slot.base
  pub version : journal.version ≡ slot.head.version
  pub tag : journal.tag ≡ slot.head.tag
  pub count : journal.count ≡ slot_count slot

-- so it is where the disk is honest, and all that a read gives is on it
abbrev pub Resumes : {D E : Type 0} {G : Ghosts D} → (current : D) → Result (SlotJournal D G × Vec NumberedRecord) E → Type 0
Resumes {G = G} current result = G.honest current → IsAllSynced G current
    → IfOk result (λ pair. ResumesSlot current pair.0 pair.1.items)

-- there is no next record and no checkpoint; the other disk was not touched
pub record IsFresh {D : Type 0} {G : Ghosts D} (side : Side) (closed : Bool) (other : D) (journal : SlotJournal D G) : Type 0 where
  pub side_is : journal.side ≡ side
  pub other_is : journal.other ≡ other
  pub stage : journal.stage ≡ Idle
  pub next : journal.next ≡ journal.count
  pub rests : journal.filler.stage ≡ Rests
  pub closed_is : journal.filler.closed ≡ closed

-- no call of the current disk failed at Ok, and one did where the refusal is the disk's
abbrev pub FailsOnlyIn : {D R : Type 0} {G : Ghosts D} → Side → D → Result (SlotJournal D G × R) (Refused × D × D) → Type 0
FailsOnlyIn {G = G} side current (Ok pair) = G.failures pair.0.current ≡ G.failures current
FailsOnlyIn {R = R} {G = G} side current (Err all) = all.0 ≡ refusals.Disk → FailsOnce G current (disk_left {R = R} {G = G} side (Err all))

-- an opening took the current slot, which has that tag, and these are its records; where it is shown, the journal stands on it
pub record OpensOn {D : Type 0} {G : Ghosts D} (tag : ℕ) (disks : Sides DiskState) (journal : SlotJournal D G)
    (found : List NumberedRecord) : Type 0 where
  pub slot : Slot
  pub records : records_of slot ≡ all_numbered found
  pub held : HoldsSlot slot (on journal.side disks).now
  pub tag_is : slot.head.tag ≡ tag
  pub opens : (other : Slot) → OpensTwo disks (slot_writer other journal) (disks_of journal)
  pub is : (other : Slot) → (opens other).slot ≡ slot
  pub stands : Shows slot (reads_two disks) → (other : Slot) → StandsOn slot None other journal

abbrev pub OpensBoth : {D : Type 0} {G : Ghosts D} → (tag : ℕ) (a b : D) → SlotJournal D G × Vec NumberedRecord → Type 0
OpensBoth {G = G} tag a b pair = OpensOn tag (states_of G a b) pair.0 pair.1.items

-- two disks that hold just these bytes
abbrev pub settled_both : Sides (List ℕ) → Sides DiskState
settled_both left = record { a = settled left.a; b = settled left.b }

-- whatever a crash at any moment leaves, an opening of these disks may have stopped with
abbrev pub StopsAnywhere : {D : Type 0} → Ghosts D → D → D → Sides D → Type 0
StopsAnywhere G a b after = LeavesOnlyTwo G (disk_sides a b) after (λ left. StopsTwo (states_of G a b) (settled_both left))

-- so it is where both are honest
abbrev pub MayStop : {D : Type 0} → Ghosts D → (a b : D) → (after : Sides D) → Type 0
MayStop G a b after = G.honest a → G.honest b → StopsAnywhere G a b after

-- an opening stopped, with the disks that come back
abbrev pub StopsBoth : {D : Type 0} → Ghosts D → (a b : D) → Refused × D × D → Type 0
StopsBoth G a b all = StopsTwo (states_of G a b) (states_of G all.1 all.2)

-- why no store is opened: a call of a disk failed, no slot is current with that tag, or the current one is not read
pub data IsOpeningRefusal (tag : ℕ) (left : Sides (List ℕ)) : Refused → Type 0 where
  opening_device : IsOpeningRefusal tag left refusals.Disk
  opening_choice : {refused : Refused} → IsChoiceRefusal tag left refused → IsOpeningRefusal tag left refused
  opening_slot : (side : Side) (told : SlotHead) {refused : Refused} → IsCurrent side told left → IsSlotRefusal told (on side left) refused
      → IsOpeningRefusal tag left refused

-- such is the refusal beside which the disks come back
abbrev pub RefusesBoth : {D : Type 0} → Ghosts D → (tag : ℕ) (a b : D) → Refused × D × D → Type 0
RefusesBoth G tag a b all = IsOpeningRefusal tag (now_of G a b) all.0

-- and of one of them alone
abbrev pub RefusesOne : {D : Type 0} → Ghosts D → (current : D) → Refused × D × D → Type 0
RefusesOne G current all = RefusesRead (G.state current).now all.0

-- a call of one of the disks failed, where the refusal is the disk's
abbrev pub FailsOneDisk : {D : Type 0} → Ghosts D → (a b : D) → Refused × D × D → Type 0
FailsOneDisk G a b all = all.0 ≡ refusals.Disk → FailsOnce G a all.1 ⊎ FailsOnce G b all.2

-- no call of a disk failed at Ok, and one of one of them did where the refusal is the disk's
abbrev pub CountsFailures : {D R : Type 0} {G : Ghosts D} → (a b : D) → Result (SlotJournal D G × R) (Refused × D × D) → Type 0
CountsFailures {R = R} {G = G} a b (Ok pair) =
    let after = sides_of pair.0 in (G.failures after.a ≡ G.failures a) × (G.failures after.b ≡ G.failures b)
CountsFailures {R = R} {G = G} a b (Err all) = FailsOneDisk G a b all
