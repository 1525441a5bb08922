-- What the writer of two slots does: calls for the next record, calls of a checkpoint, and openings.
use Rattle.std.specs.Prelude.{◌≡◌, ◌≢◌, ◌⊎◌, ℕ, ◌+◌, ◌<◌, Bool, true, false, List, [], ◌∷◌, ◌++◌, length}
use Rattle.ide_disk.specs.Disk.{CrashLeaves, DiskState, settled}
use Rattle.ide_journal.specs.Bytes.{IsBefore}
use Rattle.ide_journal.specs.Format.{Entry}
use Rattle.ide_journal.specs.Phases.{stage_after, stage_before}
use Rattle.ide_journal.specs.declared.stage.Phase.{Phase}
use Rattle.ide_journal.specs.declared.stage.Phase.TheVariants as phases
use Rattle.ide_journal.specs.declared.stage.Stage.{Stage}
use Rattle.ide_journal.specs.declared.stage.Stage.TheVariants.{Idle}
use Rattle.ide_slots.specs.DiskCalls.{DiskCall, FailsSo, LeavesNoMoreThan, LeavesWithin, Syncs, Writes, after_disk_call}
use Rattle.ide_slots.specs.Filling.{Closes, Filling, Lasts, fill_call, fill_next, filled_by, with_gate}
use Rattle.ide_slots.specs.Sides.{IsChosen, Side, Sides, across, off, on, two_sides}
use Rattle.ide_slots.specs.Slot.{IsClosedSlot, IsFront, Slot, slot_count}
use Rattle.ide_slots.specs.Two.{Checkpoint, IsPlanned, NotBegun, Planned, SlotWriter, UnderWay, reads_two}

-- the call of a phase: what stands behind the gate is written, synced, the gate opened, synced
abbrev pub record_call : Phase → (gate : ℕ) → (tail : List ℕ) → DiskCall
record_call phases.Written gate tail = Writes (gate + 1) tail
record_call phases.BodySynced gate tail = Syncs
record_call phases.GateWritten gate tail = Writes gate (1 ∷ [])
record_call phases.Stored gate tail = Syncs

-- the stage is that before the phase, or no record is under way yet
abbrev pub IsReadyFor : Stage → Phase → Type 0
IsReadyFor stage phase = (stage ≡ stage_before phase) ⊎ ((stage ≡ Idle) × (phase ≡ phases.Written))

-- records are stored while no checkpoint makes its calls, and none waits for those that are stored
abbrev pub IsRecordsTurn : ℕ → Checkpoint → Type 0
IsRecordsTurn count NotBegun = Unit {0}
IsRecordsTurn count (Planned next) = count < next.base
IsRecordsTurn count (UnderWay next fill) = ⊥

-- the call for the next record that leads to this phase is due
pub record IsDue (slot : Slot) (work : SlotWriter) (phase : Phase) : Type 0 where
  pub turn : IsRecordsTurn (slot_count slot) work.checkpoint
  pub ready : IsReadyFor work.stage phase

abbrev pub due_call : Slot → Entry → SlotWriter → Phase → DiskCall
due_call slot entry work phase = record_call phase work.gate (with_gate 0 (slot_count slot, entry))

-- both disks after a call on the current one, and after one on the other
abbrev pub on_current : SlotWriter → DiskCall → Sides DiskState → Sides DiskState
on_current work call disks = two_sides work.side (after_disk_call call (on work.side disks)) (off work.side disks)

abbrev pub on_other : SlotWriter → DiskCall → Sides DiskState → Sides DiskState
on_other work call disks = two_sides work.side (on work.side disks) (after_disk_call call (off work.side disks))

-- a good call for the next record that does not store it yet
pub record CallsRecord (slot : Slot) (entry : Entry) (work : SlotWriter) (disks : Sides DiskState)
    (new : SlotWriter) (after : Sides DiskState) : Type 0 where
  pub phase : Phase
  pub due : IsDue slot work phase
  pub more : phase ≢ phases.Stored
  pub work_is : new ≡ record work { stage = stage_after phase }
  pub disks_are : after ≡ on_current work (due_call slot entry work phase) disks

-- one that stores it
pub record StoresRecord (slot : Slot) (entry : Entry) (work : SlotWriter) (disks : Sides DiskState)
    (new : SlotWriter) (after : Sides DiskState) : Type 0 where
  pub due : IsDue slot work phases.Stored
  pub work_is : new ≡ record work { stage = Idle; gate = work.gate + length (with_gate 0 (slot_count slot, entry)) }
  pub disks_are : after ≡ on_current work (due_call slot entry work phases.Stored) disks

-- one that failed
pub record FailsRecord (slot : Slot) (entry : Entry) (work : SlotWriter) (disks after : Sides DiskState) : Type 0 where
  pub phase : Phase
  pub due : IsDue slot work phase
  pub fails : FailsSo (due_call slot entry work phase) (on work.side disks) (on work.side after)
  pub same : off work.side after ≡ off work.side disks

-- a crash within one
pub record CrashesInRecord (slot : Slot) (entry : Entry) (work : SlotWriter) (disks : Sides DiskState)
    (left : Sides (List ℕ)) : Type 0 where
  pub phase : Phase
  pub due : IsDue slot work phase
  pub within : LeavesWithin (due_call slot entry work phase) (on work.side disks) (on work.side left)
  pub other : CrashLeaves (off work.side disks) (off work.side left)

-- a checkpoint is planned
pub record PlansCheckpoint (slot : Slot) (work new : SlotWriter) : Type 0 where
  pub next : Slot
  pub none : work.checkpoint ≡ NotBegun
  pub planned : IsPlanned slot next work.stage
  pub work_is : new ≡ record work { checkpoint = Planned next }

-- whether the first gate is closed
abbrev pub TellsClosed : Bool → List ℕ → Type 0
TellsClosed true bytes = IsClosedSlot bytes
TellsClosed false bytes = IsClosedSlot bytes → ⊥

-- the records below its base are stored, and it begins its calls
pub record BeginsCheckpoint (slot : Slot) (work : SlotWriter) (disks : Sides DiskState) (new : SlotWriter) : Type 0 where
  pub next : Slot
  pub planned : work.checkpoint ≡ Planned next
  pub stored : slot_count slot ≡ next.base
  pub closed : Bool
  pub tells : TellsClosed closed (off work.side disks).now
  pub work_is : new ≡ record work { checkpoint = UnderWay next (Closes closed) }

-- a good call of it that is not the last
pub record CallsCheckpoint (work : SlotWriter) (disks : Sides DiskState) (new : SlotWriter) (after : Sides DiskState)
    : Type 0 where
  pub next : Slot
  pub fill : Filling
  pub under_way : work.checkpoint ≡ UnderWay next fill
  pub more : fill ≢ Lasts
  pub work_is : new ≡ record work { checkpoint = UnderWay next (fill_next next fill) }
  pub disks_are : after ≡ on_other work (fill_call next fill) disks

-- the writer behind the checkpoint, on the other side
abbrev pub turned_to : SlotWriter → Slot → SlotWriter
turned_to work next = record {
  side = across work.side;
  version = next.head.version;
  generation = next.generation;
  gate = 4096 + length (filled_by next);
  stage = Idle;
  checkpoint = NotBegun;
}

-- the last one, after which the other slot is current
pub record EndsCheckpoint (work : SlotWriter) (disks : Sides DiskState) (new : SlotWriter) (next : Slot)
    (after : Sides DiskState) : Type 0 where
  pub under_way : work.checkpoint ≡ UnderWay next Lasts
  pub work_is : new ≡ turned_to work next
  pub disks_are : after ≡ on_other work (fill_call next Lasts) disks

-- one that failed
pub record FailsCheckpoint (work : SlotWriter) (disks after : Sides DiskState) : Type 0 where
  pub next : Slot
  pub fill : Filling
  pub under_way : work.checkpoint ≡ UnderWay next fill
  pub fails : FailsSo (fill_call next fill) (off work.side disks) (off work.side after)
  pub same : on work.side after ≡ on work.side disks

-- a crash within one
pub record CrashesInCheckpoint (work : SlotWriter) (disks : Sides DiskState) (left : Sides (List ℕ)) : Type 0 where
  pub next : Slot
  pub fill : Filling
  pub under_way : work.checkpoint ≡ UnderWay next fill
  pub within : LeavesWithin (fill_call next fill) (off work.side disks) (off work.side left)
  pub current : CrashLeaves (on work.side disks) (on work.side left)

-- an opening: the chosen slot is taken, what stands behind its closed gate is cut off, and both disks are synced
pub record OpensTwo (disks : Sides DiskState) (work : SlotWriter) (after : Sides DiskState) : Type 0 where
  pub slot : Slot
  pub front : List ℕ
  pub whole : IsFront slot front
  pub chosen : IsChosen work.side (reads_two disks)
  pub closed : IsBefore front (on work.side disks).now
  pub work_is : work ≡ record {
    side = work.side;
    version = slot.head.version;
    generation = slot.generation;
    gate = length front;
    stage = Idle;
    checkpoint = NotBegun;
  }
  pub disks_are : after ≡ two_sides work.side (settled (front ++ 0 ∷ [])) (settled (off work.side disks).now)

-- a crash leaves what one before could leave, or what stands before the closed gate, and that gate
abbrev pub LeftOrBefore : DiskState → List ℕ → List ℕ → Type 0
LeftOrBefore disk front left = CrashLeaves disk left ⊎ IsBefore front left

-- an opening that stops while it cuts the chosen slot; what is told of each disk is told of it alone, so a crash may
-- leave the one as of then and the other as of before its sync
pub record StopsInCut (disks after : Sides DiskState) : Type 0 where
  pub side : Side
  pub slot : Slot
  pub front : List ℕ
  pub whole : IsFront slot front
  pub chosen : IsChosen side (reads_two disks)
  pub closed : IsBefore front (on side disks).now
  pub current : (left : List ℕ) → CrashLeaves (on side after) left → LeftOrBefore (on side disks) front left
  pub possible : CrashLeaves (on side after) (on side after).now
  pub other : LeavesNoMoreThan (off side disks) (off side after)

-- an opening that stops: before it cuts, or then
abbrev pub StopsTwo : Sides DiskState → Sides DiskState → Type 0
StopsTwo disks after = (LeavesNoMoreThan disks.a after.a × LeavesNoMoreThan disks.b after.b) ⊎ StopsInCut disks after
