-- How far the next record is, and the filling of the other slot.
use Rattle.std.specs.Prelude.{ℕ, ◌+◌, ◌<◌, ◌≤◌, Bool, true, false, List, [], ◌∷◌, length}
use Rattle.ide_journal.specs.declared.stage.Phase.{Phase}
use Rattle.ide_journal.specs.declared.stage.Phase.TheVariants as phases
use Rattle.ide_journal.specs.declared.stage.Stage.{Stage}
use Rattle.ide_journal.specs.declared.stage.Stage.TheVariants as stages
use Rattle.ide_slots.specs.DiskCalls.{Cuts, DiskCall, Syncs, Writes}
use Rattle.ide_slots.specs.Filling.{Closes, Filling, Fills, Heads, Lasts, OpensGate, Settles, Trims}
use Rattle.ide_slots.specs.Slot.{Slot}
use Rattle.ide_slots.specs.Two.{Checkpoint, NotBegun, Planned, UnderWay}
use Rattle.ide_slots.specs.TwoCalls.{record_call}
use Rattle.ide_slot_journal.specs.declared.stage.FillStage.{FillStage}
use Rattle.ide_slot_journal.specs.declared.stage.FillStage.TheVariants as fills
use Rattle.ide_slot_journal.specs.declared.stage.RecordStage.{RecordStage}
use Rattle.ide_slot_journal.specs.declared.stage.RecordStage.TheVariants as records

-- no call was made yet for a record that waits
abbrev pub stage_of : RecordStage → Stage
stage_of records.Idle = stages.Idle
stage_of records.Waits = stages.Idle
stage_of records.Written = stages.Written
stage_of records.BodySynced = stages.BodySynced
stage_of records.GateWritten = stages.GateWritten
stage_of records.Failed = stages.Failed

-- the phase to which the call of a stage leads
abbrev pub phase_from : RecordStage → Phase
phase_from records.Idle = phases.Written
phase_from records.Waits = phases.Written
phase_from records.Written = phases.BodySynced
phase_from records.BodySynced = phases.GateWritten
phase_from records.GateWritten = phases.Stored
phase_from records.Failed = phases.Stored

-- that call, with the gate and what stands behind it
abbrev pub stage_call : RecordStage → (gate : ℕ) → (tail : List ℕ) → DiskCall
stage_call stage gate tail = record_call (phase_from stage) gate tail

-- the stage behind a phase
abbrev pub record_stage : Phase → RecordStage
record_stage phases.Written = records.Written
record_stage phases.BodySynced = records.BodySynced
record_stage phases.GateWritten = records.GateWritten
record_stage phases.Stored = records.Idle

-- a number that changes where the record is stored
abbrev pub once_stored : Phase → (before after : ℕ) → ℕ
once_stored phases.Written before after = before
once_stored phases.BodySynced before after = before
once_stored phases.GateWritten before after = before
once_stored phases.Stored before after = after

-- one that changes where it is written
abbrev pub once_written : Phase → (before after : ℕ) → ℕ
once_written phases.Written before after = after
once_written phases.BodySynced before after = before
once_written phases.GateWritten before after = before
once_written phases.Stored before after = before

-- the next call of a checkpoint; that of one that waits closes the first gate, or cuts where it is closed
abbrev pub filling_at : FillStage → Bool → ℕ → List (List ℕ) → Filling
filling_at fills.Rests closed at todo = Closes closed
filling_at fills.Waits closed at todo = Closes closed
filling_at fills.Settles closed at todo = Settles
filling_at fills.Trims closed at todo = Trims
filling_at fills.Heads closed at todo = Heads
filling_at fills.Fills closed at todo = Fills at todo
filling_at fills.OpensGate closed at todo = OpensGate
filling_at fills.Lasts closed at todo = Lasts

-- how far the checkpoint with that slot is
abbrev pub checkpoint_at : FillStage → Slot → Filling → Checkpoint
checkpoint_at fills.Rests other fill = NotBegun
checkpoint_at fills.Waits other fill = Planned other
checkpoint_at fills.Settles other fill = UnderWay other fill
checkpoint_at fills.Trims other fill = UnderWay other fill
checkpoint_at fills.Heads other fill = UnderWay other fill
checkpoint_at fills.Fills other fill = UnderWay other fill
checkpoint_at fills.OpensGate other fill = UnderWay other fill
checkpoint_at fills.Lasts other fill = UnderWay other fill

-- records are stored while no checkpoint makes its calls, and none waits for those that are stored
abbrev pub IsTurnAt : FillStage → (base count : ℕ) → Type 0
IsTurnAt fills.Rests base count = Unit {0}
IsTurnAt fills.Waits base count = count < base
IsTurnAt fills.Settles base count = ⊥
IsTurnAt fills.Trims base count = ⊥
IsTurnAt fills.Heads base count = ⊥
IsTurnAt fills.Fills base count = ⊥
IsTurnAt fills.OpensGate base count = ⊥
IsTurnAt fills.Lasts base count = ⊥

-- a checkpoint makes its calls once the records below its base are stored
abbrev pub IsFillingAt : FillStage → (base count : ℕ) → Type 0
IsFillingAt fills.Rests base count = ⊥
IsFillingAt fills.Waits base count = base ≤ count
IsFillingAt fills.Settles base count = Unit {0}
IsFillingAt fills.Trims base count = Unit {0}
IsFillingAt fills.Heads base count = Unit {0}
IsFillingAt fills.Fills base count = Unit {0}
IsFillingAt fills.OpensGate base count = Unit {0}
IsFillingAt fills.Lasts base count = Unit {0}

-- where the next record of a checkpoint goes while none is written; and behind the first gate anyway
abbrev pub first_place : FillStage → ℕ → ℕ
first_place fills.Rests at = at
first_place fills.Waits at = at
first_place fills.Settles at = at
first_place fills.Trims at = at
first_place fills.Heads at = at
first_place fills.Fills at = 4097
first_place fills.OpensGate at = 4097
first_place fills.Lasts at = 4097

-- the disk call of a stage, with the first page and what is still to be written
abbrev pub call_at : FillStage → (closed : Bool) (at : ℕ) (page : List ℕ) (todo : List (List ℕ)) → DiskCall
call_at fills.Rests closed at page todo = Syncs
call_at fills.Waits true at page todo = Cuts 4097
call_at fills.Waits false at page todo = Writes 4096 (0 ∷ [])
call_at fills.Settles closed at page todo = Syncs
call_at fills.Trims closed at page todo = Cuts 4097
call_at fills.Heads closed at page todo = Writes 0 page
call_at fills.Fills closed at page [] = Syncs
call_at fills.Fills closed at page (chunk ∷ todo) = Writes at chunk
call_at fills.OpensGate closed at page todo = Writes 4096 (1 ∷ [])
call_at fills.Lasts closed at page todo = Syncs

-- the stage after it, and what is still to be written then, and where
abbrev pub fill_stage_after : FillStage → List (List ℕ) → FillStage
fill_stage_after fills.Rests todo = fills.Rests
fill_stage_after fills.Waits todo = fills.Settles
fill_stage_after fills.Settles todo = fills.Trims
fill_stage_after fills.Trims todo = fills.Heads
fill_stage_after fills.Heads todo = fills.Fills
fill_stage_after fills.Fills [] = fills.OpensGate
fill_stage_after fills.Fills (chunk ∷ todo) = fills.Fills
fill_stage_after fills.OpensGate todo = fills.Lasts
fill_stage_after fills.Lasts todo = fills.Lasts

abbrev pub todo_after : FillStage → List (List ℕ) → List (List ℕ)
todo_after fills.Rests todo = todo
todo_after fills.Waits todo = todo
todo_after fills.Settles todo = todo
todo_after fills.Trims todo = todo
todo_after fills.Heads todo = todo
todo_after fills.Fills [] = []
todo_after fills.Fills (chunk ∷ todo) = todo
todo_after fills.OpensGate todo = todo
todo_after fills.Lasts todo = todo

abbrev pub place_after : FillStage → ℕ → List (List ℕ) → ℕ
place_after fills.Rests at todo = at
place_after fills.Waits at todo = at
place_after fills.Settles at todo = at
place_after fills.Trims at todo = at
place_after fills.Heads at todo = at
place_after fills.Fills at [] = at
place_after fills.Fills at (chunk ∷ todo) = at + length chunk
place_after fills.OpensGate at todo = at
place_after fills.Lasts at todo = at
