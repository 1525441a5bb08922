-- The disk calls of a record, one at each stage.
use Rattle.std.specs.Prelude.{◌≡◌, ℕ, ◌+◌, List, [], ◌∷◌}
use Rattle.ide_disk.specs.Disk.{DiskState, synced_now, written}
use Rattle.ide_disk.specs.declared.disk.Disk.{Ghosts}
use Rattle.ide_journal.specs.declared.journal.Journal.{Journal}
use Rattle.ide_journal.specs.declared.stage.Stage.{Stage}
use Rattle.ide_journal.specs.declared.stage.Stage.TheVariants.{Idle, Begun, Written, BodySynced, GateWritten, Failed}

-- the disk after the call of a stage: what stands behind the gate is written, synced, the gate opened, synced
abbrev pub after_stage_call : Stage → (gate : ℕ) → (tail : List ℕ) → DiskState → DiskState
after_stage_call Idle gate tail disk = written (gate + 1) tail disk
after_stage_call Begun gate tail disk = written (gate + 1) tail disk
after_stage_call Written gate tail disk = synced_now disk
after_stage_call BodySynced gate tail disk = written gate (1 ∷ []) disk
after_stage_call GateWritten gate tail disk = synced_now disk
after_stage_call Failed gate tail disk = disk

-- where the closed gate stands then: behind the record once that is stored
abbrev pub gate_after : Stage → (gate : ℕ) → (end : ℕ) → ℕ
gate_after Idle gate end = gate
gate_after Begun gate end = gate
gate_after Written gate end = gate
gate_after BodySynced gate end = gate
gate_after GateWritten gate end = end
gate_after Failed gate end = gate

-- the call of its stage was made, to the letter
pub record MakesItsCall {D : Type 0} {G : Ghosts D} (old new : Journal D G) : Type 0 where
  pub disk : G.state new.disk ≡ after_stage_call old.stage old.gate old.tail.items (G.state old.disk)
  pub gate : new.gate ≡ gate_after old.stage old.gate old.end
