-- The phases of a record, in their order.
use Rattle.std.specs.Prelude.{◌≡◌}
use Rattle.ide_journal.specs.declared.stage.Phase.{Phase}
use Rattle.ide_journal.specs.declared.stage.Phase.TheVariants as phase
use Rattle.ide_journal.specs.declared.stage.Stage.{Stage}
use Rattle.ide_journal.specs.declared.stage.Stage.TheVariants.{Idle, Begun, Written, BodySynced, GateWritten}

-- the stage after a phase
abbrev pub stage_after : Phase → Stage
stage_after phase.Written = Written
stage_after phase.BodySynced = BodySynced
stage_after phase.GateWritten = GateWritten
stage_after phase.Stored = Idle

-- the stage before it
abbrev pub stage_before : Phase → Stage
stage_before phase.Written = Begun
stage_before phase.BodySynced = Written
stage_before phase.GateWritten = BodySynced
stage_before phase.Stored = GateWritten

-- the phase leads from the one stage to the other
abbrev pub LeadsTo : Stage → Stage → Phase → Type 0
LeadsTo old new phase = (old ≡ stage_before phase) × (new ≡ stage_after phase)
