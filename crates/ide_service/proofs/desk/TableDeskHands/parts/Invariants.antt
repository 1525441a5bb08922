use Rattle.std.proofs.Common.{◌≡◌}
use Rattle.ide_service.specs.Parts.{with_more_done}
use Rattle.ide_service.proofs.desk.TableDeskHands.parts.Given as goal

-- as many parts of the work are done as are counted
abbrev pub invariant-loop-count : goal.invariant-loop-count
invariant-loop-count g l = l.work ≡ with_more_done l.initial.work l.count
