use Rattle.ide_service.specs.Parts.{IsFurther}
use Rattle.ide_service.proofs.hands.parts_with_room.Given as goal

-- so many parts are done as were asked for, at most
abbrev pub invariant-loop : goal.invariant-loop
invariant-loop g l = (goal.iterator-loop g).can_next l.iterator' × (goal.iterator-loop g).is_finite l.iterator' × IsFurther l.initial.most l.initial.work l.work
