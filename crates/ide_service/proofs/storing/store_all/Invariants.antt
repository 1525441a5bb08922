use Rattle.ide_service.specs.Storing.{StoresOn}
use Rattle.ide_service.proofs.storing.store_all.Given as goal

-- what is published only grows
abbrev pub invariant-loop : goal.invariant-loop
invariant-loop g l =
    (goal.iterator-loop g).can_next l.iterator' × (goal.iterator-loop g).is_finite l.iterator' × StoresOn l.initial.writer.seat l.writer.seat
