use Rattle.ide_service.proofs.hands.hand_loop.Given as goal

-- the hand has no claim between two tasks
abbrev pub invariant-loop : goal.invariant-loop
invariant-loop g l =
    (goal.iterator-loop g).can_next l.iterator' × (goal.iterator-loop g).is_finite l.iterator' × g.H.Hands.is_free l.hands l.hand
