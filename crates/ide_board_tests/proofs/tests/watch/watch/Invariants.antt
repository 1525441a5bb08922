use Rattle.std.proofs.Common.{◌≡◌}
use Rattle.ide_board_tests.proofs.tests.watch.watch.Given as goal

abbrev pub invariant-loop : goal.invariant-loop
invariant-loop g l =
    (goal.iterator-loop g).can_next l.iterator' × (goal.iterator-loop g).is_finite l.iterator' × (l.client.board ≡ l.initial.client.board)
