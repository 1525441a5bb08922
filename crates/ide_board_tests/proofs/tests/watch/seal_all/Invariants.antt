use Rattle.std.proofs.Common.{◌≡◌, ◌+◌, length}
use Rattle.ide_board_tests.proofs.tests.watch.seal_all.Given as goal

abbrev pub invariant-loop-number : goal.invariant-loop-number
invariant-loop-number l = (l.table.board ≡ l.initial.table.board) × (length l.table.sealed ≡ length l.initial.table.sealed + l.number-counter)
