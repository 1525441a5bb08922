use Rattle.std.proofs.Common.{◌≡◌, ◌+◌, length}
use Rattle.ide_board_tests.proofs.tests.watch.publish_all.Given as goal

abbrev pub invariant-loop-number : goal.invariant-loop-number
invariant-loop-number l = (l.writer.board ≡ l.initial.writer.board) × (l.writer.taken ≡ l.initial.writer.taken) × (length l.writer.stored ≡ length l.initial.writer.stored + l._number)
