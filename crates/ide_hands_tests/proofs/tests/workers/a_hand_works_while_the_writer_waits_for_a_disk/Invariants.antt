use Rattle.std.proofs.Common.{[]}
use Rattle.std.specs.Arc.{arc_value}
use Rattle.ide_hands_tests.proofs.tests.workers.a_hand_works_while_the_writer_waits_for_a_disk.Given as goal

abbrev pub ghosts-expect : goal.ghosts-expect
ghosts-expect g a = record {
  board = arc_value a.opened.board;
  switches = a.opened.switch.board;
  told = ⊥;
  first = λ _. [];
  version = λ no. absurd no;
}
