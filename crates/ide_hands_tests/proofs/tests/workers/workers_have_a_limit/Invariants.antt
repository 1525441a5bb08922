use Rattle.std.proofs.Common.{[]}
use Rattle.std.specs.Arc.{arc_value}
use Rattle.ide_hands_tests.proofs.tests.workers.workers_have_a_limit.Given as goal

abbrev pub ghosts-expect : goal.ghosts-expect
ghosts-expect g a = record {
  board = arc_value a.opened.board;
  switches = a.opened.switch.board;
  told = ⊥;
  first = λ _. [];
  version = λ no. absurd no;
}
