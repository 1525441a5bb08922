use Rattle.std.proofs.Common.{[]}
use Rattle.std.specs.Arc.{arc_value}
use Rattle.ide_desks_tests.proofs.tests.run.both_desks_go_on_apart.Given as goal

abbrev pub ghosts-run : goal.ghosts-run
ghosts-run g a = record {
  board = arc_value a.opened.board;
  switches = a.opened.switch.board;
  told = ⊥;
  first = λ _. [];
  version = λ no. absurd no;
}
