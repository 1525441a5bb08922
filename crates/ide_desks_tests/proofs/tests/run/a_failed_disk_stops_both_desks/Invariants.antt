use Rattle.std.proofs.Common.{[]}
use Rattle.std.specs.Arc.{arc_value}
use Rattle.ide_desks_tests.proofs.tests.run.a_failed_disk_stops_both_desks.Given as goal

abbrev pub ghosts-run : goal.ghosts-run
ghosts-run g a = record {
  board = arc_value a.opened.board;
  switches = a.opened.switch.board;
  told = ⊥;
  first = λ _. [];
  version = λ no. absurd no;
}
