use Rattle.std.proofs.Common.{[]}
use Rattle.std.specs.Arc.{arc_value}
use Rattle.ide_hands_tests.proofs.tests.stops.a_gate_stops_a_committer_between_two_records.Given as goal

abbrev pub ghosts-expect_one_stored : goal.ghosts-expect_one_stored
ghosts-expect_one_stored g a = record {
  board = arc_value a.opened.board;
  switches = a.opened.switch.board;
  told = ⊥;
  first = λ _. [];
  version = λ no. absurd no;
}
