use Rattle.std.proofs.Common.{[]}
use Rattle.std.specs.Arc.{arc_value}
use Rattle.ide_hands_tests.proofs.tests.stops.what_a_stopped_hand_did_is_kept.Given as goal

abbrev pub ghosts-reopened : goal.ghosts-reopened
ghosts-reopened g a = record {
  board = arc_value a.opened.board;
  switches = a.opened.switch.board;
  told = ⊥;
  first = λ _. [];
  version = λ no. absurd no;
}
