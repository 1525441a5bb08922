use Rattle.std.proofs.Common.{[]}
use Rattle.std.specs.Arc.{arc_value}
use Rattle.ide_hands_tests.proofs.tests.stops.a_hand_that_is_stopped_gives_its_claim_back.Given as goal

abbrev pub ghosts-expect_no_part : goal.ghosts-expect_no_part
ghosts-expect_no_part g a = record {
  board = arc_value a.opened.board;
  switches = a.opened.switch.board;
  told = ⊥;
  first = λ _. [];
  version = λ no. absurd no;
}
