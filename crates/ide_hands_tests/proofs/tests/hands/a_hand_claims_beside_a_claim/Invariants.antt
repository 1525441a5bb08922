use Rattle.std.proofs.Common.{[]}
use Rattle.std.specs.Arc.{arc_value}
use Rattle.ide_hands_tests.proofs.tests.hands.a_hand_claims_beside_a_claim.Given as goal

abbrev pub ghosts-work : goal.ghosts-work
ghosts-work g a = record {
  board = arc_value a.opened.board;
  switches = a.opened.switch.board;
  told = ⊥;
  first = λ _. [];
  version = λ no. absurd no;
}
