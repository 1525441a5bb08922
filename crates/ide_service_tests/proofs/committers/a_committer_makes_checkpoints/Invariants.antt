use Rattle.std.proofs.Common.{[]}
use Rattle.std.specs.Arc.{arc_value}
use Rattle.ide_service_tests.proofs.committers.a_committer_makes_checkpoints.Given as goal

abbrev pub ghosts-expect_checkpoint : goal.ghosts-expect_checkpoint
ghosts-expect_checkpoint g a = record {
  board = arc_value a.opened.board;
  switches = a.opened.switch.board;
  told = ⊥;
  first = λ _. [];
  version = λ no. absurd no;
}
