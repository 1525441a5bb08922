use Rattle.std.specs.Arc.{arc_value}
use Rattle.ide_desks.specs.Opened.{MayBeTold, records_told, version_told}
use Rattle.ide_hands_tests.proofs.Copies.{copies}
use Rattle.ide_hands_tests.proofs.tests.workers.expect_solved.Given as goal

-- what is told is that the store is on a run
abbrev pub ghosts-expect_solved_by : goal.ghosts-expect_solved_by
ghosts-expect_solved_by g a = record {
  board = arc_value a.opened.board;
  switches = a.opened.switch.board;
  told = MayBeTold copies 2 a.opened.engine;
  first = records_told;
  version = version_told;
}
