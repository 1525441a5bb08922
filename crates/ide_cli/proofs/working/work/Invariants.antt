use Rattle.std.proofs.Common.{[]}
use Rattle.ide_cli.specs.Working.{board_of, switches_of}
use Rattle.ide_cli.proofs.working.work.Given as goal

-- a file claims no honesty, so nothing is told of a run
abbrev pub ghosts-work_opened : goal.ghosts-work_opened
ghosts-work_opened g a = record {
  board = board_of a.opened;
  switches = switches_of a.opened;
  told = ⊥;
  first = λ _. [];
  version = λ no. absurd no;
}
