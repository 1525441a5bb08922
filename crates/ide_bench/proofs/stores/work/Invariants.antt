use Rattle.std.proofs.Common.{[]}
use Rattle.ide_bench.specs.Working.{run_board, run_switches}
use Rattle.ide_bench.proofs.stores.work.Given as goal

abbrev pub ghosts-work_opened : goal.ghosts-work_opened
ghosts-work_opened g a = record {
  board = run_board a.opened;
  switches = run_switches a.opened;
  told = ⊥;
  first = λ _. [];
  version = λ no. absurd no;
}
