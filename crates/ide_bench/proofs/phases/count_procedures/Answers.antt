use Rattle.std.proofs.Common.{ap, length}
use Rattle.ide_bench.proofs.phases.count_procedures.Goals as goal

pub returns : goal.returns
returns c =
    record {
      program = c.in_ok-program.program;
      parsed = c.in_ok-program.ensures.parsed;
      counted = ap length c.procedures.ensures;
    }
