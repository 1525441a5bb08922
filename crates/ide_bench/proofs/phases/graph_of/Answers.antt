use Rattle.ide_bench.proofs.phases.graph_of.Goals as goal

pub returns : goal.returns
returns c =
    let parsed = c.in_ok-program.ensures.parsed in
    record {
      program = c.in_ok-program.program;
      parsed = parsed;
      counted = c.in_ok-of.ensures.numbered;
      edges = c.in_ok-of.ensures.edges;
    }
