use Rattle.std.proofs.Common.{rules}
use Rattle.ide_bench.proofs.phases.measure_dump.Goals as goal

pub returns : goal.returns
returns c = record {
  values = c.in_ok-values.values;
  rooted = rw (c.in_ok-values.ensures.graph, c.in_ok-values.ensures.roots) (search rules);
  measured = search rules;
}
