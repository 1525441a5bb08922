use Rattle.std.proofs.Common.{◌≡◌, ◌+◌, ◌-◌, ◌*◌}
use Rattle.ide_values.specs.Runs.{FillsRun}
use Rattle.ide_values.proofs.fill.fill_run.Given as goal

-- the rows are filled by the cells in front of the offset, and the place is where the next jump ends
abbrev pub invariant-loop-offset : goal.invariant-loop-offset
invariant-loop-offset g l = record {
  place : l.place ≡ (l.fn.jump.node + l._offset - l.first) * l.graph.facts + l.fn.jump.to;
  filled : FillsRun g.F.L.Lattice.algebra g.F.EdgeFn.edge l.graph l.tables l.first l.page l.fn.jump l.fn.start l.begin l._offset l.fn.rows l.rows;
}
