use Rattle.std.proofs.Common.{◌≡◌, Some}
use Rattle.ide_image.specs.Tables.{found}
use Rattle.ide_values.specs.Pass.{by_entry, stays}
use Rattle.ide_values.proofs.Coming.{goes_trans}
use Rattle.ide_values.proofs.Falling.{falls_not, falls_then}
use Rattle.ide_values.proofs.passes.Starts.pass_from.Goals as goal

pub loop-cells-init : goal.loop-cells-init
loop-cells-init g c = record {
  comes = stays;
  falls = falls_not g.P.L.Lattice.algebra c.args.self.now;
}

pub loop-cells-preserved : goal.loop-cells-preserved
loop-cells-preserved g c = record {
  comes =
      goes_trans (λ values e. by_entry g.P.L.Lattice.algebra g.P.F.EdgeFn.edge c.args.graph.now g.P.Problem.targets values e.0 e.1) (λ e. found c.args.tables.now.table e.0 ≡ Some e.1) c.loop-cells.invariant.comes c.in_ok-pass_cells.ensures.comes;
  falls = falls_then g.P.L.Lattice.algebra c.loop-cells.invariant.falls c.in_ok-pass_cells.ensures.falls;
}
