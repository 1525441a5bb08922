use Rattle.std.proofs.Common.{◌≡◌, ◌+◌, ◌*◌, Some, arith}
use Rattle.ide_image.specs.Tables.{found}
use Rattle.ide_values.specs.Pass.{by_entry, stays}
use Rattle.ide_values.proofs.Coming.{goes_trans}
use Rattle.ide_values.proofs.Falling.{falls_not, falls_then}
use Rattle.ide_values.proofs.Nowhere.{leaves_fewer, leaves_over, leaves_page, leaves_then}
use Rattle.ide_values.proofs.passes.Starts.pass_cells.Goals as goal

pub returns-in_default-clause-leaves : goal.returns-in_default-clause-leaves
returns-in_default-clause-leaves g c =
    leaves_page g.P.L.Lattice.algebra g.P.F.EdgeFn.edge g.P.Problem.targets c.args.graph.now c.args.tables.now c.args.cells.page c.args.cells.begin c.args.cells.end c.args.self.now c.requires.page.end
    (c.first_jump.ensures.none c.in_default.is)

pub returns-in_default-clause-comes : goal.returns-in_default-clause-comes
returns-in_default-clause-comes g c = stays

pub returns-in_default-clause-falls : goal.returns-in_default-clause-falls
returns-in_default-clause-falls g c = falls_not g.P.L.Lattice.algebra c.args.self.now

pub loop-offset-init : goal.loop-offset-init
loop-offset-init g c =
    let jump = c.in-Some.first in
    record {
      within = c.next_offset-offset.ensures.within;
      leaves =
          leaves_over g.P.L.Lattice.algebra g.P.F.EdgeFn.edge g.P.Problem.targets c.args.graph.now c.args.tables.now c.args.cells.page jump.node jump.from jump.to
          c.args.cells.begin c.next_offset-offset.result c.args.self.now c.in-Some.ensures.first c.next_offset-offset.ensures.order c.next_offset-offset.ensures.within c.next_offset-offset.ensures.none;
      comes = stays;
      falls = falls_not g.P.L.Lattice.algebra c.args.self.now;
    }

pub loop-offset-preserved : goal.loop-offset-preserved
loop-offset-preserved g c =
    let A = g.P.L.Lattice.algebra in
    let B = g.P.F.EdgeFn.edge in
    let targets = g.P.Problem.targets in
    let graph = c.args.graph.now in
    let tables = c.args.tables.now in
    let page = c.args.cells.page in
    let jump = c.in-Some.first in
    let offset = c.loop-offset.offset in
    let next = c.next_offset-offset-in-loop-offset in
    record {
      within = next.ensures.within;
      leaves =
          leaves_then A B targets graph tables (64 * page + c.args.cells.begin) (64 * page + offset) (64 * page + next.result) c.loop-offset.invariant.leaves
          (leaves_then A B targets graph tables (64 * page + offset) (64 * page + (offset + 1)) (64 * page + next.result) c.in_ok-pass_cell.ensures.leaves
          (leaves_over A B targets graph tables page jump.node jump.from jump.to (offset + 1) next.result c.pass_cell.new.self
          c.in-Some.ensures.first next.ensures.order next.ensures.within next.ensures.none));
      comes =
          goes_trans (λ values e. by_entry A B graph targets values e.0 e.1) (λ e. found tables.table e.0 ≡ Some e.1) c.loop-offset.invariant.comes c.in_ok-pass_cell.ensures.comes;
      falls = falls_then A c.loop-offset.invariant.falls c.in_ok-pass_cell.ensures.falls;
    }

pub returns-clause-leaves : goal.returns-clause-leaves
returns-clause-leaves g c =
    let page = c.args.cells.page in
    leaves_fewer g.P.L.Lattice.algebra g.P.F.EdgeFn.edge g.P.Problem.targets c.args.graph.now c.args.tables.now
    (64 * page + c.args.cells.begin) (64 * page + c.args.cells.end) (64 * page + c.loop-offset.offset) (omega (arith, c.loop-offset-test.false)) c.loop-offset.invariant.leaves
