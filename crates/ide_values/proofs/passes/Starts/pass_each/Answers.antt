use Rattle.std.proofs.Common.{◌≡◌, ◌+◌, ◌*◌, Some, arith, subst, ◌∙◌}
use Rattle.ide_image.specs.Tables.{found}
use Rattle.ide_values.specs.Pass.{by_entry, stays}
use Rattle.ide_values.specs.Passing.{LeavesCells}
use Rattle.ide_values.proofs.Coming.{goes_trans}
use Rattle.ide_values.proofs.Falling.{falls_not, falls_then}
use Rattle.ide_values.proofs.Nowhere.{leaves_each, leaves_not, leaves_then}
use Rattle.ide_values.proofs.passes.Starts.pass_each.Goals as goal

pub loop-page-init : goal.loop-page-init
loop-page-init g c = record {
  leaves =
      leaves_not g.P.L.Lattice.algebra g.P.F.EdgeFn.edge g.P.Problem.targets c.args.graph.now c.args.tables.now 0 (64 * 0) c.args.self.now
      (λ cell low high. absurd (omega (arith, high)));
  comes = stays;
  falls = falls_not g.P.L.Lattice.algebra c.args.self.now;
}

pub loop-page-preserved : goal.loop-page-preserved
loop-page-preserved g c =
    let A = g.P.L.Lattice.algebra in
    let B = g.P.F.EdgeFn.edge in
    let targets = g.P.Problem.targets in
    let graph = c.args.graph.now in
    let tables = c.args.tables.now in
    let page = c.loop-page.page in
    let from : 64 * page + 0 ≡ 64 * page = omega arith in
    let to : 64 * page + 64 ≡ 64 * (page + 1) = omega arith in
    let own : LeavesCells A B targets graph tables (64 * page) (64 * (page + 1)) c.loop-page.self c.pass_cells.new.self =
    subst (λ n. LeavesCells A B targets graph tables n (64 * (page + 1)) c.loop-page.self c.pass_cells.new.self) from
    (subst (λ n. LeavesCells A B targets graph tables (64 * page + 0) n c.loop-page.self c.pass_cells.new.self) to c.in_ok-pass_cells.ensures.leaves) in
    record {
      leaves = leaves_then A B targets graph tables 0 (64 * page) (64 * (page + 1)) c.loop-page.invariant.leaves own;
      comes =
          goes_trans (λ values e. by_entry A B graph targets values e.0 e.1) (λ e. found tables.table e.0 ≡ Some e.1) c.loop-page.invariant.comes c.in_ok-pass_cells.ensures.comes;
      falls = falls_then A c.loop-page.invariant.falls c.in_ok-pass_cells.ensures.falls;
    }

pub returns-clause-rests : goal.returns-clause-rests
returns-clause-rests g c =
    let count = c.cell_count-page-end.ensures.count in
    let pages = c.cell_count-page-end.ensures.pages in
    let all : 64 * c.loop-page.page ≡ c.cell_count-page-end.result = omega (arith, pages, c.loop-page-test.false) in
    leaves_each g.P.L.Lattice.algebra g.P.F.EdgeFn.edge g.P.Problem.targets c.args.graph.now c.args.tables.now c.args.self.now c.loop-page.self c.cell_count-page-end.ensures.shown
    (subst (λ n. LeavesCells g.P.L.Lattice.algebra g.P.F.EdgeFn.edge g.P.Problem.targets c.args.graph.now c.args.tables.now 0 n c.args.self.now c.loop-page.self)
    (all ∙ count) c.loop-page.invariant.leaves)
