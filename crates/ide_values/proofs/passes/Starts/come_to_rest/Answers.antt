use Rattle.std.proofs.Common.{◌≡◌, ◌<◌, Some, arith, false, subst, sym}
use Rattle.ide_image.specs.Tables.{found}
use Rattle.ide_values.specs.Falling.{ranks}
use Rattle.ide_values.specs.Pass.{by_entry, stays}
use Rattle.ide_values.specs.Settled.{IsSteady}
use Rattle.ide_values.proofs.Coming.{goes_trans}
use Rattle.ide_values.proofs.Falling.{falls_once}
use Rattle.ide_values.proofs.passes.Starts.come_to_rest.Goals as goal

pub loop-targets-init : goal.loop-targets-init
loop-targets-init g c = stays

pub loop-targets-preserved : goal.loop-targets-preserved
loop-targets-preserved g c =
    goes_trans (λ values e. by_entry g.P.L.Lattice.algebra g.P.F.EdgeFn.edge c.args.graph.now g.P.Problem.targets values e.0 e.1) (λ e. found c.args.tables.now.table e.0 ≡ Some e.1)
    (goes_trans (λ values e. by_entry g.P.L.Lattice.algebra g.P.F.EdgeFn.edge c.args.graph.now g.P.Problem.targets values e.0 e.1) (λ e. found c.args.tables.now.table e.0 ≡ Some e.1) c.loop-targets.invariant c.in_ok-settle.ensures.comes)
    c.in_ok-pass_each.ensures.comes

pub returns-then-not-self-clause-comes : goal.returns-then-not-self-clause-comes
returns-then-not-self-clause-comes g c =
    goes_trans (λ values e. by_entry g.P.L.Lattice.algebra g.P.F.EdgeFn.edge c.args.graph.now g.P.Problem.targets values e.0 e.1) (λ e. found c.args.tables.now.table e.0 ≡ Some e.1)
    (goes_trans (λ values e. by_entry g.P.L.Lattice.algebra g.P.F.EdgeFn.edge c.args.graph.now g.P.Problem.targets values e.0 e.1) (λ e. found c.args.tables.now.table e.0 ≡ Some e.1) c.loop-targets.invariant c.in_ok-settle.ensures.comes)
    c.in_ok-pass_each.ensures.comes

pub returns-then-not-self-clause-steady : goal.returns-then-not-self-clause-steady
returns-then-not-self-clause-steady g c =
    let calm : c.pass_each.new.self.has_fallen ≡ false = c.if-not-self.true in
    subst (IsSteady g.P.L.Lattice.algebra g.P.F.EdgeFn.edge g.P.Problem.targets c.args.graph.now c.args.tables.now.table)
    (sym (c.in_ok-pass_each.ensures.rests.same calm)) (c.in_ok-pass_each.ensures.rests.steady calm)

pub loop-targets-smaller : goal.loop-targets-smaller
loop-targets-smaller g c =
    let fell : ranks g.P.L.Lattice.algebra c.pass_each.new.self.values.items < ranks g.P.L.Lattice.algebra c.settle.new.self.values.items =
    falls_once g.P.L.Lattice.algebra c.settle.new.self.values.items c.pass_each.new.self.values.items c.pass_each.new.self.has_fallen c.if-not-self.false c.in_ok-pass_each.ensures.falls.marked in
    omega (arith, fell, c.in_ok-settle.ensures.falls)
