use Rattle.std.proofs.Common.{◌≡◌, Some, ap, arith, subst}
use Rattle.ide_image.specs.Tables.{found}
use Rattle.ide_values.specs.Falling.{ranks}
use Rattle.ide_values.specs.Pass.{by_entry, stays}
use Rattle.ide_values.specs.Settled.{ComesTo}
use Rattle.ide_values.proofs.Coming.{goes_trans}
use Rattle.ide_values.proofs.passes.Starts.settle.Goals as goal

pub loop-place-init : goal.loop-place-init
loop-place-init g c = record { comes = stays; falls = omega arith }

pub loop-place-preserved : goal.loop-place-preserved
loop-place-preserved g c =
    let kept : ranks g.P.L.Lattice.algebra c.leave.new.self.values.items ≡ ranks g.P.L.Lattice.algebra c.loop-place.self.values.items =
    ap (λ v. ranks g.P.L.Lattice.algebra v.items) c.leave.ensures.values in
    record {
      comes =
          goes_trans (λ values e. by_entry g.P.L.Lattice.algebra g.P.F.EdgeFn.edge c.args.graph.now g.P.Problem.targets values e.0 e.1) (λ e. found c.args.tables.now.table e.0 ≡ Some e.1) c.loop-place.invariant.comes
          (subst (λ vs. ComesTo g.P.L.Lattice.algebra g.P.F.EdgeFn.edge g.P.Problem.targets c.args.graph.now c.args.tables.now.table vs c.pass_from.new.self.values.items)
          (ap (λ v. v.items) c.leave.ensures.values) c.in_ok-pass_from.ensures.comes);
      falls = omega (arith, kept, c.in_ok-pass_from.ensures.falls.least, c.loop-place.invariant.falls);
    }

pub loop-place-smaller : goal.loop-place-smaller
loop-place-smaller g c =
    let kept : ranks g.P.L.Lattice.algebra c.leave.new.self.values.items ≡ ranks g.P.L.Lattice.algebra c.loop-place.self.values.items =
    ap (λ v. ranks g.P.L.Lattice.algebra v.items) c.leave.ensures.values in
    omega (arith, kept, c.in_ok-pass_from.ensures.falls.waiting, c.in-Some.ensures.waits)
