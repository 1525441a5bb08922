use Rattle.std.proofs.Common.{◌+◌, refl, arith}
use Rattle.std.proofs.lemmas.Result.{err_from_is_err_and}
use Rattle.ide_steps.proofs.States.{handed-on}
use Rattle.ide_store.specs.Draining.{IsWorkStop}
use Rattle.ide_store.proofs.Drained.{works_still, works_then}
use Rattle.ide_store.specs.Table.{Analysis}
use Rattle.ide_store.proofs.table.TableHalf.run_all.Given.{Over}
use Rattle.ide_store.proofs.table.TableHalf.run_all.Goals as goal

-- the analysis of the store
abbrev kept : (g : Over) → Analysis g.row.P-F.Denot g.row.P-L.Denot
kept g = record {
  lattice = g.P.L.Lattice.algebra;
  functions = g.P.F.EdgeFn.edge;
  targets = g.P.Problem.targets;
  same = g.P.F.PartialEq.eq;
  proper = g.P.F.Wire.proper;
  form = g.P.F.Wire.form;
}

pub loop-parts-init : goal.loop-parts-init
loop-parts-init g c = ((0, refl, works_still (kept g) _ _ (λ place w handed reached on. on)), c.requires)

pub loop-parts-preserved : goal.loop-parts-preserved
loop-parts-preserved g c =
    let before = c.loop-parts.invariant.0 in
    let here = before.1 in
    let more = c.saturating_add-tasks.ensures in (
      (
        before.0 + c.in_ok-count.count,
        omega (arith, here, more),
        works_then (kept g) c.args.self.now c.loop-parts.self c.run_next.new.self before.0 0 c.in_ok-count.count 0 before.2 c.in_ok-count.ensures.works,
      ),
      c.run_next.ensures.may,
    )

pub returns-then-count-eq0-clause-drains : goal.returns-then-count-eq0-clause-drains
returns-then-count-eq0-clause-drains g c =
    let before = c.loop-parts.invariant.0 in
    let here = before.1 in
    let none = c.if-count-eq0.true in (
      before.0 + c.in_ok-count.count,
      omega (arith, here, none),
      works_then (kept g) c.args.self.now c.loop-parts.self c.run_next.new.self before.0 0 c.in_ok-count.count 0 before.2 c.in_ok-count.ensures.works,
    )

pub returns-then-count-eq0-clause-stops : goal.returns-then-count-eq0-clause-stops
returns-then-count-eq0-clause-stops g c = let drains = returns-then-count-eq0-clause-drains g c in (drains.0, 0, omega arith, drains.2)

pub returns-in_err-count-clause-stops : goal.returns-in_err-count-clause-stops
returns-in_err-count-clause-stops g c =
    let before = c.loop-parts.invariant.0 in
    let stops = c.run_next.ensures.stops in
    let few = stops.2 in (
      before.0 + stops.0,
      0 + stops.1,
      omega (arith, few),
      works_then (kept g) c.args.self.now c.loop-parts.self c.run_next.new.self before.0 0 stops.0 stops.1 before.2 stops.3,
    )

pub returns-in_err-count-clause-refused : goal.returns-in_err-count-clause-refused
returns-in_err-count-clause-refused g c =
    let p = err_from_is_err_and c.from_residual.result c.from_residual.ensures.1 in
    handed-on (IsWorkStop _ _ c.run_next.new.self) c.from_residual.result c.in_err-count.field-0.0 p.0 p.1 p.2 c.in_err-count.ensures.refused
