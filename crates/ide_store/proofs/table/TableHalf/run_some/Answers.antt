use Rattle.std.proofs.Common.{◌+◌, arith, refl, subst}
use Rattle.ide_store.proofs.Drained.{rest_then, works_still, works_then}
use Rattle.ide_store.specs.Draining.{RunsKeys}
use Rattle.ide_store.specs.Table.{Analysis}
use Rattle.ide_store.proofs.table.TableHalf.run_some.Given.{Over}
use Rattle.ide_store.proofs.table.TableHalf.run_some.Goals as goal

-- the analysis of the store
abbrev kept : (g : Over) → Analysis g.row.P-F.Denot g.row.P-L.Denot
kept g = record {
  lattice = g.P.L.Lattice.algebra;
  functions = g.P.F.EdgeFn.edge;
  targets = g.P.Problem.targets;
  same = g.P.F.PartialEq.eq;
  proper = g.P.F.Wire.proper;
  form = g.P.F.Wire.form;
}

pub loop-tasks-init : goal.loop-tasks-init
loop-tasks-init g c = (
  works_still (kept g) _ _ (λ place w handed reached on. on),
  omega arith,
  record { version = refl; sealed = refl; waiting = refl; failed = refl },
  c.requires,
)

pub loop-tasks-preserved : goal.loop-tasks-preserved
loop-tasks-preserved g c =
    let before = c.loop-tasks.invariant in
    let few = c.in_ok-count.ensures.most in (
      works_then (kept g) c.args.self.now c.loop-tasks.self c.run_next.new.self c.loop-tasks.tasks 0 c.in_ok-count.count 0 before.0 c.in_ok-count.ensures.works,
      omega (arith, few),
      rest_then c.args.self.now c.loop-tasks.self c.run_next.new.self before.2 (c.run_next.ensures.rest refl),
      c.run_next.ensures.may,
    )

pub returns-then-count-eq0-clause-runs : goal.returns-then-count-eq0-clause-runs
returns-then-count-eq0-clause-runs g c =
    let before = c.loop-tasks.invariant in
    let none = c.if-count-eq0.true in
    subst (λ tasks. RunsKeys (kept g) c.args.self.now c.run_next.new.self tasks) (omega (arith, none))
    (works_then (kept g) c.args.self.now c.loop-tasks.self c.run_next.new.self c.loop-tasks.tasks 0 c.in_ok-count.count 0 before.0 c.in_ok-count.ensures.works)

pub returns-then-count-eq0-clause-stops : goal.returns-then-count-eq0-clause-stops
returns-then-count-eq0-clause-stops g c = (c.loop-tasks.tasks, 0, omega arith, returns-then-count-eq0-clause-runs g c)

pub returns-in_err-count-clause-stops : goal.returns-in_err-count-clause-stops
returns-in_err-count-clause-stops g c =
    let before = c.loop-tasks.invariant in
    let stops = c.run_next.ensures.stops in
    let few = stops.2 in (
      c.loop-tasks.tasks + stops.0,
      0 + stops.1,
      omega (arith, few),
      works_then (kept g) c.args.self.now c.loop-tasks.self c.run_next.new.self c.loop-tasks.tasks 0 stops.0 stops.1 before.0 stops.3,
    )
