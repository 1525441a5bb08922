use Rattle.std.proofs.Common.{◌+◌, refl, arith}
use Rattle.ide_steps.proofs.Going.{goes-on, goes-on-then, paid-same, paid-then}
use Rattle.ide_steps.proofs.Noted.{remembers-same, remembers-then}
use Rattle.ide_steps.proofs.machine.Core.run_all.Goals as goal

pub returns-in_err-count-clause-goes : goal.returns-in_err-count-clause-goes
returns-in_err-count-clause-goes g c =
    let A = g.P.L.Lattice.algebra in
    let B = g.P.F.EdgeFn.edge in
    let targets = g.P.Problem.targets in
    goes-on-then A B targets c.args.self.now c.loop-parts.self c.run_next.new.self
    (goes-on A B targets c.args.self.now c.loop-parts.self c.loop-parts.invariant.0.2.goes) c.run_next.ensures.goes

pub returns-then-count-eq0-clause-claims : goal.returns-then-count-eq0-clause-claims
returns-then-count-eq0-clause-claims g c =
    let A = g.P.L.Lattice.algebra in
    let B = g.P.F.EdgeFn.edge in
    let targets = g.P.Problem.targets in
    let before = c.loop-parts.invariant.0 in
    let here = before.1 in
    let none = c.if-count-eq0.true in (
      before.0 + c.in_ok-count.count,
      omega (arith, here, none),
      paid-then A B targets c.args.self.now c.loop-parts.self c.run_next.new.self before.2 c.in_ok-count.ensures.claims,
    )

pub returns-then-count-eq0-clause-goes : goal.returns-then-count-eq0-clause-goes
returns-then-count-eq0-clause-goes g c =
    goes-on g.P.L.Lattice.algebra g.P.F.EdgeFn.edge g.P.Problem.targets c.args.self.now c.run_next.new.self (returns-then-count-eq0-clause-claims g c).2.goes

pub loop-parts-init : goal.loop-parts-init
loop-parts-init g c = (
  (0, refl, paid-same g.P.L.Lattice.algebra g.P.F.EdgeFn.edge g.P.Problem.targets c.args.self.now c.args.self.now refl),
  c.requires.free,
  remembers-same _ _ refl refl refl,
)

pub loop-parts-preserved : goal.loop-parts-preserved
loop-parts-preserved g c =
    let A = g.P.L.Lattice.algebra in
    let B = g.P.F.EdgeFn.edge in
    let targets = g.P.Problem.targets in
    let before = c.loop-parts.invariant.0 in
    let here = before.1 in
    let more = c.saturating_add-tasks.ensures in (
      (
        before.0 + c.in_ok-count.count,
        omega (arith, here, more),
        paid-then A B targets c.args.self.now c.loop-parts.self c.run_next.new.self before.2 c.in_ok-count.ensures.claims,
      ),
      c.in_ok-count.ensures.free,
      remembers-then _ _ _ c.loop-parts.invariant.2 c.run_next.ensures.remembers,
    )

pub returns-in_err-count-clause-remembers : goal.returns-in_err-count-clause-remembers
returns-in_err-count-clause-remembers g c = remembers-then _ _ _ c.loop-parts.invariant.2 c.run_next.ensures.remembers

pub returns-then-count-eq0-clause-remembers : goal.returns-then-count-eq0-clause-remembers
returns-then-count-eq0-clause-remembers g c = remembers-then _ _ _ c.loop-parts.invariant.2 c.run_next.ensures.remembers
