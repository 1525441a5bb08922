use Rattle.std.proofs.Common.{◌≡◌, ◌+◌, None, ap, arith, false, true, get_or, length, refl, rules, subst, sym}
use Rattle.ide_steps.specs.Going.{GoesOn}
use Rattle.ide_steps.specs.Running.{WorksOff}
use Rattle.ide_steps.proofs.Free.{none-claimed}
use Rattle.ide_steps.proofs.Going.{goes-on}
use Rattle.ide_steps.proofs.Noted.{remembers-then}
use Rattle.ide_steps.proofs.Running.{key-begins, key-runs, key-stops}
use Rattle.ide_steps.proofs.machine.Core.run.Goals as goal

-- some parts are done, and to a run the claim is given back
pub returns-in_err-is_lowered-clause-goes : goal.returns-in_err-is_lowered-clause-goes
returns-in_err-is_lowered-clause-goes g c =
    let A = g.P.L.Lattice.algebra in
    let B = g.P.F.EdgeFn.edge in
    let targets = g.P.Problem.targets in
    let owed = c.requires.owed in
    let some = c.do_parts.ensures.some in
    key-stops A B targets 0 c.args.self.now c.do_parts.new.self c.args.key c.args.parts.now some.0 some.1 some.2 owed.task owed.owes
    (key-begins A B targets c.calls_are_steps.ensures c.args.self.now c.args.key c.args.parts.now c.requires.free c.requires.pending owed)
    (c.do_parts.ensures.free 0)

pub returns-in_err-settle_owed-clause-goes : goal.returns-in_err-settle_owed-clause-goes
returns-in_err-settle_owed-clause-goes g c =
    let A = g.P.L.Lattice.algebra in
    let B = g.P.F.EdgeFn.edge in
    let targets = g.P.Problem.targets in
    let owed = c.requires.owed in
    subst (GoesOn A B targets 0 c.args.self.now) (sym c.in_err-settle_owed.ensures.unchanged)
    (key-stops A B targets 0 c.args.self.now c.do_parts.new.self c.args.key c.args.parts.now (length c.args.parts.now) c.in_ok-is_lowered.is_lowered
    c.in_ok-is_lowered.ensures.all owed.task owed.owes
    (key-begins A B targets c.calls_are_steps.ensures c.args.self.now c.args.key c.args.parts.now c.requires.free c.requires.pending owed)
    (c.do_parts.ensures.free 0))

-- no part lowered the key itself, and it is taken out
pub returns-in_ok-settle_owed-clause-claims : goal.returns-in_ok-settle_owed-clause-claims
returns-in_ok-settle_owed-clause-claims g c =
    let A = g.P.L.Lattice.algebra in
    let B = g.P.F.EdgeFn.edge in
    let targets = g.P.Problem.targets in
    let start = c.args.self.now in
    let mid = c.do_parts.new.self in
    let new = c.settle_owed.new.self in
    let key = c.args.key in
    let parts = c.args.parts.now in
    let owed = c.requires.owed in
    let settled = c.in_ok-settle_owed.ensures.settled in
    let one = settled.count in
    let unlowered : c.in_ok-is_lowered.is_lowered ≡ false = search rules in
    let works = subst (λ b. WorksOff A B targets 0 key parts (length parts) b start mid) unlowered c.in_ok-is_lowered.ensures.all in
    let runs = key-runs A B targets 0 start mid new key parts false works c.settle_owed.ensures.table (omega (arith, one)) owed.task owed.owes
    (key-begins A B targets c.calls_are_steps.ensures start key parts c.requires.free c.requires.pending owed)
    c.settle_owed.ensures.stays (c.do_parts.ensures.free 0) (λ h. ap (λ claims. get_or claims h None) c.settle_owed.ensures.claims) c.do_parts.ensures.pending settled.pending in
    record { lowerings = 0 + works.lowerings + 0; goes = runs.0; paid = runs.1 }

pub returns-in_ok-settle_owed-clause-goes : goal.returns-in_ok-settle_owed-clause-goes
returns-in_ok-settle_owed-clause-goes g c =
    goes-on g.P.L.Lattice.algebra g.P.F.EdgeFn.edge g.P.Problem.targets c.args.self.now c.settle_owed.new.self (returns-in_ok-settle_owed-clause-claims g c).goes

pub returns-in_ok-settle_owed-clause-remembers : goal.returns-in_ok-settle_owed-clause-remembers
returns-in_ok-settle_owed-clause-remembers g c = remembers-then _ _ _ c.do_parts.ensures.remembers c.settle_owed.ensures.remembers

-- a part lowered it, and it stays pending
pub returns-else-not-is_lowered-clause-claims : goal.returns-else-not-is_lowered-clause-claims
returns-else-not-is_lowered-clause-claims g c =
    let A = g.P.L.Lattice.algebra in
    let B = g.P.F.EdgeFn.edge in
    let targets = g.P.Problem.targets in
    let start = c.args.self.now in
    let mid = c.do_parts.new.self in
    let key = c.args.key in
    let parts = c.args.parts.now in
    let owed = c.requires.owed in
    let lowered : c.in_ok-is_lowered.is_lowered ≡ true = search rules in
    let works = subst (λ b. WorksOff A B targets 0 key parts (length parts) b start mid) lowered c.in_ok-is_lowered.ensures.all in
    let runs = key-runs A B targets 0 start mid mid key parts true works refl (omega arith) owed.task owed.owes
    (key-begins A B targets c.calls_are_steps.ensures start key parts c.requires.free c.requires.pending owed)
    (record { program = refl; graph = refl; roots = refl }) (c.do_parts.ensures.free 0) (λ h. refl) c.do_parts.ensures.pending (λ q. refl) in
    record { lowerings = 0 + works.lowerings + 0; goes = runs.0; paid = runs.1 }

pub returns-else-not-is_lowered-clause-goes : goal.returns-else-not-is_lowered-clause-goes
returns-else-not-is_lowered-clause-goes g c =
    goes-on g.P.L.Lattice.algebra g.P.F.EdgeFn.edge g.P.Problem.targets c.args.self.now c.do_parts.new.self (returns-else-not-is_lowered-clause-claims g c).goes

pub settle_owed-requires-clause-unclaimed : goal.settle_owed-requires-clause-unclaimed
settle_owed-requires-clause-unclaimed g c = none-claimed c.do_parts.new.self.pile c.do_parts.ensures.free c.args.key
