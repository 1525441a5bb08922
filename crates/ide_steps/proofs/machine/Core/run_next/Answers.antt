use Rattle.std.proofs.Common.{◌≡◌, arith, subst, sym}
use Rattle.ide_image.specs.Worklist.{IsFree}
use Rattle.ide_steps.specs.Core.{AreInside, CoreData}
use Rattle.ide_steps.specs.Running.{TakesUp}
use Rattle.ide_steps.specs.Walk.{WalksOwed}
use Rattle.ide_steps.proofs.Free.{quiet-free}
use Rattle.ide_steps.proofs.Going.{goes-on, goes-on-then, goes-same, paid-same, paid-then}
use Rattle.ide_steps.proofs.Noted.{remembers-then}
use Rattle.ide_steps.proofs.Walked.{has-no-more, has-paid, has-remembered, walked-falls, walked-pays, walked-remembers}
use Rattle.ide_steps.proofs.machine.Core.run_next.Given.{Over}
use Rattle.ide_steps.proofs.machine.Core.run_next.Goals as goal

-- memory is wanting, and the core is as it was
pub returns-in_err-walked-clause-goes : goal.returns-in_err-walked-clause-goes
returns-in_err-walked-clause-goes g c =
    goes-on g.P.L.Lattice.algebra g.P.F.EdgeFn.edge g.P.Problem.targets c.args.self.now c.next_key.new.self
    (goes-same g.P.L.Lattice.algebra g.P.F.EdgeFn.edge g.P.Problem.targets 0 c.args.self.now c.next_key.new.self c.in_err-walked.ensures.unchanged)

-- the parts of a key, behind a walk or none
pub run-requires-clause-inside : goal.run-requires-clause-inside
run-requires-clause-inside g c =
    let came = subst (TakesUp g.P.F.EdgeFn.edge g.P.Problem.targets 18446744073709551614 c.args.self.now c.next_key.new.self c.next_key.new.parts) c.in-Owes.is
    c.in_ok-walked.ensures.takes in
    subst (AreInside c.next_key.new.self) (sym c.as_slice.ensures) came.2.inside

pub returns-in_err-run-in-Owes-clause-goes : goal.returns-in_err-run-in-Owes-clause-goes
returns-in_err-run-in-Owes-clause-goes g c =
    let A = g.P.L.Lattice.algebra in
    let B = g.P.F.EdgeFn.edge in
    let targets = g.P.Problem.targets in
    let came = subst (TakesUp B targets 18446744073709551614 c.args.self.now c.next_key.new.self c.next_key.new.parts) c.in-Owes.is c.in_ok-walked.ensures.takes in
    let walked = has-paid A B targets c.calls_are_steps.ensures g.met.P.F.EdgeFn.lawful.rank_all_top c.args.self.now c.next_key.new.self c.in-Owes.walked c.requires.free came.1 in
    goes-on-then A B targets c.args.self.now c.next_key.new.self c.run.new.self (goes-on A B targets c.args.self.now c.next_key.new.self walked.goes) c.run.ensures.goes

pub returns-in_err-run-in-Owes-clause-remembers : goal.returns-in_err-run-in-Owes-clause-remembers
returns-in_err-run-in-Owes-clause-remembers g c =
    let came = subst (TakesUp g.P.F.EdgeFn.edge g.P.Problem.targets 18446744073709551614 c.args.self.now c.next_key.new.self c.next_key.new.parts) c.in-Owes.is
    c.in_ok-walked.ensures.takes in
    remembers-then _ _ _
    (has-remembered g.P.L.Lattice.algebra g.P.F.EdgeFn.edge g.P.Problem.targets c.calls_are_steps.ensures g.met.P.F.EdgeFn.lawful.rank_all_top
    c.args.self.now c.next_key.new.self c.in-Owes.walked c.requires.free came.1)
    c.run.ensures.remembers

pub returns-in_ok-run-in-Owes-clause-falls : goal.returns-in_ok-run-in-Owes-clause-falls
returns-in_ok-run-in-Owes-clause-falls g c = λ _.
    let A = g.P.L.Lattice.algebra in
    let B = g.P.F.EdgeFn.edge in
    let targets = g.P.Problem.targets in
    let came = subst (TakesUp B targets 18446744073709551614 c.args.self.now c.next_key.new.self c.next_key.new.parts) c.in-Owes.is c.in_ok-walked.ensures.takes in
    let walked = has-no-more A B targets c.calls_are_steps.ensures g.met.P.F.EdgeFn.lawful.rank_all_top c.args.self.now c.next_key.new.self c.in-Owes.walked c.requires.free came.1 in
    let less = c.in_ok-run-in-Owes.ensures.falls in
    omega (arith, walked, less)

pub returns-in_ok-run-in-Owes-clause-claims : goal.returns-in_ok-run-in-Owes-clause-claims
returns-in_ok-run-in-Owes-clause-claims g c =
    let A = g.P.L.Lattice.algebra in
    let B = g.P.F.EdgeFn.edge in
    let targets = g.P.Problem.targets in
    let came = subst (TakesUp B targets 18446744073709551614 c.args.self.now c.next_key.new.self c.next_key.new.parts) c.in-Owes.is c.in_ok-walked.ensures.takes in
    paid-then A B targets c.args.self.now c.next_key.new.self c.run.new.self
    (has-paid A B targets c.calls_are_steps.ensures g.met.P.F.EdgeFn.lawful.rank_all_top c.args.self.now c.next_key.new.self c.in-Owes.walked c.requires.free came.1)
    c.in_ok-run-in-Owes.ensures.claims

pub returns-in_ok-run-in-Owes-clause-goes : goal.returns-in_ok-run-in-Owes-clause-goes
returns-in_ok-run-in-Owes-clause-goes g c =
    goes-on g.P.L.Lattice.algebra g.P.F.EdgeFn.edge g.P.Problem.targets c.args.self.now c.run.new.self (returns-in_ok-run-in-Owes-clause-claims g c).goes

pub returns-in_ok-run-in-Owes-clause-remembers : goal.returns-in_ok-run-in-Owes-clause-remembers
returns-in_ok-run-in-Owes-clause-remembers g c =
    let came = subst (TakesUp g.P.F.EdgeFn.edge g.P.Problem.targets 18446744073709551614 c.args.self.now c.next_key.new.self c.next_key.new.parts) c.in-Owes.is
    c.in_ok-walked.ensures.takes in
    remembers-then _ _ _
    (has-remembered g.P.L.Lattice.algebra g.P.F.EdgeFn.edge g.P.Problem.targets c.calls_are_steps.ensures g.met.P.F.EdgeFn.lawful.rank_all_top
    c.args.self.now c.next_key.new.self c.in-Owes.walked c.requires.free came.1)
    c.run.ensures.remembers

-- a walk over some nodes, behind which memory is wanting
walks : (g : Over) (c : goal.In-Walked g) → WalksOwed g.P.F.EdgeFn.edge g.P.Problem.targets c.args.self.now c.next_key.new.self c.in-Walked.count
walks g c =
    let came = subst (TakesUp g.P.F.EdgeFn.edge g.P.Problem.targets 18446744073709551614 c.args.self.now c.next_key.new.self c.next_key.new.parts) c.in-Walked.is
    c.in_ok-walked.ensures.takes in
    came.2

pub returns-in-Walked-clause-falls : goal.returns-in-Walked-clause-falls
returns-in-Walked-clause-falls g c =
    walked-falls g.P.L.Lattice.algebra g.P.F.EdgeFn.edge g.P.Problem.targets c.calls_are_steps.ensures g.met.P.F.EdgeFn.lawful.rank_all_top
    c.args.self.now c.next_key.new.self c.in-Walked.count c.requires.free (walks g c)

pub returns-in-Walked-clause-claims : goal.returns-in-Walked-clause-claims
returns-in-Walked-clause-claims g c =
    walked-pays g.P.L.Lattice.algebra g.P.F.EdgeFn.edge g.P.Problem.targets c.calls_are_steps.ensures g.met.P.F.EdgeFn.lawful.rank_all_top
    c.args.self.now c.next_key.new.self c.in-Walked.count c.requires.free (walks g c)

pub returns-in-Walked-clause-goes : goal.returns-in-Walked-clause-goes
returns-in-Walked-clause-goes g c =
    goes-on g.P.L.Lattice.algebra g.P.F.EdgeFn.edge g.P.Problem.targets c.args.self.now c.next_key.new.self (returns-in-Walked-clause-claims g c).goes

pub returns-in-Walked-clause-remembers : goal.returns-in-Walked-clause-remembers
returns-in-Walked-clause-remembers g c =
    walked-remembers g.P.L.Lattice.algebra g.P.F.EdgeFn.edge g.P.Problem.targets c.calls_are_steps.ensures g.met.P.F.EdgeFn.lawful.rank_all_top
    c.args.self.now c.next_key.new.self c.in-Walked.count c.requires.free (walks g c)

-- no key is pending
still : (g : Over) (c : goal.In-Nothing g) → c.next_key.new.self ≡ c.args.self.now
still g c =
    let came = subst (TakesUp g.P.F.EdgeFn.edge g.P.Problem.targets 18446744073709551614 c.args.self.now c.next_key.new.self c.next_key.new.parts) c.in-Nothing.is
    c.in_ok-walked.ensures.takes in
    came.0

pub returns-in-Nothing-clause-quiet : goal.returns-in-Nothing-clause-quiet
returns-in-Nothing-clause-quiet g c = λ _.
    let came = subst (TakesUp g.P.F.EdgeFn.edge g.P.Problem.targets 18446744073709551614 c.args.self.now c.next_key.new.self c.next_key.new.parts) c.in-Nothing.is
    c.in_ok-walked.ensures.takes in
    quiet-free c.next_key.new.self.pile (subst (λ (core : CoreData g.row.P-F.Denot). IsFree core.pile) (sym came.0) c.requires.free) came.1

pub returns-in-Nothing-clause-claims : goal.returns-in-Nothing-clause-claims
returns-in-Nothing-clause-claims g c =
    paid-same g.P.L.Lattice.algebra g.P.F.EdgeFn.edge g.P.Problem.targets c.args.self.now c.next_key.new.self (still g c)

pub returns-in-Nothing-clause-goes : goal.returns-in-Nothing-clause-goes
returns-in-Nothing-clause-goes g c =
    goes-on g.P.L.Lattice.algebra g.P.F.EdgeFn.edge g.P.Problem.targets c.args.self.now c.next_key.new.self
    (goes-same g.P.L.Lattice.algebra g.P.F.EdgeFn.edge g.P.Problem.targets 0 c.args.self.now c.next_key.new.self (still g c))
