use Rattle.std.proofs.Common.{◌≡◌, [], drop, length, rules, refl, ap, ◌∙◌, arith}
use Rattle.std.proofs.lemmas.List.{drop_all}
use Rattle.ide_image.specs.Worklist.{claim_at}
use Rattle.ide_tasks.specs.Parts.{owed}
use Rattle.ide_steps.proofs.Noted.{remembers-same}
use Rattle.ide_steps.specs.PartRefusal.{left, other}
use Rattle.ide_steps.proofs.Refusing.{read-within, wants-note}
use Rattle.ide_steps.proofs.States.{claim-of-work}
use Rattle.ide_steps.proofs.machine.Core.finish.Goals as goal

pub returns-then-not-is_current-clause-refused : goal.returns-then-not-is_current-clause-refused
returns-then-not-is_current-clause-refused g c = other (λ is. let yes = c.is_current.ensures.current.1 is in cc (yes, c.if-not-is_current.true))

pub returns-then-is_some-clause-refused : goal.returns-then-is_some-clause-refused
returns-then-is_some-clause-refused g c =
    left (c.is_current.ensures.current.0 c.if-not-is_current.false) (read-within c.args.work.now.parts c.args.work.now.done c.next.result c.next.ensures.next (search rules))

pub returns-then-not-is_current-clause-remembers : goal.returns-then-not-is_current-clause-remembers
returns-then-not-is_current-clause-remembers g c = remembers-same _ _ refl refl refl

pub returns-then-is_some-clause-remembers : goal.returns-then-is_some-clause-remembers
returns-then-is_some-clause-remembers g c = remembers-same _ _ refl refl refl

pub returns-in_err-end_claim-clause-refused : goal.returns-in_err-end_claim-clause-refused
returns-in_err-end_claim-clause-refused g c =
    let over : c.args.work.now.done ≡ length c.args.work.now.parts = search rules in
    wants-note g.P.F.EdgeFn.edge g.P.Problem.targets c.args.self.now c.args.hand c.args.work.now c.from_residual.result
    (record { claim = c.is_current.ensures.current.0 c.if-not-is_current.false; parts = c.is_current.ensures.owed c.if-not-is_current.false })
    over (search rules) (λ none. absurd (search rules))

-- the claim's task is the work's, of which no part is left
pub returns-clause-finished : goal.returns-clause-finished
returns-clause-finished g c =
    let B = g.P.F.EdgeFn.edge in
    let targets = g.P.Problem.targets in
    let work = c.args.work.now in
    let there = claim-of-work work (claim_at c.args.self.now.pile c.args.hand) (c.is_current.ensures.current.0 c.if-not-is_current.false) in
    let task = there.2 in
    let done = there.3 in
    let all = ap length (c.is_current.ensures.owed c.if-not-is_current.false) in
    let over : work.done ≡ length work.parts = search rules in
    let none : drop work.done (owed B targets work.task) ≡ [] = drop_all work.done (owed B targets work.task) (omega (arith, over, all)) in (
      there.0,
      there.1,
      ap (λ n. drop n (owed B targets there.0.task)) done ∙ (ap (λ task. drop work.done (owed B targets task)) task ∙ none),
      c.in_ok-end_claim.ensures.finished there.0 there.1,
    )
