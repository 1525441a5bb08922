use Rattle.std.proofs.Common.{◌∙◌}
use Rattle.ide_image.specs.Notes.{ended_key}
use Rattle.ide_image.specs.Worklist.{claim_at, is_pending}
use Rattle.ide_steps.proofs.Nodes.{kept-equal, kept-finished}
use Rattle.ide_steps.proofs.Noted.{end-kept, notes-change, remembers-change, remembers-image, same-entry}
use Rattle.ide_steps.proofs.States.{state-finished}
use Rattle.ide_steps.proofs.machine.Core.end_claim.Goals as goal

pub returns-clause-finished : goal.returns-clause-finished
returns-clause-finished g c =
    rw (← c.self.view_is)
    (λ held is. state-finished g.P.F.EdgeFn.edge g.P.Problem.targets c.self.inside.image.table c.finish.new.self.table c.self.inside.image.pile c.finish.new.self.pile c.args.hand held
    c.in_ok-finish.ensures.held is c.in_ok-finish.ensures.table c.in_ok-finish.ensures.pending c.in_ok-finish.ensures.claims)

pub invariant_of-self-2 : goal.invariant_of-self-2
invariant_of-self-2 g c = λ loaded is.
    let kept = c.self.invariant loaded is in (
      kept.0,
      kept-finished g.P.F.EdgeFn.edge g.P.Problem.targets loaded.graph c.self.inside.image.pile c.finish.new.self.pile kept.1 c.args.hand (claim_at c.self.inside.image.pile c.args.hand)
          c.in_ok-finish.ensures.pending c.in_ok-finish.ensures.claims,
    )

pub returns-clause-notes : goal.returns-clause-notes
returns-clause-notes g c =
    rw (← c.self.view_is) (notes-change _ _ (ended_key (claim_at c.self.inside.image.pile c.args.hand)) c.in_ok-finish.ensures.noted)

pub returns-clause-remembers : goal.returns-clause-remembers
returns-clause-remembers g c =
    let image = c.self.inside.image in
    let new = c.finish.new.self in
    rw (← c.self.view_is)
    (remembers-change _ _ (ended_key (claim_at image.pile c.args.hand)) c.in_ok-finish.ensures.noted
    (λ q other. same-entry image.table new.table image.pile new.pile q c.in_ok-finish.ensures.table
    (c.in_ok-finish.ensures.pending q ∙ end-kept (claim_at image.pile c.args.hand) q (is_pending image.pile q) other)))

pub returns-in_err-finish-clause-remembers : goal.returns-in_err-finish-clause-remembers
returns-in_err-finish-clause-remembers g c =
    rw (← c.self.view_is) (remembers-image _ _ c.in_err-finish.ensures.err)

pub invariant_of-self : goal.invariant_of-self
invariant_of-self g c = λ loaded is.
    let kept = c.self.invariant loaded is in
    (kept.0, kept-equal g.P.F.EdgeFn.edge g.P.Problem.targets loaded.graph c.self.inside.image c.finish.new.self kept.1 c.in_err-finish.ensures.err)
