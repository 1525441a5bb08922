use Rattle.std.proofs.Common.{Some, ap, false, ◌∙◌}
use Rattle.std.specs.Prelude.{◌&&◌, not}
use Rattle.ide_wire.specs.Key.{same_key}
use Rattle.ide_image.specs.Worklist.{is_pending}
use Rattle.ide_steps.proofs.Nodes.{kept-equal, kept-set}
use Rattle.ide_steps.proofs.Noted.{notes-change, remembers-change, remembers-image, same-entry}
use Rattle.ide_steps.proofs.Running.{not-or-as}
use Rattle.ide_steps.proofs.machine.Core.settle_owed.Goals as goal

pub invariant_of-self-2 : goal.invariant_of-self-2
invariant_of-self-2 g c = λ loaded is.
    let kept = c.self.invariant loaded is in
    let waits = rw (← c.self.view_is) at c.requires.pending in (
      kept.0,
      kept-set g.P.F.EdgeFn.edge g.P.Problem.targets loaded.graph c.self.inside.image.pile c.settle.new.self.pile kept.1 c.args.key false
          (kept.1.pending c.args.key waits) (λ q. c.in_ok-settle.ensures.pending q ∙ not-or-as (same_key c.args.key q) (is_pending c.self.inside.image.pile q))
          c.settle.ensures.claims,
    )

pub returns-clause-remembers : goal.returns-clause-remembers
returns-clause-remembers g c =
    let image = c.self.inside.image in
    let new = c.settle.new.self in
    rw (← c.self.view_is)
    (remembers-change _ _ (Some c.args.key) c.in_ok-settle.ensures.noted
    (λ q other. same-entry image.table new.table image.pile new.pile q c.settle.ensures.table
    (c.in_ok-settle.ensures.pending q ∙ ap (λ b. not b && is_pending image.pile q) other)))

pub returns-in_err-settle-clause-remembers : goal.returns-in_err-settle-clause-remembers
returns-in_err-settle-clause-remembers g c =
    rw (← c.self.view_is) (remembers-image _ _ c.in_err-settle.ensures.err)

pub returns-clause-notes : goal.returns-clause-notes
returns-clause-notes g c = rw (← c.self.view_is) (notes-change _ _ (Some c.args.key) c.in_ok-settle.ensures.noted)

pub invariant_of-self : goal.invariant_of-self
invariant_of-self g c = λ loaded is.
    let kept = c.self.invariant loaded is in
    (kept.0, kept-equal g.P.F.EdgeFn.edge g.P.Problem.targets loaded.graph c.self.inside.image c.settle.new.self kept.1 c.in_err-settle.ensures.err)
