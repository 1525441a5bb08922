use Rattle.std.proofs.Common.{◌∙◌, ap, subst, sym, Some}
use Rattle.std.specs.Option.{IsSomeAnd}
use Rattle.ide_wire.specs.Key.{same_key}
use Rattle.ide_steps.specs.Core.{CoreData}
use Rattle.ide_steps.specs.Items.{IsKeyOf}
use Rattle.ide_steps.proofs.Listed.{none-claimed}
use Rattle.ide_steps.proofs.Nodes.{kept-equal, kept-set, through}
use Rattle.ide_steps.proofs.Noted.{entry-other, notes-change, remembers-change, remembers-image}
use Rattle.ide_steps.proofs.Room.{key-stands}
use Rattle.ide_steps.proofs.machine.Core.set.Goals as goal

pub set-requires : goal.set-requires
set-requires g c =
    record { unclaimed = none-claimed c.args.key c.self.inside.image.pile.claims (rw (← c.self.view_is) at c.requires.unclaimed) }

pub invariant_of-self : goal.invariant_of-self
invariant_of-self g c = λ loaded is.
    let kept = c.self.invariant loaded is in
    (kept.0, kept-equal g.P.F.EdgeFn.edge g.P.Problem.targets loaded.graph c.self.inside.image c.set.new.self kept.1 c.in_err-set.ensures.err)

pub invariant_of-self-2 : goal.invariant_of-self-2
invariant_of-self-2 g c = λ loaded is.
    let kept = c.self.invariant loaded is in
    let graph = ap (λ (core : CoreData g.row.P-F.Denot). core.graph) (sym c.self.view_is) ∙ through _ c.self.inside.loaded loaded is (λ l. l.graph) in
    let key = subst (λ o. IsSomeAnd o (λ graph. IsKeyOf graph c.args.key)) graph c.requires.place in (
      kept.0,
      kept-set g.P.F.EdgeFn.edge g.P.Problem.targets loaded.graph c.self.inside.image.pile c.set.new.self.pile kept.1 c.args.key c.args.pending
          (key-stands loaded.graph kept.0.sited c.args.key key.stands) c.in_ok-set.ensures.pending c.set.ensures.claims,
    )

pub returns-clause-notes : goal.returns-clause-notes
returns-clause-notes g c = rw (← c.self.view_is) (notes-change _ _ (Some c.args.key) c.in_ok-set.ensures.noted)

pub returns-clause-remembers : goal.returns-clause-remembers
returns-clause-remembers g c =
    let image = c.self.inside.image in
    let new = c.set.new.self in
    rw (← c.self.view_is)
    (remembers-change _ _ (Some c.args.key) c.in_ok-set.ensures.noted
    (λ q other. entry-other image.table new.table image.pile new.pile q (same_key c.args.key q) (Some c.args.function) c.args.pending other
    (c.in_ok-set.ensures.sets.entries q) (c.in_ok-set.ensures.pending q)))

pub returns-in_err-set-clause-remembers : goal.returns-in_err-set-clause-remembers
returns-in_err-set-clause-remembers g c =
    rw (← c.self.view_is) (remembers-image _ _ c.in_err-set.ensures.err)
