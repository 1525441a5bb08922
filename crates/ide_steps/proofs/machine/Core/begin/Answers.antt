use Rattle.std.proofs.Common.{ap, sym, ◌∙◌, refl}
use Rattle.std.specs.List.{list_any}
use Rattle.std.specs.Map.{keys_of}
use Rattle.ide_wire.specs.Key.{same_key}
use Rattle.ide_steps.specs.Core.{CoreData}
use Rattle.ide_steps.proofs.Entries.{state-with}
use Rattle.ide_steps.proofs.Nodes.{kept-entered, kept-equal, through}
use Rattle.ide_steps.proofs.Noted.{entered-other, remembers-image, remembers-noted, remembers-same}
use Rattle.ide_steps.proofs.machine.Core.begin.Goals as goal

-- `search` would try long at these before it gave up: an invariant is a function into a record
pub invariant_of-self-in_err-set_all : goal.invariant_of-self-in_err-set_all
invariant_of-self-in_err-set_all g c = λ loaded is.
    let kept = c.self.invariant loaded is in
    (kept.0, kept-equal g.P.F.EdgeFn.edge g.P.Problem.targets loaded.graph c.self.inside.image c.set_all.new.self kept.1 c.in_err-set_all.ensures.err)

pub invariant_of-self-2 : goal.invariant_of-self-2
invariant_of-self-2 g c = λ loaded is.
    let kept = c.self.invariant loaded is in
    let graph = ap (λ (core : CoreData g.row.P-F.Denot). core.graph) (sym c.self.view_is) ∙ through _ c.self.inside.loaded loaded is (λ l. l.graph) in (
      kept.0,
      kept-entered g.P.F.EdgeFn.edge g.P.Problem.targets loaded.graph c.self.inside.image.pile c.set_all.new.self.pile kept.1 c.args.jumps.now (c.requires.inside loaded.graph graph)
          c.in_ok-set_all.ensures.pending c.in_ok-set_all.ensures.claims,
    )

pub returns-clause-state : goal.returns-clause-state
returns-clause-state g c =
    rw (← c.self.view_is)
    (state-with g.P.F.EdgeFn.edge g.P.Problem.targets c.self.inside.image.table c.set_all.new.self.table c.self.inside.image.pile c.set_all.new.self.pile c.args.jumps.now
    c.in_ok-set_all.ensures.sets c.in_ok-set_all.ensures.pending c.in_ok-set_all.ensures.claims)

pub returns-clause-remembers : goal.returns-clause-remembers
returns-clause-remembers g c =
    let image = c.self.inside.image in
    let new = c.set_all.new.self in
    rw (← c.self.view_is)
    (remembers-noted _ _ (λ q. list_any (same_key q) (keys_of c.args.jumps.now)) c.set_all.ensures.noting c.in_ok-set_all.ensures.noted
    (λ q other. entered-other image.table new.table image.pile new.pile c.args.jumps.now q other
    (c.in_ok-set_all.ensures.sets.entries q) (c.in_ok-set_all.ensures.pending q)))

pub returns-in_err-set_all-clause-remembers : goal.returns-in_err-set_all-clause-remembers
returns-in_err-set_all-clause-remembers g c =
    rw (← c.self.view_is) (remembers-image _ _ c.in_err-set_all.ensures.err)

pub returns-in_err-reserve-clause-remembers : goal.returns-in_err-reserve-clause-remembers
returns-in_err-reserve-clause-remembers g c =
    rw (← c.self.view_is) (remembers-same _ _ refl refl refl)
