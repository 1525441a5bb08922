use Rattle.std.proofs.Common.{◌≡◌, ◌+◌, ◌≤◌, ap, sym, ◌∙◌, arith, length, Some}
use Rattle.ide_image.specs.KeyedImage.{KeyedImageData}
use Rattle.ide_image.specs.Tables.{found, lowered_by}
use Rattle.ide_image.specs.Worklist.{claim_at, is_pending, marked}
use Rattle.ide_tasks.specs.Task.{TaskData}
use Rattle.ide_steps.specs.Core.{CoreData}
use Rattle.ide_steps.specs.Drain.{left_by}
use Rattle.ide_steps.proofs.Nodes.{kept-lowered, through}
use Rattle.ide_steps.proofs.Noted.{err-then, notes-change, remembers-lowered}
use Rattle.ide_steps.proofs.Potential.{at-most-one, falls, push-pays}
use Rattle.ide_steps.proofs.States.{changes-of, or_top-unwrap, state-lowered}
use Rattle.ide_steps.proofs.machine.Core.lower_owed.Goals as goal

-- `search` would try long at this before it gave up: an invariant is a function into a record
pub invariant_of-self : goal.invariant_of-self
invariant_of-self g c = λ loaded is.
    let kept = c.self.invariant loaded is in
    let graph = ap (λ (core : CoreData g.row.P-F.Denot). core.graph) (sym c.self.view_is) ∙ through _ c.self.inside.loaded loaded is (λ l. l.graph) in (
      kept.0,
      kept-lowered g.P.F.EdgeFn.edge g.P.Problem.targets loaded.graph c.self.inside.image.pile c.lower.new.self.pile kept.1 c.args.key
          (c.requires loaded.graph graph) c.lower.result c.lower.ensures.pending c.lower.ensures.claims
          (λ same. ap (λ (image : KeyedImageData g.row.P-F.Denot (TaskData g.row.P-F.Denot)). image.pile) (c.lower.ensures.same same))
          (err-then c.lower.result c.lower.ensures.err (λ same. ap (λ (image : KeyedImageData g.row.P-F.Denot (TaskData g.row.P-F.Denot)). image.pile) same)),
    )

pub returns-clause-falls : goal.returns-clause-falls
returns-clause-falls g c is =
    let one = at-most-one (is_pending c.self.inside.image.pile c.args.key) in
    let count : length c.lower.new.self.pile.pending ≤ length c.self.inside.image.pile.pending + 1 = omega (arith, c.lower.ensures.count is, one) in
    rw (← c.self.view_is)
    (falls g.P.F.EdgeFn.edge c.self.inside.image.table.entries c.lower.new.self.table.entries
    (length c.self.inside.image.pile.pending) (length c.lower.new.self.pile.pending)
    (c.lower.ensures.few is) (c.lower.ensures.spent is) count)

pub returns-clause-lowered : goal.returns-clause-lowered
returns-clause-lowered g c = λ is.
    rw (← c.self.view_is)
    (state-lowered g.P.F.EdgeFn.edge g.P.Problem.targets c.self.inside.image.table c.lower.new.self.table c.self.inside.image.pile c.lower.new.self.pile
    c.args.key c.args.function (c.lower.ensures.lowered is) (c.lower.ensures.pending is) (c.lower.ensures.claims is))

pub returns-clause-met : goal.returns-clause-met
returns-clause-met g c = λ is.
    rw (← c.self.view_is, ← or_top-unwrap g.P.F.EdgeFn.edge g.P.Problem.targets (found c.self.inside.image.table c.args.key))
    (g.met.P.F.EdgeFn.exact _ _ (c.lower.ensures.met is))

pub returns-clause-paid : goal.returns-clause-paid
returns-clause-paid g c = λ is h.
    let pile = c.self.inside.image.pile in
    let pays = push-pays pile c.args.key c.lower.ensures.held h in
    let less = c.lower.ensures.spent is in
    let count = c.lower.ensures.count is in
    let after : left_by (claim_at c.lower.new.self.pile h) ≡ left_by (marked c.args.key (claim_at pile h)) = ap left_by (c.lower.ensures.claims is h) in
    rw (← c.self.view_is) (record { keys = omega (arith, pays, count, after); ranks = omega (arith, less) })

pub returns-clause-changes : goal.returns-clause-changes
returns-clause-changes g c = λ is.
    rw (← c.self.view_is)
    (changes-of g.P.F.EdgeFn.edge g.P.Problem.targets g.met.P.F.EdgeFn.lawful.rank_all_top c.self.inside.image.table c.self.inside.image.pile c.args.key c.args.function
    (c.lower.ensures.falls is))

-- where the key changed, its entry of then is noted
pub returns-clause-notes : goal.returns-clause-notes
returns-clause-notes g c = λ is.
    rw (← c.self.view_is) (notes-change _ _ (Some c.args.key) (c.lower.ensures.noted is))

pub returns-clause-remembers : goal.returns-clause-remembers
returns-clause-remembers g c =
    rw (← c.self.view_is)
    (remembers-lowered _ _ c.args.key (Some (lowered_by g.P.F.EdgeFn.edge c.self.inside.image.table c.args.key c.args.function)) c.lower.result
    c.lower.ensures.noted (λ is. (c.lower.ensures.lowered is).entries) c.lower.ensures.pending
    c.lower.ensures.same c.lower.ensures.err)
