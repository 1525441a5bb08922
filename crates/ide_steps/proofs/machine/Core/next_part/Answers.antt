use Rattle.std.proofs.Common.{◌≡◌, ◌+◌, ◌<◌, sym, ap, subst, ◌∙◌, add-one, arith, Ok, Some, length, refl}
use Rattle.std.specs.Prelude.{slice_get}
use Rattle.std.proofs.lemmas.Option.{slice_get_within, same_Some}
use Rattle.ide_image.specs.declared.change.Change.{Change}
use Rattle.ide_theory.specs.State.{part_done}
use Rattle.ide_steps.specs.Steps.{KeepTasks}
use Rattle.ide_steps.proofs.States.{state-counted, tasks-counted}
use Rattle.ide_steps.specs.Core.{StandsIn, CoreData}
use Rattle.ide_steps.proofs.Nodes.{at-found, kept-done}
use Rattle.ide_steps.specs.Changed.{Notes}
use Rattle.ide_steps.proofs.Noted.{notes-on, remembers-on, remembers-same}
use Rattle.ide_steps.proofs.Refusing.{at-err}
use Rattle.ide_steps.proofs.machine.Core.next_part.Goals as goal
use Rattle.ide_steps.proofs.machine.Core.next_part.Goals.{in-Lowered, in-Same}

pub returns-clause-lowered : goal.returns-clause-lowered
returns-clause-lowered g c = λ is task at.
    let change : c.in_ok-change.change ≡ Change.Lowered =
    elim c.match-change.branch [ in-Lowered w ↦ w.in-Lowered.is | in-Same w ↦ absurd (cc (is, w.result-is)) ] in
    let next : slice_get c.args.work.now.parts c.args.work.now.done ≡ Some c.in-Some.part = sym c.in-Some.ensures.next in
    let within : c.args.work.now.done < length c.args.work.now.parts = slice_get_within c.args.work.now.parts c.args.work.now.done c.in-Some.part next in
    let done : c.advance.new.self.done ≡ c.args.work.now.done + 1 = omega (arith, c.advance.ensures.done, within) in
    let done_there : c.done.result ≡ c.args.work.now.done + 1 = c.done.ensures ∙ done in
    record {
      part = c.in-Some.part;
      next = next;
      changes = c.in_ok-change.ensures.changes (ap Ok change);
      state =
          state-counted g.P.F.EdgeFn.edge g.P.Problem.targets c.self.inside.image.table c.set_done.new.self.table c.self.inside.image.pile c.set_done.new.self.pile c.args.hand task
          c.args.work.now.done c.done.result (rw (← c.self.view_is) at (c.in_ok-change.ensures.progress c.args.hand ∙ at)) (done_there ∙ add-one c.args.work.now.done)
          c.set_done.ensures.table c.set_done.ensures.pending c.set_done.ensures.claims
          ∙ ap (λ s. part_done s c.args.hand) (rw (← c.self.view_is) at (c.in_ok-change.ensures.lowered (ap Ok change)));
      counted = record { task = c.advance.ensures.task; parts = c.advance.ensures.parts; done = done };
    }

pub returns-clause-same : goal.returns-clause-same
returns-clause-same g c = λ is task at.
    let change : c.in_ok-change.change ≡ Change.Same =
    elim c.match-change.branch [ in-Lowered w ↦ absurd (cc (is, w.result-is)) | in-Same w ↦ w.in-Same.is ] in
    let next : slice_get c.args.work.now.parts c.args.work.now.done ≡ Some c.in-Some.part = sym c.in-Some.ensures.next in
    let within : c.args.work.now.done < length c.args.work.now.parts = slice_get_within c.args.work.now.parts c.args.work.now.done c.in-Some.part next in
    let done : c.advance.new.self.done ≡ c.args.work.now.done + 1 = omega (arith, c.advance.ensures.done, within) in
    let done_there : c.done.result ≡ c.args.work.now.done + 1 = c.done.ensures ∙ done in
    record {
      part = c.in-Some.part;
      next = next;
      met = c.in_ok-change.ensures.met (ap Ok change);
      state =
          state-counted g.P.F.EdgeFn.edge g.P.Problem.targets c.self.inside.image.table c.set_done.new.self.table c.self.inside.image.pile c.set_done.new.self.pile c.args.hand task
          c.args.work.now.done c.done.result (rw (← c.self.view_is) at (c.in_ok-change.ensures.progress c.args.hand ∙ at)) (done_there ∙ add-one c.args.work.now.done)
          c.set_done.ensures.table c.set_done.ensures.pending c.set_done.ensures.claims
          ∙ ap (λ s. part_done s c.args.hand) (rw (← c.self.view_is) at (c.in_ok-change.ensures.same (ap Ok change)));
      counted = record { task = c.advance.ensures.task; parts = c.advance.ensures.parts; done = done };
    }

pub returns-clause-next : goal.returns-clause-next
returns-clause-next g c = λ _.
    let next : slice_get c.args.work.now.parts c.args.work.now.done ≡ Some c.in-Some.part = sym c.in-Some.ensures.next in
    let within : c.args.work.now.done < length c.args.work.now.parts = slice_get_within c.args.work.now.parts c.args.work.now.done c.in-Some.part next in
    let done : c.advance.new.self.done ≡ c.args.work.now.done + 1 = omega (arith, c.advance.ensures.done, within) in
    (within, λ i. record { task = c.advance.ensures.task i; parts = c.advance.ensures.parts i; done = done i })

pub returns-clause-all_done : goal.returns-clause-all_done
returns-clause-all_done g c = λ is.
    let next : slice_get c.args.work.now.parts c.args.work.now.done ≡ Some c.in-Some.part = sym c.in-Some.ensures.next in
    let within : c.args.work.now.done < length c.args.work.now.parts = slice_get_within c.args.work.now.parts c.args.work.now.done c.in-Some.part next in
    absurd (omega (arith, within, is))

pub returns-in_err-change-clause-all_done : goal.returns-in_err-change-clause-all_done
returns-in_err-change-clause-all_done g c = λ is.
    let next : slice_get c.args.work.now.parts c.args.work.now.done ≡ Some c.in-Some.part = sym c.in-Some.ensures.next in
    let within : c.args.work.now.done < length c.args.work.now.parts = slice_get_within c.args.work.now.parts c.args.work.now.done c.in-Some.part next in
    absurd (omega (arith, within, is))

-- a part was tried, so one was left
pub returns-in_err-change-clause-left : goal.returns-in_err-change-clause-left
returns-in_err-change-clause-left g c = at-err c.from_residual.result (slice_get_within c.args.work.now.parts c.args.work.now.done c.in-Some.part (sym c.in-Some.ensures.next))

pub returns-clause-tasks : goal.returns-clause-tasks
returns-clause-tasks g c = λ _.
    subst (λ n. KeepTasks c.args.hand n c.args.self.now.pile c.set_done.new.self.pile) c.done.ensures
    (tasks-counted {F = g.row.P-F.Denot} c.args.hand c.done.result c.args.self.now.pile c.self.inside.image.pile c.set_done.new.self.pile
    (rw (← c.self.view_is) at c.in_ok-change.ensures.progress) c.set_done.ensures.claims)

pub lower_owed-requires : goal.lower_owed-requires
lower_owed-requires g c = λ graph is.
    at-found (λ part. StandsIn graph part.0) c.args.work.now.parts c.args.work.now.done c.in-Some.part (c.requires graph is) (sym c.in-Some.ensures.next)

pub invariant_of-self : goal.invariant_of-self
invariant_of-self g c = λ loaded is.
    let kept = c.self.invariant loaded is in
    (kept.0, kept-done g.P.F.EdgeFn.edge g.P.Problem.targets loaded.graph c.self.inside.image.pile c.set_done.new.self.pile kept.1 c.args.hand c.done.result c.set_done.ensures.pending c.set_done.ensures.claims)

pub returns-clause-notes : goal.returns-clause-notes
returns-clause-notes g c = λ is part at.
    let change : c.in_ok-change.change ≡ Change.Lowered =
    elim c.match-change.branch [ in-Lowered w ↦ w.in-Lowered.is | in-Same w ↦ absurd (cc (is, w.result-is)) ] in
    let same : c.in-Some.part ≡ part = same_Some _ _ (c.in-Some.ensures.next ∙ at) in
    notes-on _ c.lower_owed.new.self _ (Some part.0) (c.set_done.ensures.changes ∙ ap (λ (core : CoreData g.row.P-F.Denot). core.changes) c.self.view_is)
    (subst (λ p. Notes c.args.self.now c.lower_owed.new.self (Some p.0)) same (c.in_ok-change.ensures.notes (ap Ok change)))

pub returns-clause-notes_none : goal.returns-clause-notes_none
returns-clause-notes_none g c = λ is.
    let change : c.in_ok-change.change ≡ Change.Same =
    elim c.match-change.branch [ in-Lowered w ↦ absurd (cc (is, w.result-is)) | in-Same w ↦ w.in-Same.is ] in
    c.set_done.ensures.changes ∙ (ap (λ (core : CoreData g.row.P-F.Denot). core.changes) c.self.view_is ∙ (c.in_ok-change.ensures.still (ap Ok change)).changes)

pub returns-clause-remembers : goal.returns-clause-remembers
returns-clause-remembers g c =
    remembers-on _ c.lower_owed.new.self _
    (c.set_done.ensures.changes ∙ ap (λ (core : CoreData g.row.P-F.Denot). core.changes) c.self.view_is)
    (c.set_done.ensures.table ∙ ap (λ (core : CoreData g.row.P-F.Denot). core.table) c.self.view_is)
    (c.set_done.ensures.pending ∙ ap (λ (core : CoreData g.row.P-F.Denot). core.pile.pending) c.self.view_is)
    c.lower_owed.ensures.remembers

pub returns-in_default-clause-remembers : goal.returns-in_default-clause-remembers
returns-in_default-clause-remembers g c = remembers-same _ _ refl refl refl
