use Rattle.std.proofs.Common.{◌≡◌, ◌+◌, ◌<◌, ◌⊎◌, inl, inr, ℕ, sym, ap, ◌∙◌, refl, subst, arith, rules, length, Result, Ok}
use Rattle.ide_lattice.specs.Algebra.{EdgeAlgebra}
use Rattle.ide_tasks.specs.Work.{WorkData}
use Rattle.ide_theory.specs.State.{State}
use Rattle.ide_steps.specs.Core.{CoreData, AllStandIn}
use Rattle.ide_steps.specs.declared.part.Parted.{Parted}
use Rattle.ide_steps.specs.declared.part.Parted.TheVariants.{Lowered, Same, NoPart}
use Rattle.ide_steps.specs.State.{state_of}
use Rattle.ide_steps.specs.Steps.{ArePartsDone, IsLowered, IsSkipped, KeepTasks, none_yet, then_lowered, then_skipped}
use Rattle.ide_steps.proofs.Going.{same-problem, state-unchanged}
use Rattle.ide_steps.proofs.States.{tasks-here, tasks-then, tasks-unchanged}
use Rattle.ide_steps.proofs.Noted.{remembers-same, remembers-then}
use Rattle.ide_steps.proofs.Refusing.{at-err}
use Rattle.ide_steps.proofs.machine.Core.next_parts.Goals as goal

-- work with no part more, and with one more than those counted
as-counted : {F : Type 0} (start : WorkData F) → start ≡ record start { done = start.done + 0 }
as-counted start = let same : start.done ≡ start.done + 0 = omega arith in ap (λ n. record start { done = n }) same

one-counted : {F : Type 0} (start work after : WorkData F) (count : ℕ) → work ≡ record start { done = start.done + count }
    → after ≡ record work { done = work.done + 1 } → after ≡ record start { done = start.done + (count + 1) }
one-counted {F = F} start work after count is one =
    let sum : start.done + count + 1 ≡ start.done + (count + 1) = omega arith in
    let more : record work { done = work.done + 1 } ≡ record start { done = start.done + count + 1 } = ap (λ (w : WorkData F). record w { done = w.done + 1 }) is in
    let last : record start { done = start.done + count + 1 } ≡ record start { done = start.done + (count + 1) } = ap (λ n. record start { done = n }) sum in
    one ∙ more ∙ last

-- a part that was done goes to the end of those before
parts-more : {F L : Type 0} (B : EdgeAlgebra F L) (hand : ℕ) (s t u : State F) (work before after : WorkData F) (parted : Parted)
    → (parted ≡ Lowered → IsLowered B t u hand before after) → (parted ≡ Same → IsSkipped B t u hand before after) → (parted ≡ NoPart → ⊥)
    → ArePartsDone B hand s work t before → ArePartsDone B hand s work u after
parts-more B hand s t u work before after Lowered lowered same some done = then_lowered done (lowered refl)
parts-more B hand s t u work before after Same lowered same some done = then_skipped done (same refl)
parts-more B hand s t u work before after NoPart lowered same some done = absurd (some refl)

-- what did not answer that no part is left has done one
some-part : {E : Type 0} (r : Result Parted E) (parted : Parted) → r ≡ Ok parted → (parted ≡ NoPart → ⊥) → (r ≡ Ok Lowered) ⊎ (r ≡ Ok Same)
some-part r Lowered is some = inl is
some-part r Same is some = inr is
some-part r NoPart is some = absurd (some refl)

pub loop-count-init : goal.loop-count-init
loop-count-init g c = record {
  within = omega arith;
  done = as-counted c.args.work.now;
  progress = λ task at. at;
  parts = λ task at. none_yet;
  tasks = λ task at. tasks-here c.args.hand c.args.work.now.done task c.args.self.now.pile at;
  same = record { program = refl; graph = refl; roots = refl };
  remembers = remembers-same _ _ refl refl refl;
  free = λ h free. free;
}

pub loop-count-preserved : goal.loop-count-preserved
loop-count-preserved g c =
    let B = g.P.F.EdgeFn.edge in
    let targets = g.P.Problem.targets in
    let start = c.args.work.now in
    let before = c.loop-count.work in
    let ensures = c.in_ok-next_part.ensures in
    let parted = c.in_ok-next_part.field-0 in
    let some : parted ≡ NoPart → ⊥ = λ nothing. search rules in
    let next = ensures.next (some-part (Ok parted) parted refl some) in
    let counted = c.loop-count.invariant.done in
    let done : before.done ≡ start.done + c.loop-count.count = ap (λ (w : WorkData g.row.P-F.Denot). w.done) counted in
    let same : length before.parts ≡ length start.parts = ap (λ (w : WorkData g.row.P-F.Denot). length w.parts) counted in
    let left : before.done < length before.parts = next.0 in
    record {
      within = omega (arith, done, same, left);
      done = one-counted start before c.next_part.new.work c.loop-count.count counted next.1;
      progress = λ task at. ensures.progress task (c.loop-count.invariant.progress task at);
      parts = λ task at.
          let now = c.loop-count.invariant.progress task at in
          parts-more B c.args.hand (state_of B targets c.args.self.now) (state_of B targets c.loop-count.self) (state_of B targets c.next_part.new.self)
          start before c.next_part.new.work parted (λ is. ensures.lowered (ap Ok is) task now) (λ is. ensures.same (ap Ok is) task now) some
          (c.loop-count.invariant.parts task at);
      tasks = λ task at.
          tasks-then c.args.hand before.done c.next_part.new.work.done c.args.self.now.pile c.loop-count.self.pile c.next_part.new.self.pile
          (c.loop-count.invariant.tasks task at) (ensures.tasks (some-part (Ok parted) parted refl some));
      same = same-problem g.P.L.Lattice.algebra B targets c.loop-count.invariant.same ensures.stays;
      remembers = remembers-then _ _ _ c.loop-count.invariant.remembers ensures.remembers;
      free = λ h free. ensures.free h (c.loop-count.invariant.free h free);
    }

pub returns-in_err-next_part-clause-tasks : goal.returns-in_err-next_part-clause-tasks
returns-in_err-next_part-clause-tasks g c = λ task at.
    let unchanged = c.in_err-next_part.ensures.unchanged in
    subst (λ (work : WorkData g.row.P-F.Denot). KeepTasks c.args.hand work.done c.args.self.now.pile c.next_part.new.self.pile) (sym unchanged.1)
    (tasks-unchanged c.args.hand c.loop-count.work.done c.args.self.now.pile c.loop-count.self.pile c.next_part.new.self.pile
    (c.loop-count.invariant.tasks task at) unchanged.0.claims)

-- as many parts of the work that was given are done by then as are counted
pub returns-in_err-next_part-clause-left : goal.returns-in_err-next_part-clause-left
returns-in_err-next_part-clause-left g c =
    let start = c.args.work.now in
    let counted = c.loop-count.invariant.done in
    let done : c.loop-count.work.done ≡ start.done + c.loop-count.count = ap (λ (w : WorkData g.row.P-F.Denot). w.done) counted in
    let same : length c.loop-count.work.parts ≡ length start.parts = ap (λ (w : WorkData g.row.P-F.Denot). length w.parts) counted in
    let left : c.loop-count.work.done < length c.loop-count.work.parts = c.in_err-next_part.ensures.left in
    at-err c.from_residual.result (omega (arith, done, same, left))

-- the part that wanted memory changed nothing
pub returns-in_err-next_part-clause-parts : goal.returns-in_err-next_part-clause-parts
returns-in_err-next_part-clause-parts g c = λ task at.
    let A = g.P.L.Lattice.algebra in
    let B = g.P.F.EdgeFn.edge in
    let targets = g.P.Problem.targets in
    let unchanged = c.in_err-next_part.ensures.unchanged in
    let same = state-unchanged A B targets c.loop-count.self c.next_part.new.self unchanged.0 in
    subst (λ t. ArePartsDone B c.args.hand (state_of B targets c.args.self.now) c.args.work.now t c.next_part.new.work) (sym same)
    (subst (ArePartsDone B c.args.hand (state_of B targets c.args.self.now) c.args.work.now (state_of B targets c.loop-count.self)) (sym unchanged.1)
    (c.loop-count.invariant.parts task at))

-- where no part was left, nothing changed
pub returns-then-eq-clause-tasks : goal.returns-then-eq-clause-tasks
returns-then-eq-clause-tasks g c = λ task at.
    let kept = c.in_ok-next_part.ensures.no_part (search rules) in
    subst (λ (work : WorkData g.row.P-F.Denot). KeepTasks c.args.hand work.done c.args.self.now.pile c.next_part.new.self.pile) (sym kept.2)
    (subst (λ (core : CoreData g.row.P-F.Denot). KeepTasks c.args.hand c.loop-count.work.done c.args.self.now.pile core.pile) (sym kept.1)
    (c.loop-count.invariant.tasks task at))

pub next_part-requires : goal.next_part-requires
next_part-requires g c = λ graph is.
    subst (AllStandIn graph) (sym (ap (λ (w : WorkData g.row.P-F.Denot). w.parts) c.loop-count.invariant.done))
    (c.requires graph (sym c.loop-count.invariant.same.graph ∙ is))

pub returns-in_err-next_part-clause-remembers : goal.returns-in_err-next_part-clause-remembers
returns-in_err-next_part-clause-remembers g c = remembers-then _ _ _ c.loop-count.invariant.remembers c.next_part.ensures.remembers

pub returns-then-eq-clause-remembers : goal.returns-then-eq-clause-remembers
returns-then-eq-clause-remembers g c = remembers-then _ _ _ c.loop-count.invariant.remembers c.next_part.ensures.remembers
