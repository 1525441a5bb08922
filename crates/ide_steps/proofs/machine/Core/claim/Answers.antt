use Rattle.std.proofs.Common.{◌≡◌, Some, false, subst, sym, ap, ◌∙◌, rules}
use Rattle.std.proofs.lemmas.Option.{same_Some}
use Rattle.std.proofs.lemmas.Result.{err_from_is_err_and}
use Rattle.ide_graph.specs.Edges.{EdgesWithin}
use Rattle.ide_tasks.specs.Parts.{owed}
use Rattle.ide_tasks.specs.Task.{TaskData}
use Rattle.ide_theory.specs.State.{new_claim, with_claim}
use Rattle.ide_image.specs.declared.claim.Claim.{Claim as Held}
use Rattle.ide_steps.proofs.Nodes.{kept-put, kept-unchanged, parts-within}
use Rattle.ide_wire.specs.declared.refused.Refused.TheVariants.{NoMemory}
use Rattle.ide_steps.specs.ClaimRefusal.{IsClaimRefusal, busy, limit, memory, no_program}
use Rattle.ide_steps.proofs.States.{handed-on, state-at, state-claimed, taken-ends, taken-progress, unchanged-err}
use Rattle.ide_steps.proofs.machine.Core.claim.Goals as goal

pub take_task-requires-clause-place : goal.take_task-requires-clause-place
take_task-requires-clause-place g c =
    (c.self.invariant c.deref.result.now (search rules)).1.pending c.in-Some-unclaimed.key c.in-Some-unclaimed.ensures.pending

pub invariant_of-self : goal.invariant_of-self
invariant_of-self g c = λ loaded is.
    let kept = c.self.invariant loaded is in (
      kept.0,
      kept-unchanged g.P.F.EdgeFn.edge g.P.Problem.targets loaded.graph c.self.inside.image.pile c.take_task.new.image.pile kept.1
          c.take_task.ensures.pending c.in_err-task.ensures.err,
    )

-- the edges of the task's site end at nodes
pub invariant_of-self-2 : goal.invariant_of-self-2
invariant_of-self-2 g c = λ loaded is.
    let kept = c.self.invariant loaded is in
    let task = c.in_ok-task.task in
    let held : Held (TaskData g.row.P-F.Denot) = record { key = c.in-Some-unclaimed.key; task = task; done = 0; lowered = false } in
    let there : _ ≡ Some c.deref.result.now = search rules in
    let same : c.deref.result.now ≡ loaded = same_Some _ _ (sym there ∙ is) in (
      kept.0,
      kept-put g.P.F.EdgeFn.edge g.P.Problem.targets loaded.graph c.self.inside.image.pile c.take_task.new.image.pile kept.1 c.args.hand (Some held)
          c.take_task.ensures.pending
          (parts-within g.P.F.EdgeFn.edge g.P.Problem.targets loaded.graph.nodes task.key task.function task.site task.partners
          (subst (λ l. EdgesWithin l.graph.nodes task.site) same c.in_ok-task.ensures.edges))
          c.in_ok-task.ensures.claims,
    )

pub returns-clause-task : goal.returns-clause-task
returns-clause-task g c = λ task is.
    let same : c.in_ok-task.task ≡ task = cc (is) in
    let key : c.in_ok-task.task.key ≡ c.in-Some-unclaimed.key = c.in_ok-task.ensures.key in
    let before = state-at g.P.F.EdgeFn.edge g.P.Problem.targets c.self.inside.image.table c.self.inside.image.pile in
    let held : Held (TaskData g.row.P-F.Denot) = record { key = c.in-Some-unclaimed.key; task = c.in_ok-task.task; done = 0; lowered = false } in
    rw (← same) (record {
      fresh = taken-ends {F = g.row.P-F.Denot} c.self.inside.image.pile c.take_task.new.image.pile c.args.hand held c.in_ok-task.ensures.claims;
      taken = rw (← c.self.view_is) (record {
        free = search rules;
        pending = rw key c.in-Some-unclaimed.ensures.pending;
        unclaimed = rw key c.in-Some-unclaimed.ensures.free;
        state =
            state-claimed g.P.F.EdgeFn.edge g.P.Problem.targets c.self.inside.image.table c.take_task.new.image.table c.self.inside.image.pile c.take_task.new.image.pile c.args.hand
            (Some held) c.take_task.ensures.table c.take_task.ensures.pending c.in_ok-task.ensures.claims
            ∙ ap (λ k. with_claim before c.args.hand (Some (new_claim k (owed g.P.F.EdgeFn.edge g.P.Problem.targets c.in_ok-task.task)))) (sym key);
      });
      is_task = λ graph here exits present. search rules;
      progress = taken-progress {F = g.row.P-F.Denot} c.self.inside.image.pile c.take_task.new.image.pile c.args.hand held c.in_ok-task.ensures.claims;
    })

pub returns-in_err-task-clause-unchanged : goal.returns-in_err-task-clause-unchanged
returns-in_err-task-clause-unchanged g c =
    unchanged-err {F = g.row.P-F.Denot} c.from_residual.result _ c.args.self.now c.take_task.new.image.table c.take_task.new.image.pile c.take_task.new.image.changes
    c.self.view_is c.take_task.ensures.table c.take_task.ensures.pending c.in_err-task.ensures.err c.take_task.ensures.changes

pub returns-then-hand-ge-HANDS-clause-refused : goal.returns-then-hand-ge-HANDS-clause-refused
returns-then-hand-ge-HANDS-clause-refused g c = limit (search rules)

pub returns-in_default-clause-refused : goal.returns-in_default-clause-refused
returns-in_default-clause-refused g c = no_program (search rules) (search rules)

pub returns-then-is_some-clause-refused : goal.returns-then-is_some-clause-refused
returns-then-is_some-clause-refused g c = busy (search rules) (search rules) (search rules)

pub returns-in_err-task-clause-refused : goal.returns-in_err-task-clause-refused
returns-in_err-task-clause-refused g c =
    let p = err_from_is_err_and c.from_residual.result c.from_residual.ensures.1 in
    handed-on (IsClaimRefusal {F = g.row.P-F.Denot} c.args.self.now c.args.hand) c.from_residual.result NoMemory p.0 p.1 (p.2 ∙ c.in_err-task.ensures.refused)
    (memory (record { within = search rules; loaded = search rules; free = search rules }) c.in-Some-unclaimed.key (search rules) (search rules))
