use Rattle.std.proofs.Common.{Some, false, ap, ◌∙◌}
use Rattle.ide_tasks.specs.Task.{TaskData}
use Rattle.ide_image.specs.Worklist.{claim_at, put_hand}
use Rattle.ide_steps.proofs.claim.take_task.Goals as goal

pub returns-clause-claims : goal.returns-clause-claims
returns-clause-claims g c = λ h.
    c.in_ok-take.ensures.claims h
    ∙ ap (λ (task : TaskData g.row.P-F.Denot). put_hand (claim_at c.args.image.now.pile) c.args.hand (Some (record { key = c.args.key; task = task; done = 0; lowered = false })) h) c.in_ok-copy.ensures
