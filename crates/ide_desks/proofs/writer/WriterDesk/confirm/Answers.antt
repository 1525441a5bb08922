use Rattle.std.proofs.Math.Logic.{∥∥₁_elim, ∥∥₁_prop}
use Rattle.ide_desks.proofs.Steps.{keeps_own}
use Rattle.ide_desks.proofs.writer.WriterDesk.confirm.Goals as goal

pub returns-clause-kept : goal.returns-clause-kept
returns-clause-kept g c told left leaves =
    let old = c.args.self.now in
    ∥∥₁_elim (old.kept told) ∥∥₁_prop (λ desk.
    keeps_own _ _ _ c.two_disks_are_a_store.ensures.keep (g.J.Accord.first told) old.half old.seat old.failed c.args.client.now old.counts.beginning desk
    c.confirm.ensures.own left leaves)
