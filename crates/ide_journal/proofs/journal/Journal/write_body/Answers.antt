use Rattle.std.proofs.Common.{List, ℕ, length, ◌+◌, subst, ◌∙◌}
use Rattle.ide_disk.specs.Disk.{Wrote, LeavesAfter}
use Rattle.ide_journal.specs.Bytes.{Knows}
use Rattle.ide_journal.specs.declared.stage.Stage.{Stage}
use Rattle.ide_journal.proofs.Left.{body_failed}
use Rattle.ide_journal.proofs.journal.Journal.write_body.Goals as goal

pub returns-in-Err-clause-stands : goal.returns-in-Err-clause-stands
returns-in-Err-clause-stands g c honest base bytes stands =
    let was = subst (λ (s : Stage). Knows s base bytes (g.D.Disk.state c.args.self.now.disk)) c.requires stands.knows in
    let after = subst (λ (n : ℕ). LeavesAfter (Wrote (n + 1) (length bytes)) (g.D.Disk.state c.args.self.now.disk) (g.D.Disk.state c.write.new.self)) stands.gate
    (subst (λ (xs : List ℕ). LeavesAfter (Wrote (c.args.self.now.gate + 1) (length xs)) (g.D.Disk.state c.args.self.now.disk) (g.D.Disk.state c.write.new.self))
    (c.deref.ensures.value ∙ stands.tail) (c.in-Err.ensures.crash honest)) in
    record { gate = stands.gate; tail = stands.tail; some = stands.some; end = tt; knows = body_failed base bytes _ _ was after }
