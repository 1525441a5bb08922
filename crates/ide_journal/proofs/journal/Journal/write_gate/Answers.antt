use Rattle.std.proofs.Common.{[], ◌∷◌, ℕ, length, ◌+◌, ap, subst, ◌∙◌}
use Rattle.ide_disk.specs.Disk.{Wrote, LeavesAfter, written}
use Rattle.ide_journal.specs.Bytes.{Knows, EndsAt}
use Rattle.ide_journal.specs.declared.stage.Stage.{Stage}
use Rattle.ide_journal.proofs.Left.{gate_failed, gate_written}
use Rattle.ide_journal.proofs.journal.Journal.write_gate.Goals as goal

pub returns-in-Err-clause-stands : goal.returns-in-Err-clause-stands
returns-in-Err-clause-stands g c honest base bytes stands =
    let was = subst (λ (s : Stage). Knows s base bytes (g.D.Disk.state c.args.self.now.disk)) c.requires stands.knows in
    let after = subst (λ (n : ℕ). LeavesAfter (Wrote n 1) (g.D.Disk.state c.args.self.now.disk) (g.D.Disk.state c.write.new.self)) stands.gate
    (c.in-Err.ensures.crash honest) in
    record { gate = stands.gate; tail = stands.tail; some = stands.some; end = tt; knows = gate_failed base bytes _ _ stands.some was after }

pub returns-in-Ok-clause-stands : goal.returns-in-Ok-clause-stands
returns-in-Ok-clause-stands g c honest base bytes stands =
    let self = c.args.self.now in
    let was = subst (λ (s : Stage). Knows s base bytes (g.D.Disk.state self.disk)) c.requires stands.knows in
    let end = subst (λ (s : Stage). EndsAt s self.end (length base + length bytes)) c.requires stands.end in
    let is = c.in-Ok.ensures.bytes honest ∙ ap (λ (n : ℕ). written n (1 ∷ []) (g.D.Disk.state self.disk)) stands.gate in
    record { gate = stands.gate; tail = stands.tail; some = stands.some; end = end; knows = gate_written base bytes _ _ was is }
