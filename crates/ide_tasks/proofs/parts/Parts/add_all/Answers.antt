use Rattle.std.proofs.Common.{append_assoc}
use Rattle.ide_tasks.proofs.parts.Parts.add_all.Goals as goal

pub returns-in-Jump-Exit-Callers : goal.returns-in-Jump-Exit-Callers
returns-in-Jump-Exit-Callers g c =
    let arm = c.in-Jump-Exit-Callers in
    let done = rw (c.as_slice-in-Jump-Exit-Callers.ensures) at c.add_exit.ensures in
    rw (arm.is-0, arm.is-1, arm.is-2) done

pub returns-in_ok-add_edge-in-Jump-Call-Entries : goal.returns-in_ok-add_edge-in-Jump-Call-Entries
returns-in_ok-add_edge-in-Jump-Call-Entries g c =
    let arm = c.in-Jump-Call-Entries in
    let done = rw (c.in_ok-add_edge-in-Jump-Call-Entries.ensures, c.in_ok-add_starts-in-Jump-Call-Entries.ensures, c.as_slice-in-Jump-Call-Entries.ensures) at c.add_over_call.ensures in
    rw (arm.is-0, arm.is-1, arm.is-2) (simp append_assoc (simp append_assoc at done))
