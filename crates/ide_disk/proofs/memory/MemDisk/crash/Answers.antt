use Rattle.std.proofs.Common.{List, ℕ, refl, sym, ap, subst, ◌∙◌}
use Rattle.ide_disk.specs.Disk.{DiskState, CrashLeaves, settled}
use Rattle.ide_disk.specs.Contents.{contents_state, contents_left}
use Rattle.ide_disk.specs.Left.{allowed, left_after-old, left_after-new}
use Rattle.ide_disk.specs.declared.leave.Leave.{Leave}
use Rattle.ide_disk.proofs.memory.MemDisk.crash.Goals as goal

pub returns-clause-allowed : goal.returns-clause-allowed
returns-clause-allowed c =
    let contents = c.args.self.now.contents in
    subst (λ (left : List ℕ). CrashLeaves (contents_state contents) left) (sym (ap (λ (d : DiskState). d.now) c.crash.ensures.state))
    (allowed c.args.leave contents.calls.items contents.written.items (settled contents.start.items) contents.start.items (λ _. refl) (λ _. refl))

pub returns-clause-old : goal.returns-clause-old
returns-clause-old c old =
    let contents = c.args.self.now.contents in
    ap (λ (d : DiskState). d.now) c.crash.ensures.state
    ∙ ap (λ (leave : Leave). contents_left leave contents) old
    ∙ left_after-old contents.calls.items contents.written.items (settled contents.start.items) contents.start.items (λ _. refl) (λ _. refl)

pub returns-clause-new : goal.returns-clause-new
returns-clause-new c new =
    let contents = c.args.self.now.contents in
    ap (λ (d : DiskState). d.now) c.crash.ensures.state
    ∙ ap (λ (leave : Leave). contents_left leave contents) new
    ∙ left_after-new contents.calls.items contents.written.items (settled contents.start.items)
