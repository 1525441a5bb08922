use Rattle.std.proofs.Common.{◌≡◌, List, ℕ, OnOk, ap, subst, ◌∙◌}
use Rattle.ide_disk.specs.Disk.{DiskState, settled, put_at}
use Rattle.ide_journal.proofs.Left.{put_nothing}
use Rattle.ide_journal.proofs.disk_calls.rewrite.Goals as goal

pub returns-clause-bytes : goal.returns-clause-bytes
returns-clause-bytes g c honest =
    let cut_honest = c.cut.ensures.honest honest in
    let write_honest = c.write.ensures.honest cut_honest in
    let cut = ap (λ (d : DiskState). d.now) (c.in_ok-cut.ensures.bytes honest) in
    let now = ap (λ (d : DiskState). d.now) (c.in_ok-write.ensures.bytes cut_honest)
    ∙ ap (λ (xs : List ℕ). put_at 0 c.args.bytes.now xs) cut ∙ put_nothing c.args.bytes.now in
    subst (λ (xs : List ℕ). OnOk c.sync.result (g.D.Disk.state c.sync.new.self ≡ settled xs)) now (c.sync.ensures.bytes write_honest)
