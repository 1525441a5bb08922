use Rattle.std.proofs.Common.{◌≡◌, refl, sym, ◌∙◌, rules}
use Rattle.std.specs.List.{count_by}
use Rattle.std.proofs.lemmas.List.Recursion.{is_count_by}
use Rattle.ide_disk.specs.Leaving.{is_sync, sync_count}
use Rattle.ide_disk.proofs.Leaves.{sync_count-cons}
use Rattle.ide_disk.proofs.leaving.sync_count.Goals as goal

pub returns : goal.returns
returns c =
    let counted : c.count.result ≡ count_by is_sync c.args.calls.now = search rules in
    counted ∙ sym (is_count_by sync_count is_sync refl sync_count-cons c.args.calls.now)
