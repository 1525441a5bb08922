use Rattle.std.proofs.Common.{◌∙◌, ◌-◌, ap, length}
use Rattle.ide_slot_store.proofs.Sizes.{bytes_are}
use Rattle.ide_bench.specs.PlainDisk.{plain_size}
use Rattle.ide_bench.proofs.stores.measure_store.Goals as goal

pub returns : goal.returns
returns g c =
    record {
      records = c.acked-records.ensures;
      bytes = bytes_are _ _ _ _ _ c.saturating_add-bytes.ensures
          (c.in_ok-first.ensures.length ∙ ap (λ pair. plain_size pair.0) c.into_disks-a.ensures)
          (c.in_ok-second.ensures.length ∙ ap (λ pair. plain_size pair.1) c.into_disks-a.ensures);
      keys = c.key_count-keys.ensures ∙ ap (λ core. length core.table.entries) c.core.ensures;
    }
