-- What a run that was kept in a store came to.
use Rattle.std.specs.Prelude.{◌≡◌, ℕ, length}
use Rattle.ide_disk.specs.declared.disk.Disk.{Ghosts}
use Rattle.ide_slot_journal.specs.Stands.{records_stored}
use Rattle.ide_slot_store.specs.Sizes.{bytes_of}
use Rattle.ide_slot_store.specs.declared.engine.SlotEngine.{SlotEngine}
use Rattle.ide_bench.specs.declared.stores.Amounts.{Amounts}

-- the amounts are those of the engine's halves and its disks
pub record AreAmountsOf {P D L F : Type 0} {G : Ghosts D} (engine : SlotEngine P D L F G) (amounts : Amounts) : Type 0 where
  pub records : amounts.stored.records ≡ records_stored engine.writer.journal
  pub bytes : amounts.stored.bytes ≡ bytes_of engine.writer
  pub keys : amounts.keys ≡ length engine.table.core.table.entries
