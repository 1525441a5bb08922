-- Halves of a store that go on apart from each other, and meet again.
use Rattle.std.specs.Prelude.{◌≡◌, ℕ, List, []}
use Rattle.ide_disk.specs.declared.disk.Disk.{Ghosts}
use Rattle.ide_journal.specs.declared.version.Version.{Version}
use Rattle.ide_slot_store.specs.Runs.{AreOnRun}
use Rattle.ide_slot_store.specs.declared.writer.SlotWriterHalf.{SlotWriterHalf}
use Rattle.ide_store.specs.Table.{Analysis, TableData}
use Rattle.ide_store.specs.Versioned.{VersionedEntry}
use Rattle.ide_desks.specs.Keeping.{WorksOnRun, WritesLive}

module _ {F L : Type 0} (a : Analysis F L) {D : Type 0} (G : Ghosts D) where
  -- on a run, where all that is sealed is handed over, the half that works does so with these records, and the other is live with
  -- them, and both seal in the version of the one
  abbrev pub RunsAreLive : Type 0
  RunsAreLive = (tag : ℕ) (table : TableData F) (half : SlotWriterHalf D G) (on : AreOnRun a tag table half) → table.waiting ≡ []
      → WorksOnRun a tag table.version table on.at_work.handed × WritesLive a tag table.version on.at_work.handed on.world.world.stored half

  -- and halves that are so, with the same version and records and none that waits, are on one run, in whose world these records are handed over
  -- and so many are stored
  abbrev pub HalvesMeet : Type 0
  HalvesMeet = (tag : ℕ) (version : Version) (table : TableData F) (half : SlotWriterHalf D G) (handed : List VersionedEntry) (stored : ℕ)
      → table.waiting ≡ [] → WorksOnRun a tag version table handed → WritesLive a tag version handed stored half
      → (on : AreOnRun a tag table half) × (on.at_work.handed ≡ handed) × (on.world.world.stored ≡ stored)
