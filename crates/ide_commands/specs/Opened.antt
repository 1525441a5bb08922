-- That a store was opened as one of its analysis.
use Rattle.ide_disk.specs.Disk.{DiskState}
use Rattle.ide_disk.specs.declared.disk.Disk.{Ghosts}
use Rattle.ide_slots.specs.Sides.{Sides}
use Rattle.ide_slot_store.specs.Adopting.{AreAdopted}
use Rattle.ide_slot_store.specs.Engine.{AreOpened}
use Rattle.ide_commands.specs.Analyses.{copies, shifts, uninit}
use Rattle.ide_commands.specs.declared.stores.Store.{Store}
use Rattle.ide_commands.specs.declared.stores.Store.TheVariants.{Uninit, Copy, Shift}

-- over each world that acts led to and that stood on the disks, the opening happens, as one of the analysis with the store's
-- tag, and the store's halves are at work
abbrev pub IsOpened : Sides DiskState → {D : Type 0} {G : Ghosts D} → Store D G → Type 0
IsOpened disks (Uninit engine) = AreOpened uninit 1 disks engine.table engine.writer
IsOpened disks (Copy engine) = AreOpened copies 2 disks engine.table engine.writer
IsOpened disks (Shift engine) = AreOpened shifts 3 disks engine.table engine.writer

-- over each world that acts led to on one disk, and that stood on it, a closed slot was put beside it, the opening happens,
-- and the halves are at work
abbrev pub IsAdopted : DiskState → {D : Type 0} {G : Ghosts D} → Store D G → Type 0
IsAdopted disk (Uninit engine) = AreAdopted uninit engine.writer.journal.version 1 disk engine.table engine.writer
IsAdopted disk (Copy engine) = AreAdopted copies engine.writer.journal.version 2 disk engine.table engine.writer
IsAdopted disk (Shift engine) = AreAdopted shifts engine.writer.journal.version 3 disk engine.table engine.writer
