-- How much room a store on two disks takes.
use Rattle.std.specs.Prelude.{ℕ, ◌+◌, ◌-◌, ◌^◌, min}
use Rattle.ide_disk.specs.declared.disk.Disk.{Ghosts}
use Rattle.ide_slot_journal.specs.Stands.{sides_of}
use Rattle.ide_slot_store.specs.declared.writer.SlotWriterHalf.{SlotWriterHalf}

-- how many bytes both disks have, up to the largest number of 64 bits
abbrev pub bytes_of : {D : Type 0} {G : Ghosts D} → SlotWriterHalf D G → ℕ
bytes_of {G = G} writer = let sides = sides_of writer.journal in min (G.size sides.a + G.size sides.b) (2 ^ 64 - 1)
