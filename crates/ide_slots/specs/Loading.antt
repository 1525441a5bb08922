-- A slot that was read.
use Rattle.std.specs.Prelude.{◌≡◌, ℕ, ◌+◌, ◌<◌, map, List, drop, length, slice_index, take}
use Rattle.ide_journal.specs.Format.{Entry}
use Rattle.ide_slots.specs.Records.{all_numbered}
use Rattle.ide_slots.specs.Slot.{IsFront, NumberedEntry, Slot, SlotHead, records_of, slot_head}
use Rattle.ide_slots.specs.declared.reading.LoadedSlot.{LoadedSlot}

abbrev pub entries_in : List NumberedEntry → List Entry
entries_in records = map (λ (r : NumberedEntry). r.1) records

-- the first of the records are its commands, those behind them its parts
abbrev pub slot_with : SlotHead → List NumberedEntry → Slot
slot_with told records = record {
  head = told.head;
  generation = told.generation;
  base = told.base;
  commands = take told.commands records;
  parts = entries_in (take told.parts (drop told.commands records));
  rest = entries_in (drop (told.commands + told.parts) records);
}

abbrev pub slot_of : LoadedSlot → Slot
slot_of loaded = slot_with loaded.head (all_numbered loaded.records.items)

-- its first page tells that, and these are its records with their numbers
pub record HasRecords (loaded : LoadedSlot) : Type 0 where
  pub told : slot_head (slot_of loaded) ≡ loaded.head
  pub records : records_of (slot_of loaded) ≡ all_numbered loaded.records.items

-- all that stands before its closed gate, and the gate
pub record ClosesIn (bytes : List ℕ) (loaded : LoadedSlot) : Type 0 where
  pub front : IsFront (slot_of loaded) (take loaded.gate bytes)
  pub inside : loaded.gate < length bytes
  pub gate : slice_index bytes loaded.gate ≡ 0
