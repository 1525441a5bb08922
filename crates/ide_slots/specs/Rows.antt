-- A worked checkpoint: of a store with a load, a root and a batch.
use Rattle.std.specs.Prelude.{◌≡◌, ◌+◌, true, [], ◌∷◌, length, slice_range}
use Rattle.ide_journal.specs.Format.{head_of}
use Rattle.ide_journal.specs.declared.version.Version.TheVariants.{Two}
use Rattle.ide_slots.specs.DiskCalls.{Cuts, Syncs, Writes}
use Rattle.ide_slots.specs.Filling.{Closes, fill_calls, filled_by, with_gate}
use Rattle.ide_slots.specs.Slot.{IsSlot, Slot, slot_count, slot_head, slot_header}

-- the load and the root under their old numbers, and one part of the image
abbrev pub worked_slot : Slot
worked_slot = record {
  head = head_of Two 1;
  generation = 1;
  base = 3;
  commands = (0, (1, 112 ∷ 10 ∷ [])) ∷ (1, (2, 109 ∷ 97 ∷ 105 ∷ 110 ∷ [])) ∷ [];
  parts = (4, 7 ∷ []) ∷ [];
  rest = [];
}

pub record WorkedRow : Type 0 where
  pub proper : IsSlot worked_slot
  pub count : slot_count worked_slot ≡ 3
  -- generation 1, base 3, 2 commands, 1 part
  pub header : slice_range (slot_header (slot_head worked_slot)) 9 33
      ≡ 1 ∷ 0 ∷ 0 ∷ 0 ∷ 0 ∷ 0 ∷ 0 ∷ 0 ∷ 3 ∷ 0 ∷ 0 ∷ 0 ∷ 0 ∷ 0 ∷ 0 ∷ 0 ∷ 2 ∷ 0 ∷ 0 ∷ 0 ∷ 1 ∷ 0 ∷ 0 ∷ 0 ∷ []
  -- 10 calls, over a slot that is closed already
  pub calls : fill_calls 10 worked_slot (Closes true)
      ≡ Cuts 4097 ∷ Syncs ∷ Cuts 4097 ∷ Writes 0 (slot_header (slot_head worked_slot))
      ∷ Writes 4097 (with_gate 1 (0, (1, 112 ∷ 10 ∷ []))) ∷ Writes 8193 (with_gate 1 (1, (2, 109 ∷ 97 ∷ 105 ∷ 110 ∷ [])))
      ∷ Writes 12289 (with_gate 0 (0, (4, 7 ∷ []))) ∷ Syncs ∷ Writes 4096 (1 ∷ []) ∷ Syncs ∷ []
  -- the next record goes behind the gate at 16384, the last byte
  pub end : 4097 + length (filled_by worked_slot) ≡ 16385
