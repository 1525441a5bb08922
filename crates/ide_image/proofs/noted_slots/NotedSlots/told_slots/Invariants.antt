use Rattle.std.proofs.Common.{◌≡◌, ◌≤◌, ◌++◌, drop}
use Rattle.std.specs.Prelude.{vec_capacity, vec_len}
use Rattle.std.specs.List.{filter_map}
use Rattle.ide_image.specs.Ranks.{note_slot}
use Rattle.ide_image.proofs.noted_slots.NotedSlots.told_slots.Given as goal

-- the slots of the numbers so far, and those of the numbers from here on, for which there is room
abbrev pub invariant-loop-index : goal.invariant-loop-index
invariant-loop-index g l = record {
  listed : l.slots.items ++ filter_map (note_slot l.self.slots.now) (drop l.index l.numbers) ≡ filter_map (note_slot l.self.slots.now) l.numbers;
  few : vec_len l.slots ≤ l.index;
  room : l.count ≤ vec_capacity l.slots;
}
