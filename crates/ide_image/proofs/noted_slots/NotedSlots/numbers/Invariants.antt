use Rattle.std.proofs.Common.{◌≡◌, ◌≤◌, ◌++◌, drop}
use Rattle.std.specs.Prelude.{vec_capacity, vec_len}
use Rattle.std.specs.List.{All, filter_map}
use Rattle.ide_image.specs.Ranks.{IsNumber, item_told, left_by_slots}
use Rattle.ide_image.proofs.noted_slots.NotedSlots.numbers.Given as goal

-- the items of the numbers so far, and what is left of the notes from here on, for which there is room
abbrev pub invariant-loop-index : goal.invariant-loop-index
invariant-loop-index g l = record {
  listed : filter_map (item_told l.self.indexed.now l.self.queue.now l.self.slots.now) l.numbers.items ++ left_by_slots g.F.PartialEq.eq l.self.indexed.now l.self.queue.now (drop l.index l.self.notes.now.items)
      ≡ left_by_slots g.F.PartialEq.eq l.self.indexed.now l.self.queue.now l.self.notes.now.items;
  each : All (IsNumber (item_told l.self.indexed.now l.self.queue.now l.self.slots.now)) l.numbers.items;
  few : vec_len l.numbers ≤ l.index;
  room : l.count ≤ vec_capacity l.numbers;
}
