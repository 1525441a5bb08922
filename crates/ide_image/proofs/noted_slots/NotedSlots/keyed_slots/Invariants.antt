use Rattle.std.proofs.Common.{◌≡◌, ◌≤◌, ◌++◌, drop}
use Rattle.std.specs.Prelude.{vec_capacity, vec_len}
use Rattle.std.specs.List.{All, filter_map}
use Rattle.ide_image.specs.Ranks.{IsKeyed, item_beside, left_by_slots}
use Rattle.ide_image.proofs.noted_slots.NotedSlots.keyed_slots.Given as goal

-- the items of the slots so far, and what is left of the notes from here on, for which there is room
abbrev pub invariant-loop-index : goal.invariant-loop-index
invariant-loop-index g l = record {
  listed : filter_map (item_beside l.self.indexed.now l.self.queue.now) l.keyed.items ++ left_by_slots g.F.PartialEq.eq l.self.indexed.now l.self.queue.now (drop l.index l.self.notes.now.items)
      ≡ left_by_slots g.F.PartialEq.eq l.self.indexed.now l.self.queue.now l.self.notes.now.items;
  each : All (IsKeyed l.self.indexed.now l.self.queue.now) l.keyed.items;
  few : vec_len l.keyed ≤ l.index;
  room : l.count ≤ vec_capacity l.keyed;
}
