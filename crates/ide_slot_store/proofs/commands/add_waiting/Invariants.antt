use Rattle.std.proofs.Common.{◌≡◌, ◌≤◌, ◌+◌, ◌++◌, length, take}
use Rattle.std.specs.Prelude.{vec_capacity}
use Rattle.std.specs.VecDeque.Iter.{deque_iter_rest}
use Rattle.ide_journal.specs.Lists.{entries_of}
use Rattle.ide_slots.specs.Records.{all_numbered}
use Rattle.ide_store.specs.TwoDisks.{commands_from}
use Rattle.ide_slot_store.proofs.commands.add_waiting.Given as goal

-- so many are added, and the commands among the rest are still to come
abbrev pub invariant-loop-raw : goal.invariant-loop-raw
invariant-loop-raw l = record {
  can_next : (goal.iterator-loop-raw).can_next l.raw-iterator;
  is_finite : (goal.iterator-loop-raw).is_finite l.raw-iterator;
  count : l.number + length (deque_iter_rest l.raw-iterator) ≡ l.fn.from + length l.fn.waiting.items;
  added : all_numbered l.commands.items ++ commands_from l.number (entries_of (deque_iter_rest l.raw-iterator))
      ≡ all_numbered l.fn.commands.items ++ commands_from l.fn.from (entries_of l.fn.waiting.items);
  stay : take (length l.fn.commands.items) l.commands.items ≡ l.fn.commands.items;
  room : vec_capacity l.fn.commands ≤ vec_capacity l.commands;
}
