use Rattle.std.proofs.Common.{◌≡◌, ◌++◌, map, take}
use Rattle.ide_journal.specs.Lists.{entries_of}
use Rattle.ide_slots.specs.Filling.{with_gate}
use Rattle.ide_slots.specs.Slot.{numbered_from}
use Rattle.ide_slot_journal.specs.Planning.{chunk_bytes}
use Rattle.ide_slot_journal.proofs.planning.Spelling.push_parts.Given as goal

abbrev pub invariant-loop-number : goal.invariant-loop-number
invariant-loop-number l =
    chunk_bytes l.self.todo.items ≡ chunk_bytes l.initial.self.todo.items ++ map (with_gate 1) (numbered_from 0 (entries_of (take l.number l.parts)))
