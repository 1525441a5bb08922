use Rattle.std.proofs.Common.{◌≡◌, ◌++◌, map, take}
use Rattle.ide_slots.specs.Filling.{with_gate}
use Rattle.ide_slots.specs.Records.{all_numbered}
use Rattle.ide_slot_journal.specs.Planning.{chunk_bytes}
use Rattle.ide_slot_journal.proofs.planning.Spelling.push_commands.Given as goal

abbrev pub invariant-loop-command : goal.invariant-loop-command
invariant-loop-command l =
    chunk_bytes l.self.todo.items ≡ chunk_bytes l.initial.self.todo.items ++ map (with_gate 1) (all_numbered (take l.command-index l.commands))
