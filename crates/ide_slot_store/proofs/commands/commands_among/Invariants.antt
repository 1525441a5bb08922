use Rattle.std.proofs.Common.{◌≡◌, filter, take}
use Rattle.ide_slots.specs.Records.{all_numbered}
use Rattle.ide_store.specs.TwoDisks.{is_command}
use Rattle.ide_slot_store.proofs.commands.commands_among.Given as goal

-- of so many the commands are copied
abbrev pub invariant-loop-one : goal.invariant-loop-one
invariant-loop-one l = all_numbered l.commands.items ≡ filter is_command (all_numbered (take l.one-index l.found))
