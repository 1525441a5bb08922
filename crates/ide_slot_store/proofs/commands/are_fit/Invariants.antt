use Rattle.std.proofs.Common.{drop}
use Rattle.std.specs.Prelude.{◌↔◌}
use Rattle.ide_slots.specs.Records.{all_numbered}
use Rattle.ide_slots.specs.Slot.{AreCommands}
use Rattle.ide_slot_store.proofs.commands.are_fit.Given as goal

-- so many are fit, and all are where the rest is
abbrev pub invariant-loop-one : goal.invariant-loop-one
invariant-loop-one l = AreCommands 0 l.base (all_numbered l.commands) ↔ AreCommands l.from l.base (all_numbered (drop l.one-index l.commands))
