use Rattle.std.proofs.Common.{◌≡◌}
use Rattle.ide_journal.specs.Lists.{entries_of}
use Rattle.ide_slot_store.specs.Batches.{batches_of}
use Rattle.ide_slot_store.proofs.batches.as_batches.Given as goal

-- so many are taken, each without its number
abbrev pub invariant-loop-one : goal.invariant-loop-one
invariant-loop-one l = entries_of l.records.items ≡ batches_of l.yielded
