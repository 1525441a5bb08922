use Rattle.std.proofs.Common.{◌-◌, length, map}
use Rattle.ide_journal.specs.Lists.{entry_of}
use Rattle.ide_journal.specs.Reading.{AreRead}
use Rattle.ide_journal.proofs.reading.read_records.Given as goal

abbrev pub invariant-loop-gate : goal.invariant-loop-gate
invariant-loop-gate l = AreRead (map entry_of l.records.items) l.gate l.bytes

abbrev pub decreases-loop-gate : goal.decreases-loop-gate
decreases-loop-gate l = length l.initial.bytes - l.gate
