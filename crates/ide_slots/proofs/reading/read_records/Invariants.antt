use Rattle.std.proofs.Common.{◌≡◌, ◌-◌, length}
use Rattle.ide_slots.specs.Records.{AreReadSo, all_numbered, end_of_numbers}
use Rattle.ide_slots.proofs.reading.read_records.Given as goal

abbrev pub invariant-loop-gate : goal.invariant-loop-gate
invariant-loop-gate l = record {
  read : AreReadSo l.head (all_numbered l.records.items) l.gate l.bytes;
  from : l.from ≡ end_of_numbers 0 (all_numbered l.records.items);
}

abbrev pub decreases-loop-gate : goal.decreases-loop-gate
decreases-loop-gate l = length l.initial.bytes - l.gate
