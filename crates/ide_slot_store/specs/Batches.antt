-- The records of a slot as those of a store on one disk: a part is the batch of its items.
use Rattle.std.specs.Prelude.{List, cond, map, nat_eq}
use Rattle.ide_journal.specs.Format.{Entry}
use Rattle.ide_slots.specs.Records.{all_numbered}
use Rattle.ide_slots.specs.declared.record.NumberedRecord.{NumberedRecord}
use Rattle.ide_store.specs.TwoDisks.{unnumbered}

-- a part, of kind 4, is a batch, of kind 3; and each other record is itself
abbrev pub batch_of : Entry → Entry
batch_of entry = (cond (nat_eq entry.0 4) 3 entry.0, entry.1)

-- those that a slot has, without their numbers
abbrev pub batches_of : List NumberedRecord → List Entry
batches_of found = map batch_of (map unnumbered (all_numbered found))
