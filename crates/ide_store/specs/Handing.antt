-- How sealed records go over from the half that works to one that writes.
use Rattle.std.specs.Prelude.{◌≡◌, ◌++◌, List, []}
use Rattle.ide_journal.specs.Lists.{entries_of}
use Rattle.ide_journal.specs.declared.record.RawRecord.{RawRecord}
use Rattle.ide_store.specs.Table.{TableData}

-- they are handed over, where none waited in the queue; or some did, and they wait on
pub data HandsTo {F : Type 0} (old new : TableData F) (before after : List RawRecord) : Type 0 where
  gave : before ≡ [] → entries_of after ≡ old.waiting → new ≡ record old { waiting = [] } → HandsTo old new before after
  kept : (before ≡ [] → ⊥) → after ≡ before → new ≡ old → HandsTo old new before after

-- all of them are, behind those that waited in the queue
pub record HandsAll {F : Type 0} (old new : TableData F) (before after : List RawRecord) : Type 0 where
  pub waits : entries_of after ≡ entries_of before ++ old.waiting
  pub rest : new ≡ record old { waiting = [] }
