-- How a store of either version spells a record as the body of a record of its journal.
use Rattle.std.specs.Prelude.{◌≡◌, ℕ, ◌≤◌, List, length}
use Rattle.ide_journal.specs.Format.{Entry, IsEntry}
use Rattle.ide_journal.specs.Lists.{entry_of}
use Rattle.ide_journal.specs.declared.record.RawRecord.{RawRecord}
use Rattle.ide_journal.specs.declared.version.Version.{Version}
use Rattle.ide_journal.specs.declared.version.Version.TheVariants.{One, Two}
use Rattle.ide_batch.specs.Groups.{IsGroupedBody}
use Rattle.ide_batch.specs.Items.{AreWritten, Functions, Item, IsListBody}
use Rattle.ide_batch.specs.Records.{RecordValue, Load, Root, Batch, record_kind}

module _ {F : Type 0} (functions : Functions F) where
  -- the items' body: a list in the first version, groups in the second
  abbrev pub AreSpelled : Version → List (Item F) → List ℕ → Type 0
  AreSpelled One items body = IsListBody functions items body
  AreSpelled Two items body = IsGroupedBody functions items body

  -- no items have the body
  abbrev pub SpellsNone : Version → List ℕ → Type 0
  SpellsNone version body = (items : List (Item F)) → ¬ (AreSpelled version items body)

  -- the record's body: of a load the program's text, of a root the procedure's name
  abbrev pub IsBody : Version → RecordValue F → List ℕ → Type 0
  IsBody version (Load text) body = body ≡ text
  IsBody version (Root name) body = body ≡ name
  IsBody version (Batch items) body = AreSpelled version items body

  -- the journal's record has the record's kind and its body
  pub record IsEntryOf (version : Version) (record_value : RecordValue F) (entry : Entry) : Type 0 where
    pub kind : entry.0 ≡ record_kind record_value
    pub body : IsBody version record_value entry.1

  -- it is such a record as the journal takes, and is the record
  pub record IsRawOf (version : Version) (record_value : RecordValue F) (raw : RawRecord) : Type 0 where
    pub entry : IsEntryOf version record_value (entry_of raw)
    pub taken : IsEntry (entry_of raw)

  -- the formats spell the record: a text or a name within the limit of a body, or items such as a body may have
  abbrev pub MayBeSpelled : RecordValue F → Type 0
  MayBeSpelled (Load text) = length text ≤ 4194304
  MayBeSpelled (Root name) = length name ≤ 4194304
  MayBeSpelled (Batch items) = AreWritten functions items
