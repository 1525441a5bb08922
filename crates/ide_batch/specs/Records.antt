-- Records by what they say.
use Rattle.std.specs.Prelude.{ℕ, List}
use Rattle.ide_batch.specs.Items.{Item}
use Rattle.ide_batch.specs.declared.record.Record.{Record}
use Rattle.ide_batch.specs.declared.record.Record.TheVariants as declared

-- a program's text is loaded, the procedure of a name becomes a root, or keys change their entries
pub data RecordValue (F : Type 0) : Type 0 where
  Load : List ℕ → RecordValue F
  Root : List ℕ → RecordValue F
  Batch : List (Item F) → RecordValue F

abbrev pub value_of_record : {F : Type 0} → Record F → RecordValue F
value_of_record (declared.Load text) = Load text.items
value_of_record (declared.Root name) = Root name.items
value_of_record (declared.Batch items) = Batch items.items

-- the kind that the journal notes
abbrev pub record_kind : {F : Type 0} → RecordValue F → ℕ
record_kind (Load text) = 1
record_kind (Root name) = 2
record_kind (Batch items) = 3
