-- An image in parts, as a checkpoint writes it, and why such parts make one.
use Rattle.std.specs.Prelude.{◌≡◌, ◌<◌, ◌≤◌, ℕ, Bool, false, List, [], ◌∷◌, None, Some, drop, length, map, take}
use Rattle.std.specs.Global.{Vec}
use Rattle.std.specs.List.{Contains}
use Rattle.ide_batch.specs.Applied.{HasImage}
use Rattle.ide_batch.specs.Bodies.{AreSpelled}
use Rattle.ide_batch.specs.Fold.{ProgramImage, image_entry}
use Rattle.ide_batch.specs.Items.{Functions, Item, functions_by, is_proper_item}
use Rattle.ide_image.specs.Tables.{found}
use Rattle.ide_journal.specs.Format.{Entry}
use Rattle.ide_journal.specs.Lists.{entries_of, entry_of}
use Rattle.ide_journal.specs.declared.record.RawRecord.{RawRecord}
use Rattle.ide_journal.specs.declared.version.Version.TheVariants.{Two}
use Rattle.ide_slots.specs.Slot.{IsPartEntry}
use Rattle.ide_steps.specs.Items.{AreItems}
use Rattle.ide_wire.specs.declared.key.Key.{Key}
use Rattle.ide_wire.specs.declared.refused.Refused.{Refused}
use Rattle.ide_wire.specs.declared.refused.Refused.TheVariants.{Limit, NoMemory}
use Rattle.ide_store.specs.Table.{Analysis, TableData, forms_of}
use Rattle.ide_store.specs.TwoDisks.{commands_of, unnumbered}
use Rattle.ide_store.specs.TwoDisksLaws.{ArePartsOf, slots_of}
use Rattle.ide_store.specs.Versioned.{VersionedEntry, in_version}
use Rattle.ide_store.specs.World.{IsFolded, LeadTo}

module _ {F : Type 0} (forms : Functions F) where
  -- a part of an image: its body is that of a batch of these items, of which there are 1 to 65,536, in the second version
  pub record IsImagePart (items : List (Item F)) (part : Entry) : Type 0 where
    pub some : 1 ≤ length items
    pub few : length items ≤ 65536
    pub proper : IsPartEntry part
    pub spelled : AreSpelled forms Two items part.1

  -- the items in parts, one behind the other: 65,536 in each, and in the last one all that are left
  abbrev pub AreInParts : List (Item F) → List Entry → Type 0
  AreInParts items [] = items ≡ []
  AreInParts items (part ∷ parts) = IsImagePart (take 65536 items) part × AreInParts (drop 65536 items) parts

  -- why items are not spelled in parts: no record spells the function of one of them, or memory is wanting
  pub data IsSpellStop (items : List (Item F)) : Refused → Type 0 where
    one_not_spelled : (item : Item F) → Contains items item → is_proper_item forms item ≡ false → IsSpellStop items Limit
    wants_memory : IsSpellStop items NoMemory

module _ {F : Type 0} (proper : F → Bool) (form : F → List ℕ) (same : F → F → Bool) (top : F) (items : List (Item F)) where
  -- with these tests and forms of functions: a record that is such a part
  abbrev pub IsRawPart : RawRecord → Type 0
  IsRawPart part = IsImagePart (functions_by proper form same top) items (entry_of part)

  -- records that are such parts, one behind the other
  abbrev pub AreInRawParts : Vec RawRecord → Type 0
  AreInRawParts parts = AreInParts (functions_by proper form same top) items (entries_of parts.items)

  -- and why there are none
  abbrev pub IsSpellRefusal : Refused → Type 0
  IsSpellRefusal refused = IsSpellStop (functions_by proper form same top) items refused

module _ {F L : Type 0} (a : Analysis F L) where
  -- the image of the half's core in parts: its present keys, which ascend through all of them; and no more parts than a
  -- checkpoint may have
  pub record AreImageParts (table : TableData F) (parts : List Entry) : Type 0 where
    pub items : List (Item F)
    pub are : AreItems table.core items
    pub in_parts : AreInParts (forms_of a) items parts
    pub few : length parts ≤ 4294967295

  -- as records that a writer takes
  abbrev pub AreRawParts : TableData F → Vec RawRecord → Type 0
  AreRawParts table parts = AreImageParts table (entries_of parts.items)

  -- why an image is not given in parts: no record spells the function of a present key; or there are more keys than the
  -- parts of a checkpoint have room for, 65,536 in each of 4,294,967,295; or memory is wanting
  pub data IsPartsStop (table : TableData F) : Refused → Type 0 where
    key_not_spelled : (item : Item F) → found table.core.table item.0 ≡ Some item.1 → is_proper_item (forms_of a) item ≡ false
        → IsPartsStop table Limit
    many_keys : (items : List (Item F)) → AreItems table.core items → 281474976645120 < length items → IsPartsStop table Limit
    memory_is_wanting : IsPartsStop table NoMemory

-- ---- why they make a checkpoint
-- an image of the same program and roots; and a key that is absent in the other has the same entry in both
pub record IsBelow {F : Type 0} (before now : ProgramImage F) : Type 0 where
  pub program : before.program ≡ now.program
  pub roots : before.roots ≡ now.roots
  pub absent : (key : Key) → now.get key ≡ None → image_entry before key ≡ image_entry now key

module _ {F L : Type 0} (a : Analysis F L) where
  -- the commands among records, of whatever version, give back in the second an image below the one that all of them do
  abbrev pub CommandsStayBelow : Type 0
  CommandsStayBelow = (records : List VersionedEntry) (now : ProgramImage F) → IsFolded (slots_of a) records now
      → (before : ProgramImage F) × IsFolded (slots_of a) (in_version Two (map unnumbered (commands_of records))) before × IsBelow before now

  -- from each image below that of a core the parts of this one lead to it
  abbrev pub PartsLeadUp : Type 0
  PartsLeadUp = (table : TableData F) (parts : List Entry) (before now : ProgramImage F) → AreImageParts a table parts
      → HasImage now table.core → IsBelow before now → LeadTo (slots_of a) (in_version Two parts) before now

  -- so the parts of a core's image are parts of the records that give back this image, if there is a command among them
  abbrev pub ImagePartsMakeCheckpoints : Type 0
  ImagePartsMakeCheckpoints = (table : TableData F) (records : List VersionedEntry) (parts : List Entry) (now : ProgramImage F)
      → AreImageParts a table parts → IsFolded (slots_of a) records now → HasImage now table.core
      → 0 < length (commands_of records) → ArePartsOf (slots_of a) records parts
