-- A batch that is spelled item by item: what its writer has of the items that were put.
use Rattle.std.specs.Prelude.{◌≡◌, ℕ, ◌+◌, ◌≤◌, ◌<◌, Bool, ◌&&◌, cond, List, [], ◌∷◌, ◌++◌, Option, Some, None, drop, length, nat_eq, nat_lt, take, IsTrue, MatchOption}
use Rattle.std.specs.Int.{w32, to_le_bytes}
use Rattle.std.specs.List.{flat_map}
use Rattle.std.specs.declared.cmp.Ordering.TheVariants.{Less}
use Rattle.ide_journal.specs.declared.record.RawRecord.{RawRecord}
use Rattle.ide_journal.specs.declared.version.Version.{Version}
use Rattle.ide_journal.specs.declared.version.Version.TheVariants.{One, Two}
use Rattle.ide_wire.specs.Key.{node_of}
use Rattle.ide_wire.specs.KeyOrder.{key_cmp}
use Rattle.ide_wire.specs.declared.key.Key.{Key}
use Rattle.ide_batch.specs.Bodies.{IsRawOf}
use Rattle.ide_batch.specs.Grouping.{groups_of, kind_at, member_of}
use Rattle.ide_batch.specs.Groups.{Group, group_form, member_form, members_form}
use Rattle.ide_batch.specs.Items.{AreWritten, Functions, Item, is_proper_item, item_form}
use Rattle.ide_batch.specs.Records.{Batch}

-- the version and the bytes so far; how many items were put; the kind and the node of the last group, how many groups were begun,
-- how many members the last one has, and where their count stands
pub record WriterData : Type 0 where
  pub version : Version
  pub body : List ℕ
  pub items : ℕ
  pub kind : ℕ
  pub node : ℕ
  pub groups : ℕ
  pub members : ℕ
  pub place : ℕ

-- what is true of each writer: how many items, groups and members it has at most, and that four bytes are there for each count
pub record HasRoom (size items groups members place : ℕ) : Type 0 where
  pub few : items ≤ 65536
  pub groups_few : groups ≤ items
  pub members_few : members ≤ items
  pub first : 4 ≤ size
  pub second : 1 ≤ groups → place + 4 ≤ size

-- the bytes, with the four of the number over those from the place on
abbrev pub written_over : (place number : ℕ) → List ℕ → List ℕ
written_over place number bytes = take place bytes ++ to_le_bytes w32 number ++ drop (place + 4) bytes

-- the key is above that of the last item, if there is one
abbrev pub IsAboveLast : Option Key → Key → Type 0
IsAboveLast None key = Unit {0}
IsAboveLast (Some last) key = key_cmp last key ≡ Less

-- whether it has the kind and the node of the last group
abbrev pub is_in_last : WriterData → Key → Bool
is_in_last writer key = nat_eq writer.kind (kind_at key) && nat_eq writer.node (node_of key)

-- the bytes with the count of the last group's members, if a group was begun
abbrev pub ended : WriterData → List ℕ
ended writer = cond (nat_lt 0 writer.groups) (written_over writer.place writer.members writer.body) writer.body

-- and with the count in front: of the items, or of the groups
abbrev pub finished : Version → WriterData → List ℕ
finished One writer = written_over 0 writer.items writer.body
finished Two writer = written_over 0 writer.groups (ended writer)

-- the bytes of the groups so far, and the kind and the node of the next
abbrev pub headed : (kind node : ℕ) → WriterData → List ℕ
headed kind node writer = ended writer ++ kind ∷ to_le_bytes w32 node

-- the writer has begun a group of the kind and the node, and left four bytes for the count of its members
abbrev pub with_group : (kind node : ℕ) → WriterData → WriterData
with_group kind node writer = record writer {
  body = headed kind node writer ++ to_le_bytes w32 0;
  kind = kind;
  node = node;
  groups = writer.groups + 1;
  members = 0;
  place = length (headed kind node writer);
}

-- the writer whose last group is of the key's kind and node
abbrev pub in_group : Key → WriterData → WriterData
in_group key writer = cond (is_in_last writer key) writer (with_group (kind_at key) (node_of key) writer)

-- the key of the last item, if there is one
abbrev pub last_key : {F : Type 0} → List (Item F) → Option Key
last_key [] = None
last_key (item ∷ []) = Some item.0
last_key (item ∷ items) = last_key items

-- no group was begun: there are four bytes, for the count of the groups, and no key has the kind
pub record HasNoGroup (writer : WriterData) : Type 0 where
  pub four : length writer.body ≡ 4
  pub begun : writer.groups ≡ 0
  pub none : writer.kind ≡ 2

module _ {F : Type 0} (functions : Functions F) where
  -- a batch may have the item, where its key is above those of the items that were put: there is room for one more, and a
  -- record spells its numbers and its function
  pub record MayFollow (item : Item F) (writer : WriterData) : Type 0 where
    pub few : writer.items < 65536
    pub proper : IsTrue (is_proper_item functions item)

  -- the writer with the item as one more member of the last group
  abbrev pub with_form : Item F → WriterData → WriterData
  with_form item writer = record writer {
    body = writer.body ++ member_form functions (member_of item);
    members = writer.members + 1;
  }

  -- and as one of the group of its kind and node
  abbrev pub with_member : Item F → WriterData → WriterData
  with_member item writer = with_form item (in_group item.0 writer)

  -- the writer with the item's form behind the others: in the second version it is a member of its group
  abbrev pub appended : Version → Item F → WriterData → WriterData
  appended One item writer = record writer { body = writer.body ++ item_form functions item }
  appended Two item writer = with_member item writer

  -- the bytes are four for the count of the items, and their forms
  pub record AreListed (items : List (Item F)) (body : List ℕ) : Type 0 where
    pub count : List ℕ
    pub four : length count ≡ 4
    pub is : body ≡ count ++ flat_map (item_form functions) items

  -- the bytes before the count of the last group's members: those of the count of the groups, the other groups, its kind and
  -- its node
  abbrev pub front_of : List ℕ → List (Group F) → Group F → List ℕ
  front_of count before group = count ++ flat_map (group_form functions) before ++ group.kind ∷ to_le_bytes w32 group.node

  -- the bytes are those, four for the count of the last group's members, and these; the writer knows where the four stand, and
  -- the group's kind and node
  pub record AreGrouped (items : List (Item F)) (writer : WriterData) : Type 0 where
    pub before : List (Group F)
    pub group : Group F
    pub groups : groups_of items ≡ before ++ group ∷ []
    pub count : List ℕ
    pub four : length count ≡ 4
    pub hole : List ℕ
    pub four_too : length hole ≡ 4
    pub is : writer.body ≡ front_of count before group ++ hole ++ members_form functions group.members
    pub kind : writer.kind ≡ group.kind
    pub node : writer.node ≡ group.node
    pub place : writer.place ≡ length (front_of count before group)
    pub begun : writer.groups ≡ length before + 1
    pub members : writer.members ≡ length group.members

  -- the writer's bytes are those of the items, but for the counts
  abbrev pub AreBegun : Version → List (Item F) → WriterData → Type 0
  AreBegun One items writer = AreListed items writer.body
  AreBegun Two [] writer = HasNoGroup writer
  AreBegun Two (item ∷ items) writer = AreGrouped (item ∷ items) writer

  -- the writer has the items, which are none or such as a batch may have
  pub record Holds (version : Version) (items : List (Item F)) (writer : WriterData) : Type 0 where
    pub version_is : writer.version ≡ version
    pub count : writer.items ≡ length items
    pub written : 1 ≤ length items → AreWritten functions items
    pub begun : AreBegun version items writer

  -- the item is behind those that the writer has in that version, if its key is above theirs
  abbrev pub PutsItem : Version → Item F → (old new : WriterData) → Type 0
  PutsItem version item old new =
      (items : List (Item F)) → Holds version items old → IsAboveLast (last_key items) item.0 → Holds version (items ++ item ∷ []) new

  -- no batch has the item behind those that the writer has
  abbrev pub StopsAtItem : Item F → WriterData → Type 0
  StopsAtItem item writer =
      (version : Version) (items rest : List (Item F)) → Holds version items writer → ¬ (AreWritten functions (items ++ item ∷ rest))

  -- it is a batch of the items that the writer has, or there is none, and no item
  abbrev pub IsSpelledBatch : WriterData → Option RawRecord → Type 0
  IsSpelledBatch writer raw =
      (version : Version) (items : List (Item F)) → Holds version items writer → MatchOption raw (items ≡ []) (IsRawOf functions version (Batch items))
