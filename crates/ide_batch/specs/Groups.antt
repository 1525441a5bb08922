-- How the second version of a store spells items: those of one node and kind are a group, which names these once.
use Rattle.std.specs.Prelude.{◌≡◌, ℕ, zero, suc, ◌≤◌, Bool, ◌&&◌, List, ◌∷◌, ◌++◌, length, map, nat_lt, IsTrue}
use Rattle.std.specs.Int.{w16, w32, to_le_bytes}
use Rattle.std.specs.List.{AllByRecursion, flat_map}
use Rattle.std.specs.List.Sorted.{IsStrictlySortedBy}
use Rattle.std.specs.Ordering.{nat_cmp, ordering_then}
use Rattle.std.specs.declared.cmp.Ordering.{Ordering}
use Rattle.ide_wire.specs.Numbers.{fits}
use Rattle.ide_wire.specs.declared.key.Key.{Key}
use Rattle.ide_wire.specs.declared.key.Key.TheVariants.{Jump, Summary}
use Rattle.ide_batch.specs.Forms.{counted, is_countable}
use Rattle.ide_batch.specs.Items.{Functions, Item, entry_form, is_proper_entry}

-- the facts of an item, and what its key has
abbrev pub Member : Type 0 → Type 0
Member F = ℕ × ℕ × F × Bool

-- 0 for jumps and 1 for summaries, their node, and the members
pub record Group (F : Type 0) : Type 0 where
  pub kind : ℕ
  pub node : ℕ
  pub members : List (Member F)

-- the key of that kind, at that node
abbrev pub key_of_kind : (kind node first second : ℕ) → Key
key_of_kind zero n a b = Jump n a b
key_of_kind (suc _) n a b = Summary n a b

abbrev pub items_of : {F : Type 0} → Group F → List (Item F)
items_of group = map (λ member. (key_of_kind group.kind group.node member.0 member.1, member.2, member.3)) group.members

-- how two groups compare, by kind and then by node, and two members, by their facts
abbrev pub group_cmp : {F : Type 0} → Group F → Group F → Ordering
group_cmp g h = ordering_then (nat_cmp g.kind h.kind) (nat_cmp g.node h.node)

abbrev pub member_cmp : {F : Type 0} → Member F → Member F → Ordering
member_cmp m n = ordering_then (nat_cmp m.0 n.0) (nat_cmp m.1 n.1)

-- a group has members, and they ascend
pub record IsGroup {F : Type 0} (group : Group F) : Type 0 where
  pub some : 1 ≤ length group.members
  pub ascending : IsStrictlySortedBy member_cmp group.members

module _ {F : Type 0} (functions : Functions F) where
  abbrev pub member_form : Member F → List ℕ
  member_form member = (to_le_bytes w16 member.0 ++ to_le_bytes w16 member.1) ++ entry_form functions (member.2, member.3)

  abbrev pub members_form : List (Member F) → List ℕ
  members_form members = flat_map member_form members

  abbrev pub is_proper_member : Member F → Bool
  is_proper_member member = (fits 16 member.0 && fits 16 member.1) && is_proper_entry functions (member.2, member.3)

  -- a group: its kind and node, how many members, and each of them
  abbrev pub group_form : Group F → List ℕ
  group_form group = (group.kind ∷ to_le_bytes w32 group.node) ++ counted member_form group.members

  abbrev pub is_proper_group : Group F → Bool
  is_proper_group group = (nat_lt group.kind 2 && fits 32 group.node) && is_countable is_proper_member group.members

  -- groups that ascend, each with members that do, of 1 to 65,536 items in all
  pub record AreGroups (groups : List (Group F)) : Type 0 where
    pub some : 1 ≤ length groups
    pub few : length (flat_map items_of groups) ≤ 65536
    pub ascending : IsStrictlySortedBy group_cmp groups
    pub each : AllByRecursion IsGroup groups
    pub proper : IsTrue (is_countable is_proper_group groups)

  -- the body: how many groups, and each of them; the items are theirs
  pub record IsGroupedBody (items : List (Item F)) (body : List ℕ) : Type 0 where
    pub groups : List (Group F)
    pub are : AreGroups groups
    pub items_are : items ≡ flat_map items_of groups
    pub is : body ≡ counted group_form groups
