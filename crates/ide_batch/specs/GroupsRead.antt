-- What is known of groups that are read from the front of bytes, one after the other, with their items.
use Rattle.std.specs.Prelude.{◌≡◌, ℕ, ◌+◌, ◌≤◌, Bool, ◌&&◌, List, [], ◌∷◌, ◌++◌, Option, Some, None, length, nat_lt, IsTrue}
use Rattle.std.specs.Borrow.{Bor}
use Rattle.std.specs.Int.{w32, to_le_bytes}
use Rattle.std.specs.List.{AllByRecursion, flat_map}
use Rattle.std.specs.List.Sorted.{IsStrictlySortedBy}
use Rattle.std.specs.Ordering.{nat_cmp, ordering_then}
use Rattle.std.specs.declared.cmp.Ordering.{Ordering}
use Rattle.std.specs.declared.cmp.Ordering.TheVariants.{Less}
use Rattle.ide_wire.specs.Numbers.{fits}
use Rattle.ide_batch.specs.Forms.{all_proper}
use Rattle.ide_batch.specs.Groups.{Group, IsGroup, Member, group_cmp, group_form, is_proper_group, is_proper_member, items_of, member_cmp, member_form}
use Rattle.ide_batch.specs.Items.{Functions, Item}

-- two numbers by which things ascend: a group's kind and node, a member's facts
abbrev pub Place : Type 0
Place = ℕ × ℕ

abbrev pub place_cmp : Place → Place → Ordering
place_cmp x y = ordering_then (nat_cmp x.0 y.0) (nat_cmp x.1 y.1)

abbrev pub group_place : {F : Type 0} → Group F → Place
group_place group = (group.kind, group.node)

abbrev pub member_place : {F : Type 0} → Member F → Place
member_place member = (member.0, member.1)

-- above the place before, if there is one
abbrev pub IsAbove : Option Place → Place → Type 0
IsAbove None place = Unit {0}
IsAbove (Some before) place = place_cmp before place ≡ Less

-- the place of the last thing, or else the one before
abbrev pub last_place : {T : Type 0} → (T → Place) → Option Place → List T → Option Place
last_place place before [] = before
last_place place before (x ∷ xs) = last_place place (Some (place x)) xs

-- what stands before a group's members: its kind and node, and how many they are
abbrev pub Header : Type 0
Header = Place × ℕ

abbrev pub header_form : Header → List ℕ
header_form header = (header.0.0 ∷ to_le_bytes w32 header.0.1) ++ to_le_bytes w32 header.1

abbrev pub is_proper_header : Header → Bool
is_proper_header header = (nat_lt header.0.0 2 && fits 32 header.0.1) && fits 32 header.1

module _ {F : Type 0} (functions : Functions F) where
  -- so many members, which ascend
  pub record AreMembers (count : ℕ) (members : List (Member F)) : Type 0 where
    pub counted : length members ≡ count
    pub proper : IsTrue (all_proper (is_proper_member functions) members)
    pub ascending : IsStrictlySortedBy member_cmp members

  -- they stand in front of the bytes, and their items behind the old ones
  pub record ReadsMembers (place : Place) (count : ℕ) (old new : List (Item F)) (bytes rest : List ℕ) : Type 0 where
    pub members : List (Member F)
    pub are : AreMembers count members
    pub found : bytes ≡ flat_map (member_form functions) members ++ rest
    pub items_are : new ≡ old ++ items_of (record { kind = place.0; node = place.1; members = members })

  -- so they do, before the rest that is found
  abbrev pub Listed : Place → ℕ → (old new : List (Item F)) → List ℕ → Bor (List ℕ) → Type 0
  Listed place count old new bytes rest = ReadsMembers place count old new bytes rest.now

  abbrev pub NoMembers : ℕ → List ℕ → Type 0
  NoMembers count bytes = (members : List (Member F)) (rest : List ℕ) → AreMembers count members → bytes ≡ flat_map (member_form functions) members ++ rest → ⊥

  -- a group above the place before, whose items are few, with those so far
  pub record GroupMayFollow (before : Option Place) (so_far : ℕ) (group : Group F) : Type 0 where
    pub is : IsGroup group
    pub proper : IsTrue (is_proper_group functions group)
    pub above : IsAbove before (group_place group)
    pub few : so_far + length group.members ≤ 65536

  -- it stands in front of the bytes, at that place, and its items behind the old ones
  pub record ReadsGroup (before : Option Place) (place : Place) (old new : List (Item F)) (bytes rest : List ℕ) : Type 0 where
    pub group : Group F
    pub follows : GroupMayFollow before (length old) group
    pub place_is : place ≡ group_place group
    pub found : bytes ≡ group_form functions group ++ rest
    pub items_are : new ≡ old ++ items_of group

  -- so it does, at the place that is found, before the rest that is found
  abbrev pub GroupInFront : Option Place → (old new : List (Item F)) → List ℕ → Place × Bor (List ℕ) → Type 0
  GroupInFront before old new bytes found = ReadsGroup before found.0 old new bytes found.1.now

  abbrev pub NoGroup : Option Place → ℕ → List ℕ → Type 0
  NoGroup before so_far bytes = (group : Group F) (rest : List ℕ) → GroupMayFollow before so_far group → bytes ≡ group_form functions group ++ rest → ⊥

  -- so many groups, which ascend, with few items
  pub record AreInOrder (count : ℕ) (groups : List (Group F)) : Type 0 where
    pub counted : length groups ≡ count
    pub few : length (flat_map items_of groups) ≤ 65536
    pub ascending : IsStrictlySortedBy group_cmp groups
    pub each : AllByRecursion IsGroup groups
    pub proper : IsTrue (all_proper (is_proper_group functions) groups)

  -- they stand in front of the bytes, and the items are theirs
  pub record ReadsGroups (count : ℕ) (items : List (Item F)) (bytes rest : List ℕ) : Type 0 where
    pub groups : List (Group F)
    pub are : AreInOrder count groups
    pub found : bytes ≡ flat_map (group_form functions) groups ++ rest
    pub items_are : items ≡ flat_map items_of groups

  abbrev pub NoGroups : ℕ → List ℕ → Type 0
  NoGroups count bytes = (groups : List (Group F)) (rest : List ℕ) → AreInOrder count groups → bytes ≡ flat_map (group_form functions) groups ++ rest → ⊥
