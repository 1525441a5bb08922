-- The groups of items, in which the second version of a store spells them.
use Rattle.std.specs.Prelude.{ℕ, Bool, ◌&&◌, cond, nat_eq, List, [], ◌∷◌}
use Rattle.ide_wire.specs.Key.{node_of}
use Rattle.ide_wire.specs.declared.key.Key.{Key}
use Rattle.ide_wire.specs.declared.key.Key.TheVariants.{Jump, Summary}
use Rattle.ide_batch.specs.Groups.{Group, IsGroupedBody, Member}
use Rattle.ide_batch.specs.Items.{Functions, Item, IsListBody}

-- 0 for a jump and 1 for a summary
abbrev pub kind_at : Key → ℕ
kind_at (Jump n a b) = 0
kind_at (Summary n a b) = 1

abbrev pub facts_in : Key → ℕ × ℕ
facts_in (Jump n a b) = (a, b)
facts_in (Summary n a b) = (a, b)

abbrev pub member_of : {F : Type 0} → Item F → Member F
member_of item = ((facts_in item.0).0, (facts_in item.0).1, item.1, item.2)

-- the key has the group's kind and node
abbrev pub is_at : {F : Type 0} → Group F → Key → Bool
is_at group key = nat_eq group.kind (kind_at key) && nat_eq group.node (node_of key)

-- a group of one item
abbrev pub alone : {F : Type 0} → Item F → Group F
alone item = record { kind = kind_at item.0; node = node_of item.0; members = member_of item ∷ [] }

-- the group with one more member, the first
abbrev pub with_member : {F : Type 0} → Member F → Group F → Group F
with_member member group = record group { members = member ∷ group.members }

-- an item before groups: it is in the first of them if it has its kind and node, and else in one of its own
abbrev pub joined_to_groups : {F : Type 0} → Item F → List (Group F) → List (Group F)
joined_to_groups item [] = alone item ∷ []
joined_to_groups item (g ∷ groups) = cond (is_at g item.0) (with_member (member_of item) g ∷ groups) (alone item ∷ g ∷ groups)

-- the items in runs of one kind and node
abbrev pub groups_of : {F : Type 0} → List (Item F) → List (Group F)
groups_of [] = []
groups_of (item ∷ items) = joined_to_groups item (groups_of items)

-- items that the first version spells have a body in the second too
abbrev pub GroupsSpellLists : {F : Type 0} → Functions F → Type 0
GroupsSpellLists {F = F} functions =
    (items : List (Item F)) (listed : List ℕ) → IsListBody functions items listed → (body : List ℕ) × IsGroupedBody functions items body
