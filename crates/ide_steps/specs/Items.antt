-- A core's image as a list, and which entries one may be made from.
use Rattle.std.specs.Prelude.{◌≡◌, ◌≢◌, ◌<◌, ◌↔◌, Bool, true, Some, List, if◌then◌else◌, map, slice_get}
use Rattle.std.specs.List.{Contains}
use Rattle.std.specs.List.Sorted.{IsStrictlySortedBy}
use Rattle.ide_graph.specs.Supergraph.{Supergraph}
use Rattle.ide_lattice.specs.Algebra.{EdgeAlgebra}
use Rattle.ide_image.specs.Tables.{found, function_at}
use Rattle.ide_theory.specs.Parts.{IsKeyInRange}
use Rattle.ide_theory.specs.Within.{is_some_call}
use Rattle.ide_wire.specs.Key.{same_key}
use Rattle.ide_wire.specs.KeyOrder.{key_cmp}
use Rattle.ide_wire.specs.declared.key.Key.{Key}
use Rattle.ide_wire.specs.declared.key.Key.TheVariants.{Jump, Summary}
use Rattle.ide_image.specs.Worklist.{Pile, is_pending}
use Rattle.ide_steps.specs.Changed.{standing_entry, entry_then}
use Rattle.ide_steps.specs.Core.{CoreData}

-- the key stands at a node of the graph, a summary at a call node
abbrev pub StandsAt : Supergraph → Key → Type 0
StandsAt graph (Jump n a b) = n < graph.nodes
StandsAt graph (Summary c a b) = is_some_call (slice_get graph.sites c) ≡ true

-- and its facts are facts of the graph
pub record IsKeyOf (graph : Supergraph) (key : Key) : Type 0 where
  pub stands : StandsAt graph key
  pub in_range : IsKeyInRange graph.facts key

-- the item of a present key
abbrev pub item_of : {F L : Type 0} → EdgeAlgebra F L → CoreData F → Key → Key × F × Bool
item_of B core key = (key, function_at B core.table key, is_pending core.pile key)

-- the items, ascending by key, are the present keys, each with its function and whether it is pending
pub record AreItems {F : Type 0} (core : CoreData F) (items : List (Key × F × Bool)) : Type 0 where
  pub ascending : IsStrictlySortedBy key_cmp (map (λ item. item.0) items)
  pub exact : (key : Key) (f : F) (waits : Bool)
      → Contains items (key, f, waits) ↔ ((found core.table key ≡ Some f) × (waits ≡ is_pending core.pile key))

-- the items, ascending by key, are the present keys whose entry is not that of then, each with its function and whether it is
-- pending
pub record AreChangedItems {F : Type 0} (core : CoreData F) (items : List (Key × F × Bool)) : Type 0 where
  pub ascending : IsStrictlySortedBy key_cmp (map (λ item. item.0) items)
  pub exact : (key : Key) (f : F) (waits : Bool) → Contains items (key, f, waits)
      ↔ ((found core.table key ≡ Some f) × (waits ≡ is_pending core.pile key) × (standing_entry core key ≢ entry_then core key))

-- the key is pending or not, as told, and each other key as it was
abbrev pub SetsPending : {T : Type 0} → Key → Bool → (old new : Pile T) → Type 0
SetsPending key pending old new = (q : Key) → is_pending new q ≡ (if same_key key q then pending else is_pending old q)
