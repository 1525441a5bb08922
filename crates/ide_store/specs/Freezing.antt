-- What a frozen image is of a store's world.
use Rattle.std.specs.Prelude.{◌≡◌, false, List, Some, map}
use Rattle.ide_batch.specs.Applied.{named_in}
use Rattle.ide_steps.specs.Frozen.{graph_in, program_in}
use Rattle.ide_steps.specs.declared.closed.Closed.{Closed}
use Rattle.ide_image.specs.Tables.{found}
use Rattle.ide_wire.specs.declared.key.Key.{Key}
use Rattle.ide_store.specs.Places.{Place}
use Rattle.ide_store.specs.Table.{Analysis, IsReached, StoreWorld, TableData, WorksOn}
use Rattle.ide_store.specs.Versioned.{VersionedEntry}

module _ {P F L : Type 0} (a : Analysis F L) where
  -- the frozen image is the world's, and nothing is pending in it
  pub record IsImageOf (place : Place) (w : StoreWorld a place) (closed : Closed P L F) : Type 0 where
    pub program : w.world.image.program ≡ Some (program_in closed)
    pub roots : map (named_in (Some (graph_in closed))) w.world.image.roots ≡ map (λ root. Some root) closed.roots.items
    pub functions : (key : Key) → w.world.image.get key ≡ found closed.tables.table key
    pub quiet : (key : Key) → w.world.image.pending key ≡ false

  -- of each world that acts led to, and on which the half works
  abbrev pub IsImageOver : TableData F → Closed P L F → Type 0
  IsImageOver table closed = (place : Place) (w : StoreWorld a place) (handed : List VersionedEntry) → IsReached a place w → WorksOn a place w table handed
      → IsImageOf place w closed
