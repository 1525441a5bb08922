-- What the values of a store's run are: of a world that acts led to, the best ones for its program and its roots; and why a
-- half does not answer them.
use Rattle.std.specs.Prelude.{◌≡◌, ℕ, ◌<◌, false, true, List, [], Some, map}
use Rattle.ide_batch.specs.Applied.{named_in}
use Rattle.ide_steps.specs.CloseRefusal.{IsFreezeRefusal}
use Rattle.ide_steps.specs.Core.{is_loaded}
use Rattle.ide_steps.specs.Frozen.{graph_in, program_in}
use Rattle.ide_steps.specs.Room.{IsGraphSaid}
use Rattle.ide_steps.specs.declared.closed.Closed.{Closed}
use Rattle.ide_store.specs.Freezing.{IsImageOf}
use Rattle.ide_store.specs.Places.{Place}
use Rattle.ide_store.specs.Table.{Analysis, IsReached, StoreWorld, TableData, WorksOn}
use Rattle.ide_store.specs.TableCalls.{IsRefusal}
use Rattle.ide_store.specs.Versioned.{VersionedEntry}
use Rattle.ide_theory.specs.Best.{IsBest}
use Rattle.ide_theory.specs.Graphs.{frame_at, roots_at}
use Rattle.ide_theory.specs.Sites.{HaveEdgesOf}
use Rattle.ide_values.specs.Frozen.{AreBestOf}
use Rattle.ide_values.specs.Refusal.{IsValuesRefusal}
use Rattle.ide_values.specs.Values.{ValuesData, value_there}
use Rattle.ide_wire.specs.declared.key.Key.{Key}
use Rattle.ide_wire.specs.declared.refused.Refused.{Refused}
use Rattle.ide_service.specs.Refusing.{IsRefusedIn}

module _ {F L : Type 0} (a : Analysis F L) where
  -- the values are those of the world's image, where nothing is pending: over a graph of its program, for its roots, each
  -- is the best one of its fact at its node
  pub record AreAnswersOf (place : Place) (w : StoreWorld a place) (values : ValuesData L) : Type 0 where
    pub program : w.world.image.program ≡ Some values.program
    pub graphed : IsGraphSaid (Some values.program) values.graph
    pub roots : map (named_in (Some values.graph)) w.world.image.roots ≡ map (λ root. Some root) values.roots
    pub quiet : (key : Key) → w.world.image.pending key ≡ false
    pub all : HaveEdgesOf values.graph.facts values.graph.sites
    pub best : (n d : ℕ) → n < values.graph.nodes → d < values.graph.facts
        → IsBest (frame_at a.lattice a.functions a.targets values.graph all) (roots_at a.lattice a.functions a.targets values.graph all values.roots) n d
        (value_there a.lattice values n d)

  -- of some world that acts led to
  pub record AreAnswersOfRun (values : ValuesData L) : Type 0 where
    pub place : Place
    pub world : StoreWorld a place
    pub reached : IsReached a place world
    pub answers : AreAnswersOf place world values

  -- of each world that acts led to, and on which the half works
  abbrev pub AreAnswersOver : TableData F → ValuesData L → Type 0
  AreAnswersOver table values = (place : Place) (w : StoreWorld a place) (handed : List VersionedEntry) → IsReached a place w → WorksOn a place w table handed
      → AreAnswersOf place w values

module _ (P : Type 0) {F L : Type 0} (a : Analysis F L) where
  -- where a frozen image is that of a world that acts led to, with the graph of its program, values that are best over the
  -- image are the world's
  abbrev pub ValuesOfRunsAreBest : Type 0
  ValuesOfRunsAreBest =
      (closed : Closed P L F) (values : ValuesData L) → IsGraphSaid (Some (program_in closed)) (graph_in closed)
      → values.program ≡ program_in closed → values.graph ≡ graph_in closed → values.roots ≡ closed.roots.items
      → AreBestOf a.lattice a.functions a.targets closed.tables.table values
      → (place : Place) (w : StoreWorld a place) → IsReached a place w → IsImageOf a place w closed → AreAnswersOf a place w values

module _ {F : Type 0} (table : TableData F) where
  -- a program is loaded, no key is pending, and no call of the writer failed
  pub record IsAnswerable : Type 0 where
    pub working : table.failed ≡ false
    pub loaded : is_loaded table.core ≡ true
    pub quiet : table.core.pile.pending ≡ []

  -- why no values are answered: the image is not frozen; or it can be, and its values are refused
  pub data IsAnswerRefusal (workers : ℕ) : Refused → Type 0 where
    not_frozen : {refused : Refused} → IsRefusal table (IsFreezeRefusal table.core) refused → IsAnswerRefusal workers refused
    no_values : {refused : Refused} → IsAnswerable → IsValuesRefusal workers refused → IsAnswerRefusal workers refused

-- why a service does not answer them: over some image that was met under the lock, that is not frozen; or its values are refused
pub data IsServedRefusal (F : Type 0) (workers : ℕ) : Refused → Type 0 where
  none_frozen : {refused : Refused} → IsRefusedIn {F = F} (λ table. IsFreezeRefusal table.core) refused → IsServedRefusal F workers refused
  none_filled : {refused : Refused} → IsValuesRefusal workers refused → IsServedRefusal F workers refused
