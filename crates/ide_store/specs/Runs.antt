-- A run of a store: a world that acts led to, wherever the store stands; what it leaves, and what it answers.
use Rattle.std.specs.Prelude.{◌≡◌, ℕ, ◌<◌, List, Some, map}
use Rattle.ide_batch.specs.Applied.{named_in}
use Rattle.ide_steps.specs.Frozen.{graph_in, program_in}
use Rattle.ide_steps.specs.declared.closed.Closed.{Closed}
use Rattle.ide_image.specs.Tables.{found}
use Rattle.ide_theory.specs.Best.{IsBest}
use Rattle.ide_theory.specs.Value.{IsStarted, value_at}
use Rattle.ide_store.specs.Answers.{GraphBy, frame_by, roots_by}
use Rattle.ide_store.specs.Freezing.{IsImageOf}
use Rattle.ide_store.specs.Hands.{Happens}
use Rattle.ide_store.specs.Places.{Place}
use Rattle.ide_store.specs.Table.{Analysis, IsReached, StoreAct, StoreWorld, after_act, store_at}

module _ {F L : Type 0} (a : Analysis F L) (place : Place) where
  -- what the half that works does: nothing that happens to the store by itself
  abbrev pub IsOfTable : StoreAct a place → Type 0
  IsOfTable (Happens e) = ⊥
  IsOfTable act = Unit {0}

  -- the writer stands as it did, on the disks as they were, with as much stored
  pub record IsSameBelow (old new : StoreWorld a place) : Type 0 where
    pub stored : new.world.stored ≡ old.world.stored
    pub work : new.world.work ≡ old.world.work
    pub disks : new.world.disks ≡ old.world.disks

  -- the disks are those of a world that acts led to
  pub record IsLeftByRun (disks : (store_at a place).Disks) : Type 0 where
    pub world : StoreWorld a place
    pub reached : IsReached a place world
    pub stands : world.world.disks ≡ disks

module _ {F L : Type 0} (a : Analysis F L) where
  -- the frozen image is that of a world that acts led to, and nothing is pending in it
  pub record IsImageOfRun {P : Type 0} (closed : Closed P L F) : Type 0 where
    pub place : Place
    pub world : StoreWorld a place
    pub reached : IsReached a place world
    pub image : IsImageOf a place world closed

  -- over the graph, with roots of the names that its roots have, each value that follows from the frozen image is best
  pub record IsBestImage {P : Type 0} (closed : Closed P L F) (by : GraphBy (program_in closed)) : Type 0 where
    pub names : List (List ℕ)
    pub named : map (named_in (Some (graph_in closed))) names ≡ map (λ root. Some root) closed.roots.items
    pub best : (start : ℕ → ℕ → L)
        → IsStarted (frame_by a.lattice a.functions a.targets by) (roots_by a.lattice a.functions a.targets by names) (found closed.tables.table) start
        → (n d : ℕ) → d < by.graph.facts
        → IsBest (frame_by a.lattice a.functions a.targets by) (roots_by a.lattice a.functions a.targets by names) n d
        (value_at (frame_by a.lattice a.functions a.targets by) (found closed.tables.table) start n d)

-- a frozen image of a run answers with best values, over each graph of its program
abbrev pub FrozenImagesAnswer : Type 0 → {F L : Type 0} → Analysis F L → Type 0
FrozenImagesAnswer P {F} {L} a = (closed : Closed P L F) → IsImageOfRun a closed → (by : GraphBy (program_in closed)) → IsBestImage a closed by

-- what the half that works does leaves the disks and the writer as they are, wherever the store stands
abbrev pub ActsLeaveDisks : {F L : Type 0} → Analysis F L → Type 0
ActsLeaveDisks a = (place : Place) (w : StoreWorld a place) (act : StoreAct a place) → IsOfTable a place act
    → IsSameBelow a place w (after_act a place w act)
