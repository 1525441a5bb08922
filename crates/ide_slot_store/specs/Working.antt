-- Work by one hand on a store on two disks, stored as it goes.
use Rattle.std.specs.Prelude.{◌≡◌, ℕ, Bool, true, []}
use Rattle.ide_disk.specs.declared.disk.Disk.{Ghosts}
use Rattle.ide_store.specs.Draining.{RunsKeys, StopsBy}
use Rattle.ide_store.specs.Table.{Analysis, TableData}
use Rattle.ide_store.specs.TableCalls.{FindsNothing, SealsBatch}
use Rattle.ide_slot_store.specs.Storing.{StoreAll}
use Rattle.ide_slot_store.specs.declared.engine.SlotEngine.{SlotEngine}

module _ {F L : Type 0} (a : Analysis F L) where
  -- what changed is sealed, if anything did
  pub data SealsRest (worked kept : TableData F) : Type 0 where
    seals_nothing : FindsNothing a worked kept → SealsRest worked kept
    seals_batch : (number : ℕ) → SealsBatch a worked kept number → SealsRest worked kept

  -- hand 0 ran keys until none was pending
  pub record RunsAll (old new : TableData F) : Type 0 where
    pub count : ℕ
    pub runs : RunsKeys a old new count
    pub quiet : new.core.pile.pending ≡ []

  -- hand 0 worked, and gave back no more than its last claim; and where it says so, none is pending
  pub record FillsBatch (old new : TableData F) (is_quiet : Bool) : Type 0 where
    pub works : StopsBy a old new
    pub all : is_quiet ≡ true → RunsAll old new

  module _ {P D : Type 0} {G : Ghosts D} where
    -- what the half that works did is sealed, and then all that was sealed is stored
    pub record StoresWork (worked : TableData F) (old new : SlotEngine P D L F G) : Type 0 where
      pub kept : TableData F
      pub seals : SealsRest worked kept
      pub stores : StoreAll a kept new.table old.writer new.writer

    -- hand 0 worked, and what it did is stored; and where it says so, it ran keys until none was pending
    pub record DoesBatch (old new : SlotEngine P D L F G) (is_quiet : Bool) : Type 0 where
      pub worked : TableData F
      pub fills : FillsBatch old.table worked is_quiet
      pub stores : StoresWork worked old new

    -- hand 0 ran keys until none was pending, and what it did is stored; before that it may have worked for a while, what it
    -- did then is stored, and so on
    pub data WorksAll : (old new : SlotEngine P D L F G) → Type 0 where
      ends_quiet : {old new : SlotEngine P D L F G} (worked : TableData F) → RunsAll old.table worked → StoresWork worked old new → WorksAll old new
      goes_on : {old amid new : SlotEngine P D L F G} (worked : TableData F) → StopsBy a old.table worked → StoresWork worked old amid
          → WorksAll amid new → WorksAll old new
