-- That a half that works begins on a new store, and goes on from an opening.
use Rattle.std.specs.Prelude.{◌≡◌, ◌<◌, ℕ, false, List, [], Some, None, length, take}
use Rattle.ide_batch.specs.Applied.{HasImage}
use Rattle.ide_batch.specs.AppliedAll.{LeadOver, StopsAt}
use Rattle.ide_batch.specs.Fold.{ProgramImage}
use Rattle.ide_journal.specs.Format.{Entry}
use Rattle.ide_journal.specs.declared.version.Version.{Version}
use Rattle.ide_steps.specs.Core.{CoreData}
use Rattle.ide_theory.specs.Images.{loaded}
use Rattle.ide_wire.specs.declared.refused.Refused.{Refused}
use Rattle.ide_wire.specs.declared.refused.Refused.TheVariants.{Limit}
use Rattle.ide_image.specs.Worklist.{IsFree}
use Rattle.ide_store.specs.Hands.{Happens}
use Rattle.ide_store.specs.Machine.{machine}
use Rattle.ide_store.specs.Places.{Place}
use Rattle.ide_store.specs.Table.{Analysis, IsReached, MayDo, StoreWorld, TableData, WorksOn, after_act, forms_of, new_store, rules_at, store_at, version_in}
use Rattle.ide_store.specs.TwoDisks.{GiveTheSame}
use Rattle.ide_store.specs.Versioned.{VersionedEntry, in_version}
use Rattle.ide_store.specs.World.{IsFolded, Opens, contents}

-- a half that has the core, over so many records, none of which waits
abbrev pub half_over : {F : Type 0} → CoreData F → Version → ℕ → TableData F
half_over core version sealed = record { core = record core { changes = Some [] }; version = version; sealed = sealed; waiting = []; failed = false }

module _ {F L : Type 0} (a : Analysis F L) where
  -- the half works on each new store of its version
  abbrev pub BeginsOn : TableData F → Type 0
  BeginsOn table = (place : Place) (work : (store_at a place).Work) (disks : (store_at a place).Disks)
      → table.version ≡ version_in a place (new_store a place work disks) → WorksOn a place (new_store a place work disks) table []

  -- it works on the world after each opening, after which records are sealed in its version, that finds as many records as it
  -- counts, which give back the image that these do in that version: the disks hold as many of the sealed records, and these
  -- were handed over
  abbrev pub GoesOnFrom : List Entry → TableData F → Type 0
  GoesOnFrom given table = (place : Place) (w : StoreWorld a place) → IsReached a place w
      → (found : List VersionedEntry) → length found ≡ table.sealed → GiveTheSame (rules_at a place) (in_version table.version given) found
      → (image : ProgramImage F) (work : (store_at a place).Work) (disks : (store_at a place).Disks)
      → table.version ≡ version_in a place (after_act a place w (Happens (Opens found image work disks)))
      → MayDo a place w (Happens (Opens found image work disks))
      → (let handed = contents (take (length found) w.world.sealed) in
      (store_at a place).Holds handed ((store_at a place).reads w.world.disks)
      × WorksOn a place (after_act a place w (Happens (Opens found image work disks))) table handed)

  -- the records of a store of that version give an image back
  pub record HaveFold (version : Version) (given : List Entry) : Type 0 where
    pub image : ProgramImage F
    pub folded : IsFolded (machine a.functions a.same (forms_of a)) (in_version version given) image

  -- why there is no half over these records: the store has more than it may have; or the fold of them stops
  pub data IsOpenStop (version : Version) (given : List Entry) (sealed : ℕ) : Refused → Type 0 where
    too_many : 4294967295 < sealed → IsOpenStop version given sealed Limit
    fold_stops : {refused : Refused} (old new : CoreData F) → HasImage (loaded None) old
        → StopsAt (forms_of a) version a.functions a.same given old new refused → IsOpenStop version given sealed refused

-- a core with the empty image begins, and one to which the records of a store were applied goes on
pub record HalvesBegin {F L : Type 0} (a : Analysis F L) : Type 0 where
  pub begins : (core : CoreData F) (version : Version) → HasImage (loaded None) core → IsFree core.pile → BeginsOn a (half_over core version 0)
  pub goes_on : (old new : CoreData F) (version : Version) (given : List Entry) (sealed : ℕ) → HasImage (loaded None) old
      → LeadOver (forms_of a) version a.functions a.same given old new → IsFree new.pile
      → HaveFold a version given × GoesOnFrom a given (half_over new version sealed)
