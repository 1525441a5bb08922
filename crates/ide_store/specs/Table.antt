-- The half of a store that works: what it keeps of a world, and which calls of it are which acts.
use Rattle.std.specs.Prelude.{◌≡◌, ℕ, ◌<◌, ◌≤◌, ◌++◌, Bool, true, false, List, [], Option, length}
use Rattle.std.specs.List.{All}
use Rattle.std.specs.Option.{is_some}
use Rattle.ide_batch.specs.Applied.{HasImage}
use Rattle.ide_batch.specs.Fold.{ProgramImage, image_entry}
use Rattle.ide_batch.specs.Items.{Functions, functions_by}
use Rattle.ide_disk.specs.Disk.{DiskState, settled}
use Rattle.ide_journal.specs.Format.{Entry, IsEntry, head_of}
use Rattle.ide_journal.specs.declared.version.Version.{Version}
use Rattle.ide_lattice.specs.Algebra.{LatticeAlgebra, EdgeAlgebra}
use Rattle.ide_problem.specs.Flow.{Targets}
use Rattle.ide_image.specs.Notes.{noted_count}
use Rattle.ide_slots.specs.Sides.{Sides, two_sides}
use Rattle.ide_slots.specs.Slot.{IsClosedSlot}
use Rattle.ide_slots.specs.declared.side.Side.TheVariants.{First}
use Rattle.ide_slots.specs.Two.{SlotWriter}
use Rattle.ide_steps.specs.Changed.{entry_then}
use Rattle.ide_steps.specs.Core.{CoreData, IsUnchanged}
use Rattle.ide_steps.specs.State as core
use Rattle.ide_image.specs.declared.entry.Entry.{Entry as Noted}
use Rattle.ide_theory.specs.State.{State}
use Rattle.ide_wire.specs.declared.key.Key.{Key}
use Rattle.ide_store.specs.Hands.{Act, Allowed, AreAllowed, Hands, IsCaughtUp, idle, next, worked}
use Rattle.ide_store.specs.Machine.{ProgramStep}
use Rattle.ide_store.specs.Places.{OnOneDisk, OnTwoDisks, Place, machine_at, store_on, version_on}
use Rattle.ide_store.specs.Store.{Store}
use Rattle.ide_store.specs.Versioned.{VersionedEntry, in_version}
use Rattle.ide_store.specs.World.{Closed, IsFolded, Rules, Running, contents}

-- an analysis, as contracts see it: its lattice and its functions, what its flow does, and how functions are told apart
-- and spelled
pub record Analysis (F L : Type 0) : Type 0 where
  pub lattice : LatticeAlgebra L
  pub functions : EdgeAlgebra F L
  pub targets : Targets F
  pub same : F → F → Bool
  pub proper : F → Bool
  pub form : F → List ℕ

-- what contracts see of the half that works: its core; in which version records are spelled; how many were sealed, and which
-- of them wait for the writer; and whether a call of the writer failed
pub record TableData (F : Type 0) : Type 0 where
  pub core : CoreData F
  pub version : Version
  pub sealed : ℕ
  pub waiting : List Entry
  pub failed : Bool

module _ {F L : Type 0} (a : Analysis F L) where
  -- how its functions are spelled
  abbrev pub forms_of : Functions F
  forms_of = functions_by a.proper a.form a.same a.functions.all_top

  -- the core as a state of the tabulation
  abbrev pub table_state : TableData F → State F
  table_state table = core.state_of a.functions a.targets table.core

module _ {F : Type 0} where
  -- all but the core is as it was
  pub record KeepsRest (old new : TableData F) : Type 0 where
    pub version : new.version ≡ old.version
    pub sealed : new.sealed ≡ old.sealed
    pub waiting : new.waiting ≡ old.waiting
    pub failed : new.failed ≡ old.failed

  -- and what contracts tell of the core
  pub record IsSameTable (old new : TableData F) : Type 0 where
    pub core : IsUnchanged old.core new.core
    pub rest : KeepsRest old new

-- what it always keeps: changes are noted, of no more keys than a batch may have; and all that waits was sealed
pub record IsTable {F : Type 0} (core : CoreData F) (sealed : ℕ) (waiting : List Entry) : Type 0 where
  pub noting : is_some core.changes ≡ true
  pub few : noted_count core.changes ≤ 65536
  pub proper : All IsEntry waiting
  pub within : length waiting ≤ sealed
  pub numbered : sealed ≤ 4294967295

-- what a note says of a key, as an image does
abbrev pub told : {F : Type 0} → Noted F → (Option F × Bool)
told note = (note.function, note.pending)

module _ {F L : Type 0} (a : Analysis F L) (place : Place) where
  -- the store of the analysis at such a place
  abbrev pub store_at : Store VersionedEntry
  store_at = store_on a.functions a.same (forms_of a) place

  -- a world of it
  abbrev pub StoreWorld : Type 0
  StoreWorld = Hands F store_at

  abbrev pub StoreAct : Type 0
  StoreAct = Act F store_at

  -- what its records do
  abbrev pub rules_at : Rules (ProgramImage F) (ProgramStep F) VersionedEntry
  rules_at = machine_at a.functions a.same (forms_of a) place

  -- the version in which its records are sealed
  abbrev pub version_in : StoreWorld → Version
  version_in w = version_on a.functions a.same (forms_of a) place w.world.work

  -- the act may be done, and the world after it
  abbrev pub MayDo : StoreWorld → StoreAct → Type 0
  MayDo w act = Allowed a.lattice a.functions a.targets a.same (forms_of a) rules_at store_at w act

  abbrev pub after_act : StoreWorld → StoreAct → StoreWorld
  after_act w act = next a.lattice a.functions a.targets a.same (forms_of a) rules_at store_at w act

  abbrev pub MayDoAll : StoreWorld → List StoreAct → Type 0
  MayDoAll w acts = AreAllowed a.lattice a.functions a.targets a.same (forms_of a) rules_at store_at w acts

  abbrev pub after_acts : StoreWorld → List StoreAct → StoreWorld
  after_acts w acts = worked a.lattice a.functions a.targets a.same (forms_of a) rules_at store_at w acts

  -- a store that was just created, with no hand at work
  abbrev pub new_store : store_at.Work → store_at.Disks → StoreWorld
  new_store work disks = idle a.lattice a.functions a.targets a.same (forms_of a) rules_at store_at work disks

  -- it is such a one
  pub record IsNew (start : StoreWorld) : Type 0 where
    pub work : store_at.Work
    pub disks : store_at.Disks
    pub live : store_at.Live [] 0 work disks
    pub is : start ≡ new_store work disks

  -- acts that could be done one after the other led to the world from one of these
  pub record IsLedTo (Start : StoreWorld → Type 0) (w : StoreWorld) : Type 0 where
    pub start : StoreWorld
    pub begins : Start start
    pub acts : List StoreAct
    pub can : MayDoAll start acts
    pub is : after_acts start acts ≡ w

module _ {F L : Type 0} (a : Analysis F L) where
  -- worlds on one disk, with records of that version, for the instance of that tag
  abbrev pub OneWorld : Version → ℕ → Type 0
  OneWorld version tag = StoreWorld a (OnOneDisk (head_of version tag))

  -- such a world, as one on two: the disk as it stood is A, and these bytes are B. The store is closed
  abbrev pub beside : (version : Version) (tag : ℕ) → OneWorld version tag → SlotWriter → List ℕ → StoreWorld a (OnTwoDisks tag)
  beside version tag w work other = record {
    world = record {
      image = w.world.image;
      history = w.world.history;
      sealed = w.world.sealed;
      stored = w.world.stored;
      acked = w.world.acked;
      work = work;
      disks = two_sides First w.world.disks (settled other);
      mode = Closed;
    };
    claims = w.claims;
    tally = w.tally;
  }

  -- a store that acts led to on one disk, of either version, was adopted: a closed slot was put beside it
  pub record IsAdopted (tag : ℕ) (start : StoreWorld a (OnTwoDisks tag)) : Type 0 where
    pub some_tag : 0 < tag
    pub version : Version
    pub world : OneWorld version tag
    pub run : IsLedTo a (OnOneDisk (head_of version tag)) (IsNew a (OnOneDisk (head_of version tag))) world
    pub work : SlotWriter
    pub other : List ℕ
    pub closed : IsClosedSlot other
    pub is : start ≡ beside version tag world work other

  -- the half that writes went on by itself: so many of the sealed records are stored, and acknowledged, and it stands there
  abbrev pub gone_on : (tag : ℕ) → StoreWorld a (OnTwoDisks tag) → ℕ → SlotWriter → Sides DiskState → StoreWorld a (OnTwoDisks tag)
  gone_on tag w stored work disks =
      record w { world = record w.world { stored = stored; acked = stored; work = work; disks = disks } }

  -- where runs on two disks begin: at a new store; at one that was adopted; or where halves that went on apart from each other
  -- meet: the one that works is led there from a beginning, and the one that writes is live with the records that were sealed
  pub data BeginsOnTwo (tag : ℕ) : StoreWorld a (OnTwoDisks tag) → Type 0 where
    at_new : {start : StoreWorld a (OnTwoDisks tag)} → IsNew a (OnTwoDisks tag) start → BeginsOnTwo tag start
    at_adopted : {start : StoreWorld a (OnTwoDisks tag)} → IsAdopted tag start → BeginsOnTwo tag start
    at_meeting : (begun : StoreWorld a (OnTwoDisks tag)) → BeginsOnTwo tag begun → (acts : List (StoreAct a (OnTwoDisks tag)))
        → MayDoAll a (OnTwoDisks tag) begun acts → (stored : ℕ) (work : SlotWriter) (disks : Sides DiskState)
        → (store_at a (OnTwoDisks tag)).Live (contents (after_acts a (OnTwoDisks tag) begun acts).world.sealed) stored work disks
        → BeginsOnTwo tag (gone_on tag (after_acts a (OnTwoDisks tag) begun acts) stored work disks)

  -- where runs begin
  abbrev pub IsStart : (place : Place) → StoreWorld a place → Type 0
  IsStart (OnOneDisk head) start = IsNew a (OnOneDisk head) start
  IsStart (OnTwoDisks tag) start = BeginsOnTwo tag start

  -- acts that could be done one after the other led to the world
  abbrev pub IsReached : (place : Place) → StoreWorld a place → Type 0
  IsReached place w = IsLedTo a place (IsStart place) w

module _ {F L : Type 0} (a : Analysis F L) (place : Place) where
  -- the image that the sealed records give back has the program and the roots of the world's, and the entries that keys had
  -- when changes were last asked for
  pub record IsBase (w : StoreWorld a place) (core : CoreData F) : Type 0 where
    pub image : ProgramImage F
    pub folded : IsFolded (rules_at a place) (contents w.world.sealed) image
    pub program : image.program ≡ w.world.image.program
    pub roots : image.roots ≡ w.world.image.roots
    pub entries : (key : Key) → image_entry image key ≡ told (entry_then core key)

  -- nothing changed since the last record
  abbrev pub HasNothingNew : StoreWorld a place → Type 0
  HasNothingNew w = IsCaughtUp a.lattice a.functions a.targets a.same (forms_of a) (rules_at a place) (store_at a place) w

  -- the half works on the world: its core has the image and the claims, it knows what changed since the last record, and
  -- of the sealed records these were handed over to the writer, and the others wait, in the version in which it seals
  pub record WorksOn (w : StoreWorld a place) (table : TableData F) (handed : List VersionedEntry) : Type 0 where
    pub running : w.world.mode ≡ Running
    pub working : table.failed ≡ false
    pub version : table.version ≡ version_in a place w
    pub image : HasImage w.world.image table.core
    pub claims : (hand : ℕ) → w.claims hand ≡ (table_state a table).claims hand
    pub base : IsBase w table.core
    pub sealed : length w.world.sealed ≡ table.sealed
    pub waits : contents w.world.sealed ≡ handed ++ in_version table.version table.waiting

module _ {F L : Type 0} (a : Analysis F L) (old new : TableData F) where
  -- over each world that acts led to, and on which the half worked, the act may be done, and the half works on the world
  -- after it, with the same records handed over
  abbrev pub IsAct : ((place : Place) → StoreAct a place) → Type 0
  IsAct act = (place : Place) (w : StoreWorld a place) (handed : List VersionedEntry) → IsReached a place w → WorksOn a place w old handed
      → MayDo a place w (act place) × WorksOn a place (after_act a place w (act place)) new handed

  -- and so may some acts, one after the other, that are such as is told
  abbrev pub AreActs : ((place : Place) → List (StoreAct a place) → Type 0) → Type 0
  AreActs Are = (place : Place) (w : StoreWorld a place) (handed : List VersionedEntry) → IsReached a place w → WorksOn a place w old handed
      → (acts : List (StoreAct a place)) × Are place acts × MayDoAll a place w acts × WorksOn a place (after_acts a place w acts) new handed
