-- A store on two disks that works and writes: which calls of it are which acts of its world.
use Rattle.std.specs.Prelude.{◌≡◌, ◌++◌, ℕ, Bool, true, false, List, [], ◌∷◌, Result, Ok, Err, IfErr, IfOk, length, map}
use Rattle.std.specs.List.{All}
use Rattle.ide_batch.specs.Fold.{ProgramImage}
use Rattle.ide_disk.specs.Disk.{DiskState}
use Rattle.ide_disk.specs.declared.disk.Disk.{Ghosts}
use Rattle.ide_journal.specs.Format.{Entry}
use Rattle.ide_slot_journal.specs.Moments.{LeavesOnlyTwo}
use Rattle.ide_slot_journal.specs.Opened.{IsOpeningRefusal, disk_sides, settled_both, states_of}
use Rattle.ide_slot_journal.specs.Opening.{now_of}
use Rattle.ide_slot_journal.specs.Stands.{AreHonest, disks_of, pair_of, records_stored, sides_of, slot_writer}
use Rattle.ide_slots.specs.Sides.{Sides}
use Rattle.ide_slots.specs.Slot.{Slot}
use Rattle.ide_slots.specs.Two.{SlotWriter}
use Rattle.ide_slots.specs.declared.record.NumberedRecord.{NumberedRecord}
use Rattle.ide_wire.specs.declared.refused.Refused.{Refused}
use Rattle.ide_wire.specs.declared.refused.Refused.TheVariants.{Disk, Failed, NoMemory}
use Rattle.ide_store.specs.Hands.{Happens, ProgramEvent}
use Rattle.ide_store.specs.Opening.{HaveFold, IsOpenStop}
use Rattle.ide_store.specs.Places.{OnTwoDisks}
use Rattle.ide_store.specs.Table.{Analysis, IsReached, MayDo, MayDoAll, StoreAct, StoreWorld, TableData, WorksOn, after_act, after_acts, new_store, store_at}
use Rattle.ide_store.specs.Versioned.{VersionedEntry}
use Rattle.ide_store.specs.World.{Calls, Closed, Crashes, Fails, Mode, Opens, Running, Stops, Stores}
use Rattle.ide_slot_store.specs.Batches.{batches_of}
use Rattle.ide_slot_store.specs.Half.{OpensStore, Writes}
use Rattle.ide_slot_store.specs.declared.engine.SlotEngine.{SlotEngine}
use Rattle.ide_slot_store.specs.declared.writer.SlotWriterHalf.{SlotWriterHalf}

module _ {F L : Type 0} (a : Analysis F L) (tag : ℕ) where
  -- worlds of the analysis on two disks, for the instance of that tag
  abbrev pub SlotWorld : Type 0
  SlotWorld = StoreWorld a (OnTwoDisks tag)

  abbrev pub SlotEvent : Type 0
  SlotEvent = ProgramEvent F (store_at a (OnTwoDisks tag))

  -- a good call of the writer, which stores a record or not; a checkpoint that waits begins its calls by one that calls no disk
  abbrev pub IsGoodCall : SlotEvent → Type 0
  IsGoodCall (Calls work disks) = Unit {0}
  IsGoodCall (Stores work disks) = Unit {0}
  IsGoodCall e = ⊥

  -- these happen, one after the other
  abbrev pub happening : List SlotEvent → List (StoreAct a (OnTwoDisks tag))
  happening events = map (λ (e : SlotEvent). Happens e) events

  abbrev pub MayHappen : SlotWorld → List SlotEvent → Type 0
  MayHappen w events = MayDoAll a (OnTwoDisks tag) w (happening events)

  abbrev pub after_events : SlotWorld → List SlotEvent → SlotWorld
  after_events w events = after_acts a (OnTwoDisks tag) w (happening events)

module _ {F L : Type 0} (a : Analysis F L) {D : Type 0} {G : Ghosts D} (tag : ℕ) where
  -- the two halves are at work on the world: the one works on it, and the other writes the records that it was handed, in a
  -- slot of that tag
  pub record AreAtWork (w : SlotWorld a tag) (table : TableData F) (writer : SlotWriterHalf D G) : Type 0 where
    pub handed : List VersionedEntry
    pub works : WorksOn a (OnTwoDisks tag) w table handed
    pub slot : Slot
    pub other : Slot
    pub writes : Writes slot other handed w.world.stored writer
    pub tag_is : slot.head.tag ≡ tag
    pub work : w.world.work ≡ slot_writer other writer.journal
    pub disks : w.world.disks ≡ disks_of writer.journal

  -- they are at work on a new store
  pub record AreNewHalves (table : TableData F) (writer : SlotWriterHalf D G) : Type 0 where
    pub work : SlotWriter
    pub live : (store_at a (OnTwoDisks tag)).Live [] 0 work (disks_of writer.journal)
    pub at_work : AreAtWork (new_store a (OnTwoDisks tag) work (disks_of writer.journal)) table writer

  -- over each world that acts led to and that stood on the disks as they were: the opening happens, and they are at work
  abbrev pub AreOpened : Sides DiskState → TableData F → SlotWriterHalf D G → Type 0
  AreOpened before table writer = (w : SlotWorld a tag) → IsReached a (OnTwoDisks tag) w → w.world.disks ≡ before
      → (found : List VersionedEntry) × (image : ProgramImage F) × (work : SlotWriter)
      × (let act = Happens (Opens found image work (disks_of writer.journal)) in
      MayDo a (OnTwoDisks tag) w act × AreAtWork (after_act a (OnTwoDisks tag) w act) table writer)

  module _ (w : SlotWorld a tag) (table new_table : TableData F) (new : SlotWriterHalf D G) where
    -- good calls happened: one of a disk, before which a checkpoint that waited may have begun its calls
    pub record DidCalls : Type 0 where
      pub events : List (SlotEvent a tag)
      pub own : All (IsGoodCall a tag) events
      pub can : MayHappen a tag w events
      pub at_work : AreAtWork (after_events a tag w events) new_table new

    -- and then one failed: no half works any more
    pub record DidFail : Type 0 where
      pub events : List (SlotEvent a tag)
      pub own : All (IsGoodCall a tag) events
      pub can : MayHappen a tag w (events ++ Fails (disks_of new.journal) ∷ [])
      pub failed : new_table ≡ record table { waiting = new_table.waiting; failed = true }

    -- what a step of the disks comes to: such a call; or all that was sealed is stored; or memory is wanting for the next record
    pub data StepsDisks : Result Bool Refused → Type 0 where
      did_call : DidCalls → StepsDisks (Ok true)
      did_fail : DidFail → StepsDisks (Err Disk)
      all_stored : w.world.stored ≡ length w.world.sealed → AreAtWork w new_table new → StepsDisks (Ok false)
      no_memory : AreAtWork w new_table new → StepsDisks (Err NoMemory)

  -- over each world that acts led to, and on which the halves were at work
  abbrev pub StepsDisksOver : (table new_table : TableData F) (old new : SlotWriterHalf D G) → Result Bool Refused → Type 0
  StepsDisksOver table new_table old new result = (w : SlotWorld a tag) → IsReached a (OnTwoDisks tag) w → AreAtWork w table old
      → StepsDisks w table new_table new result

module _ {F L : Type 0} (a : Analysis F L) (tag : ℕ) where
  -- a crash that leaves these bytes may happen to the world: at once, or behind calls of which the last one does not end, or
  -- behind an opening that does not
  pub data MayCrash (w : SlotWorld a tag) (left : Sides (List ℕ)) : Type 0 where
    at_once : MayHappen a tag w (Crashes left ∷ []) → MayCrash w left
    within_call : (events : List (SlotEvent a tag)) (failed : Sides DiskState) → All (IsGoodCall a tag) events
        → MayHappen a tag w (events ++ Fails failed ∷ Crashes left ∷ []) → MayCrash w left
    within_opening : MayHappen a tag w (Stops (settled_both left) Closed ∷ Crashes left ∷ []) → MayCrash w left

  module _ {D : Type 0} {G : Ghosts D} where
    -- whatever a crash at any moment of the step leaves, it may happen to each world on which the halves were at work
    abbrev pub CrashesOver : TableData F → (old new : SlotWriterHalf D G) → Type 0
    CrashesOver table old new = (w : SlotWorld a tag) → IsReached a (OnTwoDisks tag) w → AreAtWork a tag w table old
        → LeavesOnlyTwo G (sides_of old.journal) (sides_of new.journal) (MayCrash w)

  module _ {D : Type 0} (G : Ghosts D) (a_disk b_disk : D) (after : Sides D) where
    -- whatever a crash at any moment of an opening leaves, it may happen to each world whose disks these were
    abbrev pub CrashesOpening : Type 0
    CrashesOpening = (w : SlotWorld a tag) → IsReached a (OnTwoDisks tag) w → w.world.disks ≡ states_of G a_disk b_disk
        → LeavesOnlyTwo G (disk_sides a_disk b_disk) after (MayCrash w)

    -- an opening that stopped may have happened to each such world
    abbrev pub StopsOpening : Type 0
    StopsOpening = (w : SlotWorld a tag) → IsReached a (OnTwoDisks tag) w → w.world.disks ≡ states_of G a_disk b_disk
        → (mode : Mode) → (mode ≡ Running → ⊥) → MayDo a (OnTwoDisks tag) w (Happens (Stops (states_of G after.a after.b) mode))

-- the disks after an opening, in the engine or beside the refusal
abbrev pub engine_sides_after : {P D L F : Type 0} {G : Ghosts D} → Result (SlotEngine P D L F G) (Refused × D × D) → Sides D
engine_sides_after (Ok engine) = sides_of engine.writer.journal
engine_sides_after (Err all) = record { a = all.1; b = all.2 }

-- both its disks are honest
abbrev pub HasHonestDisks : {P D L F : Type 0} {G : Ghosts D} → SlotEngine P D L F G → Type 0
HasHonestDisks engine = AreHonest engine.writer.journal

-- once a call of a disk failed, each call is refused, and changes nothing
abbrev pub StaysFailed : {P D L F T : Type 0} {G : Ghosts D} → Result T Refused → (old new : SlotEngine P D L F G) → Type 0
StaysFailed result old new = old.table.failed ≡ true → (result ≡ Err Failed) × (new ≡ old)

module _ {F L : Type 0} (a : Analysis F L) {P D E : Type 0} {G : Ghosts D} where
  -- over honest disks, an engine that was made is at work on a new store
  abbrev pub MakesEngine : ℕ → (first second : D) → Result (SlotEngine P D L F G) E → Type 0
  MakesEngine tag first second result = G.honest first → G.honest second
      → IfOk result (λ engine. AreNewHalves a tag engine.table engine.writer)

  -- over honest disks, one that was opened is at work on each world that acts led to and that stood on them
  abbrev pub OpensEngine : ℕ → (first second : D) → Result (SlotEngine P D L F G) E → Type 0
  OpensEngine tag first second result = G.honest first → G.honest second
      → IfOk result (λ engine. AreOpened a tag (states_of G first second) engine.table engine.writer)

module _ {F L : Type 0} (a : Analysis F L) {P D : Type 0} {G : Ghosts D} (first second : D)
    (result : Result (SlotEngine P D L F G) (Refused × D × D)) where
  -- whatever a crash at any moment of the opening leaves, it may leave of each world that stood on the disks
  abbrev pub CrashesEngineOpening : Type 0
  CrashesEngineOpening = G.honest first → G.honest second → (tag : ℕ)
      → CrashesOpening a tag G first second (engine_sides_after result)

  -- a refused opening has stopped in each of them
  abbrev pub StopsEngineOpening : Type 0
  StopsEngineOpening = G.honest first → G.honest second → (tag : ℕ)
      → IfErr result (λ _. StopsOpening a tag G first second (engine_sides_after result))

module _ {F L : Type 0} (a : Analysis F L) {P D : Type 0} {G : Ghosts D} (old new : SlotEngine P D L F G) where
  -- over honest disks, a step of the engine is a step of the disks in each world on which it is at work
  abbrev pub StepsEngine : Result Bool Refused → Type 0
  StepsEngine result = AreHonest old.writer.journal → (tag : ℕ) → StepsDisksOver a tag old.table new.table old.writer new.writer result

  -- and what a crash at any moment of the step leaves, it may leave of each such world
  abbrev pub CrashesEngine : Type 0
  CrashesEngine = AreHonest old.writer.journal → (tag : ℕ) → CrashesOver a tag old.table old.writer new.writer

-- why there is no half that works over the records that a writer found: for the fold of them; or memory is wanting
pub data IsTableStop {F L : Type 0} (a : Analysis F L) {D : Type 0} {G : Ghosts D} (writer : SlotWriterHalf D G) (given : List Entry)
    : Refused → Type 0 where
  no_fold : {refused : Refused} → IsOpenStop a writer.journal.version given (records_stored writer.journal) refused
      → IsTableStop a writer given refused
  no_room : IsTableStop a writer given NoMemory

-- why there is none over those of its slot, each part as the batch of its items
abbrev pub RefusesTable : {F L : Type 0} → Analysis F L → {D : Type 0} {G : Ghosts D} → SlotWriterHalf D G → (found : List NumberedRecord)
    → Refused → Type 0
RefusesTable a writer found refused = IsTableStop a writer (batches_of found) refused

-- which give an image back
abbrev pub HasFoldOf : {F L : Type 0} → Analysis F L → {D : Type 0} {G : Ghosts D} → SlotWriterHalf D G → (found : List NumberedRecord) → Type 0
HasFoldOf a writer found = HaveFold a writer.journal.version (batches_of found)

-- why a store is not opened: for the journal's reason; or it was opened, and there is no half that works
pub data IsEngineStop {F L : Type 0} (a : Analysis F L) {D : Type 0} (G : Ghosts D) (tag : ℕ) (first second after_first after_second : D)
    : Refused → Type 0 where
  no_journal : {refused : Refused} → IsOpeningRefusal tag (now_of G first second) refused
      → IsEngineStop a G tag first second after_first after_second refused
  no_table : {refused : Refused} (writer : SlotWriterHalf D G) (found : List NumberedRecord) → OpensStore tag first second writer found
      → pair_of (sides_of writer.journal) ≡ (after_first, after_second) → RefusesTable a writer found refused
      → IsEngineStop a G tag first second after_first after_second refused

-- over honest disks, each refusal of an opening has such a cause
abbrev pub RefusesEngine : {F L : Type 0} (a : Analysis F L) {P D : Type 0} {G : Ghosts D} → ℕ → (first second : D)
    → Result (SlotEngine P D L F G) (Refused × D × D) → Type 0
RefusesEngine a {G = G} tag first second result = G.honest first → G.honest second
    → IfErr result (λ all. IsEngineStop a G tag first second all.1 all.2 all.0)
