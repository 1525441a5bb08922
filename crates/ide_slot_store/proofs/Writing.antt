-- A journal's calls are those of a store on two disks.
use Rattle.std.proofs.Common.{◌≡◌, ◌≢◌, ◌∙◌, ◌≤◌, ◌+◌, ℕ, All, Bool, true, false, List, [], ◌∷◌, Option, Some, None, Result, Ok, Err, length, take, drop, map, refl, ap, sym, subst, arith, inl, inr}
use Rattle.std.specs.Option.{option_map}
use Rattle.std.specs.Prelude.{slice_get}
use Rattle.std.proofs.lemmas.List.Elements.{All-drop, All-nil}
use Rattle.std.proofs.lemmas.List.{drop-drop, drop_all, length-append, length-drop, length-map, take_all}
use Rattle.ide_disk.specs.Disk.{DiskState}
use Rattle.ide_disk.specs.declared.disk.Disk.{Ghosts}
use Rattle.ide_journal.specs.Format.{Entry, Head}
use Rattle.ide_journal.specs.declared.version.Version.{Version}
use Rattle.ide_journal.specs.declared.stage.Phase.{Phase}
use Rattle.ide_slot_journal.specs.Checkpoints.{BeginsIfWaiting, CheckpointStep, MakesCheckpointStep, checkpoint_called, checkpoint_ended, checkpoint_failed, filling_writer}
use Rattle.ide_slot_journal.specs.Making.{StandsEmpty}
use Rattle.ide_slot_journal.specs.Opened.{OpensOn, states_of}
use Rattle.ide_slot_journal.specs.Plans.{Plans, PlansOn}
use Rattle.ide_slot_journal.specs.Records.{MakesRecordStep, PutsNext, RecordStep, record_called, record_failed, record_stored}
use Rattle.ide_slot_journal.specs.Stages.{IsTurnAt, checkpoint_at, filling_at}
use Rattle.ide_slot_journal.specs.Stands.{HasNoNext, IsCheckpointing, IsTurn, StandsOn, checkpoint_of, disks_of, filling_of, slot_writer, todo_of}
use Rattle.ide_slot_journal.specs.declared.filler.Filler.{Filler}
use Rattle.ide_slot_journal.specs.declared.journal.SlotJournal.{SlotJournal}
use Rattle.ide_slot_journal.specs.declared.stage.FillStage.{FillStage}
use Rattle.ide_slot_journal.specs.declared.stage.FillStage.TheVariants as fills
use Rattle.ide_slots.specs.Filling.{Filling, Lasts}
use Rattle.ide_slots.specs.Records.{all_numbered}
use Rattle.ide_slots.specs.Sides.{Shows, Sides, off}
use Rattle.ide_slots.specs.Slot.{NumberedEntry, Slot, first_slot, slot_count, with_more}
use Rattle.ide_slots.specs.Two.{Beside, CanBeNext, Checkpoint, IsMade, IsOfCheckpoint, NotBegun, Planned, ShowsOne, SlotWriter, StandsTwo, UnderWay, reads_two}
use Rattle.ide_slots.specs.TwoCalls.{OpensTwo}
use Rattle.ide_slots.specs.declared.record.NumberedRecord.{NumberedRecord}
use Rattle.ide_slots.proofs.Openings.{openings_find}
use Rattle.ide_slots.proofs.Writers.{records_keep_standing}
use Rattle.ide_wire.specs.declared.refused.Refused.{Refused}
use Rattle.ide_wire.specs.declared.refused.Refused.TheVariants.{Disk}
use Rattle.ide_store.proofs.OneDisk.{next_taken}
use Rattle.ide_store.proofs.TwoDisks.{can_be_next, get_taken, list_count, one_next, spelled_less, stored_more}
use Rattle.ide_store.proofs.TwoDisksPlans.{slots_give_back}
use Rattle.ide_store.specs.Store.{IsFoundOf}
use Rattle.ide_store.specs.Versioned.{IsIn, IsPlainEntry, VersionedEntry, in_version, plain}
use Rattle.ide_store.specs.TwoDisks.{AreSpelledFor, AreSpelledUpTo, AtCheckpoint, AtRecord, BeginsCalls, BeginsTwo, ForRecord, GiveTheSame, HasPlan, HoldsTwo, InCheckpoint, IsListOf, IsLiveTwo, IsNextBehind, LastInCheckpoint, next_entry, unnumbered}
use Rattle.ide_store.specs.World.{Rules}
use Rattle.ide_slot_store.specs.Writing.{BeginsFirst, BeginsTwoDisks, DidCall, DidFail, DidStore, IsEvent, IsFirstLeft, JournalsWriteTwo, StandsBehind, StandsBehindTwo, WritesTwoDisks, is_call, is_fail, is_store}

-- ---- records that are still to be stored
left_after : (records : List VersionedEntry) (stored : ℕ) → All IsPlainEntry (drop stored records) → All IsPlainEntry (drop (stored + 1) records)
left_after records stored proper =
    subst (λ (rs : List VersionedEntry). All IsPlainEntry rs) (drop-drop 1 stored records) (All-drop IsPlainEntry 1 (drop stored records) proper)

-- ---- how far a checkpoint is
-- one whose last call is next is at its last stage
is_last : (stage : FillStage) (closed : Bool) (at : ℕ) (todo : List (List ℕ)) → filling_at stage closed at todo ≡ Lasts → stage ≡ fills.Lasts
is_last fills.Rests closed at todo is = cc
is_last fills.Waits closed at todo is = cc
is_last fills.Settles closed at todo is = cc
is_last fills.Trims closed at todo is = cc
is_last fills.Heads closed at todo is = cc
is_last fills.Fills closed at todo is = cc
is_last fills.OpensGate closed at todo is = cc
is_last fills.Lasts closed at todo is = refl

-- one that makes its calls stands where its next call is
under_way : (stage : FillStage) (other : Slot) (fill : Filling) → stage ≢ fills.Rests → stage ≢ fills.Waits
    → UnderWay other fill ≡ checkpoint_at stage other fill
under_way fills.Rests other fill some busy = absurd (some refl)
under_way fills.Waits other fill some busy = absurd (busy refl)
under_way fills.Settles other fill some busy = refl
under_way fills.Trims other fill some busy = refl
under_way fills.Heads other fill some busy = refl
under_way fills.Fills other fill some busy = refl
under_way fills.OpensGate other fill some busy = refl
under_way fills.Lasts other fill some busy = refl

-- what is planned is its slot
pub planned_is : (stage : FillStage) (other next : Slot) (fill : Filling) → checkpoint_at stage other fill ≡ Planned next → next ≡ other
planned_is fills.Rests other next fill is = cc
planned_is fills.Waits other next fill is = cc
planned_is fills.Settles other next fill is = cc
planned_is fills.Trims other next fill is = cc
planned_is fills.Heads other next fill is = cc
planned_is fills.Fills other next fill is = cc
planned_is fills.OpensGate other next fill is = cc
planned_is fills.Lasts other next fill is = cc

module _ {Image Step : Type 0} (rules : Rules Image Step VersionedEntry) where
  -- the slot of a checkpoint has the records up to its base, however far its calls are
  plan_at : (stage : FillStage) (records : List VersionedEntry) (other : Slot) (fill : Filling) → stage ≢ fills.Rests
      → HasPlan rules records (checkpoint_at stage other fill) → IsListOf rules (take other.base records) other
  plan_at fills.Rests records other fill some plan = absurd (some refl)
  plan_at fills.Waits records other fill some plan = plan
  plan_at fills.Settles records other fill some plan = plan
  plan_at fills.Trims records other fill some plan = plan
  plan_at fills.Heads records other fill some plan = plan
  plan_at fills.Fills records other fill some plan = plan
  plan_at fills.OpensGate records other fill some plan = plan
  plan_at fills.Lasts records other fill some plan = plan

  plan_then : (stage : FillStage) (records : List VersionedEntry) (other : Slot) (fill : Filling) → IsListOf rules (take other.base records) other
      → HasPlan rules records (checkpoint_at stage other fill)
  plan_then fills.Rests records other fill list = tt
  plan_then fills.Waits records other fill list = list
  plan_then fills.Settles records other fill list = list
  plan_then fills.Trims records other fill list = list
  plan_then fills.Heads records other fill list = list
  plan_then fills.Fills records other fill list = list
  plan_then fills.OpensGate records other fill list = list
  plan_then fills.Lasts records other fill list = list

-- a next record is the first of those that are still to be stored
next_first : (version : Version) (records : List VersionedEntry) (stored : ℕ) (next : Option Entry) (entry : Entry) → next ≡ Some entry
    → IsFirstLeft version records stored next → slice_get records stored ≡ Some (version, entry)
next_first version records stored next entry is first = subst (λ (o : Option Entry). IsFirstLeft version records stored o) is first

-- as a writer, it stands with that one next
stands_first : (version : Version) (slot : Slot) (records : List VersionedEntry) (stored : ℕ) (next : Option Entry) (work : SlotWriter)
    (disks : Sides DiskState) → slot_count slot ≡ stored → length records ≤ 4294967295 → All IsPlainEntry (drop stored records)
    → IsFirstLeft version records stored next → StandsTwo slot next work disks → StandsTwo slot (next_entry records stored) work disks
stands_first version slot records stored None work disks count few proper first stands =
    records_keep_standing.waits slot (next_entry records stored) work disks stands
    (subst (λ (n : ℕ). CanBeNext n (next_entry records stored)) (sym count) (can_be_next records stored few proper))
stands_first version slot records stored (Some entry) work disks count few proper first stands =
    subst (λ (o : Option VersionedEntry). StandsTwo slot (option_map plain o) work disks) (sym first) stands

-- what is planned is spelled up to the checkpoint's base, however far its calls are
pub spelled_at : (stage : FillStage) (version : Version) (records : List VersionedEntry) (stored : ℕ) (other : Slot) (fill : Filling) → stage ≢ fills.Rests
    → AreSpelledFor version (checkpoint_at stage other fill) records stored → AreSpelledUpTo other.base version other.head.version records stored
spelled_at fills.Rests version records stored other fill some both = absurd (some refl)
spelled_at fills.Waits version records stored other fill some both = both
spelled_at fills.Settles version records stored other fill some both = both
spelled_at fills.Trims version records stored other fill some both = both
spelled_at fills.Heads version records stored other fill some both = both
spelled_at fills.Fills version records stored other fill some both = both
spelled_at fills.OpensGate version records stored other fill some both = both
spelled_at fills.Lasts version records stored other fill some both = both

spelled_then : (stage : FillStage) (version : Version) (records : List VersionedEntry) (stored : ℕ) (other : Slot) (fill : Filling) → stage ≢ fills.Rests
    → AreSpelledUpTo other.base version other.head.version records stored → AreSpelledFor version (checkpoint_at stage other fill) records stored
spelled_then fills.Rests version records stored other fill some both = absurd (some refl)
spelled_then fills.Waits version records stored other fill some both = both
spelled_then fills.Settles version records stored other fill some both = both
spelled_then fills.Trims version records stored other fill some both = both
spelled_then fills.Heads version records stored other fill some both = both
spelled_then fills.Fills version records stored other fill some both = both
spelled_then fills.OpensGate version records stored other fill some both = both
spelled_then fills.Lasts version records stored other fill some both = both

-- where no checkpoint is begun, all are of the version of the current slot
pub spelled_rest : (stage : FillStage) (version : Version) (records : List VersionedEntry) (stored : ℕ) (other : Slot) (fill : Filling) → stage ≡ fills.Rests
    → AreSpelledFor version (checkpoint_at stage other fill) records stored → All (IsIn version) (drop stored records)
spelled_rest fills.Rests version records stored other fill rests all = all
spelled_rest fills.Waits version records stored other fill rests all = cc
spelled_rest fills.Settles version records stored other fill rests all = cc
spelled_rest fills.Trims version records stored other fill rests all = cc
spelled_rest fills.Heads version records stored other fill rests all = cc
spelled_rest fills.Fills version records stored other fill rests all = cc
spelled_rest fills.OpensGate version records stored other fill rests all = cc
spelled_rest fills.Lasts version records stored other fill rests all = cc

-- a writer that stands with another stage or gate has records of the same versions
spelled_as : (other : Slot) (records : List VersionedEntry) (stored : ℕ) (work new : SlotWriter) → new.version ≡ work.version
    → new.checkpoint ≡ work.checkpoint → AreSpelledFor work.version work.checkpoint records stored
    → AreSpelledFor new.version new.checkpoint records stored
spelled_as other records stored work new version checkpoint spelled =
    subst (λ (v : Version). AreSpelledFor v new.checkpoint records stored) (sym version)
    (subst (λ (c : Checkpoint). AreSpelledFor work.version c records stored) (sym checkpoint) spelled)

-- ---- where a journal stands
module _ {D : Type 0} {G : Ghosts D} where
  -- it has a next record, or none
  pub busy_next : (slot other : Slot) (next : Option Entry) (journal : SlotJournal D G) → StandsOn slot next other journal
      → (HasNoNext journal → ⊥) → (entry : Entry) × (next ≡ Some entry)
  busy_next slot other None journal stands busy = absurd (busy stands.has_next.0)
  busy_next slot other (Some entry) journal stands busy = (entry, refl)

  pub idle_none : (slot other : Slot) (next : Option Entry) (journal : SlotJournal D G) → StandsOn slot next other journal
      → HasNoNext journal → next ≡ None
  idle_none slot other None journal stands idle = refl
  idle_none slot other (Some entry) journal stands idle = absurd (stands.has_next.0 idle)

  -- a checkpoint whose slot may be found makes its calls
  found_made : (slot other : Slot) (next : Option Entry) (journal : SlotJournal D G) (found : Slot) → StandsOn slot next other journal
      → IsOfCheckpoint (checkpoint_of other journal.filler) found
      → (found ≡ other) × (journal.filler.stage ≢ fills.Rests) × (slot_count slot ≡ other.base) × (other.head.tag ≡ slot.head.tag)
  found_made slot other next journal found stands is = go journal.filler.stage refl
    where
      fill : Filling
      fill = filling_of journal.filler

      disk : DiskState
      disk = off journal.side (disks_of journal)

      found_in : (stage : FillStage) → journal.filler.stage ≡ stage → IsOfCheckpoint (checkpoint_at stage other fill) found
      found_in stage same = subst (λ (s : FillStage). IsOfCheckpoint (checkpoint_at s other fill) found) same is

      at_stage : (stage : FillStage) → journal.filler.stage ≡ stage
          → Beside journal.side slot (slot_writer other journal).stage (checkpoint_at stage other fill) disk
      at_stage stage same =
          subst (λ (s : FillStage). Beside journal.side slot (slot_writer other journal).stage (checkpoint_at s other fill) disk) same stands.two.beside

      so : (stage : FillStage) → journal.filler.stage ≡ stage → stage ≢ fills.Rests → found ≡ other
          → IsMade journal.side slot other (slot_writer other journal).stage fill disk
          → (found ≡ other) × (journal.filler.stage ≢ fills.Rests) × (slot_count slot ≡ other.base) × (other.head.tag ≡ slot.head.tag)
      so stage same busy is_other made =
          (is_other, (λ no. busy (sym same ∙ no)), made.stored, ap (λ (h : Head). h.tag) made.follows.head)

      go : (stage : FillStage) → journal.filler.stage ≡ stage
          → (found ≡ other) × (journal.filler.stage ≢ fills.Rests) × (slot_count slot ≡ other.base) × (other.head.tag ≡ slot.head.tag)
      go fills.Rests same = absurd (found_in fills.Rests same)
      go fills.Waits same = absurd (found_in fills.Waits same)
      go fills.Settles same = so fills.Settles same (λ no. cc) (found_in fills.Settles same).1 (at_stage fills.Settles same)
      go fills.Trims same = so fills.Trims same (λ no. cc) (found_in fills.Trims same).1 (at_stage fills.Trims same)
      go fills.Heads same = so fills.Heads same (λ no. cc) (found_in fills.Heads same).1 (at_stage fills.Heads same)
      go fills.Fills same = so fills.Fills same (λ no. cc) (found_in fills.Fills same).1 (at_stage fills.Fills same)
      go fills.OpensGate same = so fills.OpensGate same (λ no. cc) (found_in fills.OpensGate same).1 (at_stage fills.OpensGate same)
      go fills.Lasts same = so fills.Lasts same (λ no. cc) (found_in fills.Lasts same).1 (at_stage fills.Lasts same)

  -- the slot of a checkpoint whose last call was made has as many records, and the tag
  pub ended_slot : (slot other : Slot) (next : Option Entry) (old : SlotJournal D G) → StandsOn slot next other old
      → UnderWay other (filling_of old.filler) ≡ UnderWay other Lasts
      → (slot_count slot ≡ other.base) × (slot_count other ≡ other.base) × (other.head.tag ≡ slot.head.tag)
  ended_slot slot other next old stands is =
      let fill : filling_of old.filler ≡ Lasts = cc (is) in
      let last : old.filler.stage ≡ fills.Lasts = is_last old.filler.stage old.filler.closed old.filler.at (todo_of old.filler) fill in
      let made : IsMade old.side slot other (slot_writer other old).stage (filling_of old.filler) (off old.side (disks_of old)) =
      subst (λ (s : FillStage). Beside old.side slot (slot_writer other old).stage (checkpoint_at s other (filling_of old.filler)) (off old.side (disks_of old)))
      last stands.two.beside in
      let bare = ap length made.follows.bare in
      (made.stored, omega (arith, bare), ap (λ (h : Head). h.tag) made.follows.head)

  module _ (slot other : Slot) (records : List VersionedEntry) (stored : ℕ) where
    -- a next record was put
    pub put_behind : (old new : SlotJournal D G) (entry : Entry) → StandsBehind slot other records stored old → HasNoNext old
        → slice_get records stored ≡ Some (old.version, entry) → PutsNext entry old new → new.filler ≡ old.filler
        → StandsBehind slot other records stored new
    put_behind old new entry behind idle is puts filler =
        let stands = puts slot other
        (subst (λ (o : Option Entry). StandsOn slot o other old) (idle_none slot other behind.next old behind.stands idle) behind.stands) in
        let version : new.version ≡ old.version = stands.version ∙ sym behind.stands.version in
        record {
          next = Some entry;
          stands = stands;
          is_next = is ∙ ap (λ (v : Version). Some (v, entry)) (sym version);
          count = behind.count;
          some = behind.some;
          few = behind.few;
          proper = behind.proper;
          spelled = spelled_as other records stored (slot_writer other old) (slot_writer other new) version (ap (checkpoint_of other) filler) behind.spelled;
        }

    -- as it was, with the journal standing again
    pub still_behind : (old new : SlotJournal D G) → (behind : StandsBehind slot other records stored old) → StandsOn slot behind.next other new
        → AreSpelledFor old.version (checkpoint_of other new.filler) records stored → StandsBehind slot other records stored new
    still_behind old new behind stands spelled =
        let version : new.version ≡ old.version = stands.version ∙ sym behind.stands.version in
        record {
          next = behind.next;
          stands = stands;
          is_next = subst (λ (v : Version). IsFirstLeft v records stored behind.next) (sym version) behind.is_next;
          count = behind.count;
          some = behind.some;
          few = behind.few;
          proper = behind.proper;
          spelled = subst (λ (v : Version). AreSpelledFor v (checkpoint_of other new.filler) records stored) (sym version) spelled;
        }

    -- the next one is of the version of the current slot, where it is the turn of records
    pub next_of_slot : (journal : SlotJournal D G) → StandsBehind slot other records stored journal → IsTurn journal → (r : VersionedEntry)
        → slice_get records stored ≡ Some r → r.0 ≡ journal.version
    next_of_slot journal behind turn r is = go journal.filler.stage refl
      where
        fill : Filling
        fill = filling_of journal.filler

        spelled_in : (stage : FillStage) → journal.filler.stage ≡ stage → AreSpelledFor journal.version (checkpoint_at stage other fill) records stored
        spelled_in stage same = subst (λ (s : FillStage). AreSpelledFor journal.version (checkpoint_at s other fill) records stored) same behind.spelled

        turn_in : (stage : FillStage) → journal.filler.stage ≡ stage → IsTurnAt stage journal.filler.base journal.count
        turn_in stage same = subst (λ (s : FillStage). IsTurnAt s journal.filler.base journal.count) same turn

        go : (stage : FillStage) → journal.filler.stage ≡ stage → r.0 ≡ journal.version
        go fills.Rests same = one_next (IsIn journal.version) records stored r (spelled_in fills.Rests same) is
        go fills.Waits same =
            let less = turn_in fills.Waits same in
            let base = (behind.stands.fills_with (λ no. let clash : fills.Waits ≡ fills.Rests = sym same ∙ no in cc)).base in
            let count = behind.stands.count ∙ behind.count in
            one_next (IsIn journal.version) (take other.base records) stored r (spelled_in fills.Waits same).below
            (get_taken records other.base stored (omega (arith, less, base, count)) ∙ is)
        go fills.Settles same = absurd (turn_in fills.Settles same)
        go fills.Trims same = absurd (turn_in fills.Trims same)
        go fills.Heads same = absurd (turn_in fills.Heads same)
        go fills.Fills same = absurd (turn_in fills.Fills same)
        go fills.OpensGate same = absurd (turn_in fills.OpensGate same)
        go fills.Lasts same = absurd (turn_in fills.Lasts same)

    -- what is behind the slot is what its calls look at
    pub behind_next : (old : SlotJournal D G) (entry : Entry) (behind : StandsBehind slot other records stored old) → behind.next ≡ Some entry
        → IsNextBehind records stored old.version slot entry
    behind_next old entry behind is =
        record { count = behind.count; next_is = next_first old.version records stored behind.next entry is behind.is_next }

    -- what a call for the next record comes to
    pub data RecordThen (old new : SlotJournal D G) : Result Phase Refused → Type 0 where
      then_called : {phase : Phase} → DidCall other records stored old new → StandsBehind slot other records stored new
          → (HasNoNext new → ⊥) → checkpoint_of other new.filler ≡ checkpoint_of other old.filler → RecordThen old new (Ok phase)
      then_stored : {phase : Phase} (event : DidStore other records stored old new)
          → StandsBehind (with_more slot event.entry) other records (stored + 1) new → HasNoNext new
          → checkpoint_of other new.filler ≡ checkpoint_of other old.filler → RecordThen old new (Ok phase)
      then_failed : DidFail other records stored old new → RecordThen old new (Err Disk)

    pub record_then : (old new : SlotJournal D G) (result : Result Phase Refused) → StandsBehind slot other records stored old
        → (HasNoNext old → ⊥) → MakesRecordStep old new result → RecordThen old new result
    record_then old new result behind busy makes =
        let has = busy_next slot other behind.next old behind.stands busy in
        let entry = has.0 in
        let before : StandsOn slot (Some entry) other old = subst (λ (o : Option Entry). StandsOn slot o other old) has.1 behind.stands in
        go entry (behind_next old entry behind has.1) result (makes slot entry other before)
      where
        go : (entry : Entry) → IsNextBehind records stored old.version slot entry → (result : Result Phase Refused)
            → RecordStep slot entry other old new result → RecordThen old new result
        go entry next _ (record_called calls stands) = then_called
            (record { mid = slot_writer other old; first = inl refl; event = ForRecord slot entry next calls })
            (record {
              next = Some entry;
              stands = stands;
              is_next = next.next_is ∙ ap (λ (v : Version). Some (v, entry)) (sym (ap (λ (w : SlotWriter). w.version) calls.work_is));
              count = behind.count;
              some = behind.some;
              few = behind.few;
              proper = behind.proper;
              spelled = spelled_as other records stored (slot_writer other old) (slot_writer other new)
                  (ap (λ (w : SlotWriter). w.version) calls.work_is) (ap (λ (w : SlotWriter). w.checkpoint) calls.work_is) behind.spelled;
            })
            stands.has_next.0
            (ap (λ (w : SlotWriter). w.checkpoint) calls.work_is)
        go entry next _ (record_stored stores stands) =
            let less = (next_taken records stored (old.version, entry) next.next_is).0 in
            let count = behind.count in
            then_stored
            (record { slot = slot; entry = entry; next = next; stores = stores })
            (record {
              next = None;
              stands = stands;
              is_next = tt;
              count = omega (arith, count, length-append slot.rest (entry ∷ []));
              some = omega (arith, less);
              few = behind.few;
              proper = left_after records stored behind.proper;
              spelled = spelled_as other records (stored + 1) (slot_writer other old) (slot_writer other new)
                  (ap (λ (w : SlotWriter). w.version) stores.work_is) (ap (λ (w : SlotWriter). w.checkpoint) stores.work_is)
                  (spelled_less records stored old.version (checkpoint_of other old.filler) behind.spelled);
            })
            stands.has_next.0
            (ap (λ (w : SlotWriter). w.checkpoint) stores.work_is)
        go entry next _ (record_failed fails) =
            then_failed (record { mid = slot_writer other old; first = inl refl; event = AtRecord slot entry next fails })

    -- what a call of a checkpoint comes to
    pub data CheckpointThen (old new : SlotJournal D G) : Result Bool Refused → Type 0 where
      then_filled : DidCall other records stored old new → StandsBehind slot other records stored new → CheckpointThen old new (Ok false)
      then_turned : DidCall other records stored old new → StandsBehind other other records stored new → other.base ≡ stored
          → other.head.tag ≡ slot.head.tag → CheckpointThen old new (Ok true)
      then_unfilled : DidFail other records stored old new → CheckpointThen old new (Err Disk)

    -- one that waits begins its calls first
    pub begins_first : (old : SlotJournal D G) → slot_count slot ≡ stored → IsCheckpointing old → BeginsIfWaiting slot other old
        → BeginsFirst records stored (slot_writer other old) (disks_of old) (filling_writer other old)
    begins_first old count some begins = go old.filler.stage refl
      where
        busy : (stage : FillStage) → old.filler.stage ≡ stage → stage ≢ fills.Rests → stage ≢ fills.Waits
            → BeginsFirst records stored (slot_writer other old) (disks_of old) (filling_writer other old)
        busy stage is some more =
            let there : UnderWay other (filling_of old.filler) ≡ checkpoint_of other old.filler =
            under_way old.filler.stage other (filling_of old.filler) (λ no. some (sym is ∙ no)) (λ no. more (sym is ∙ no)) in
            inl (λ i. record {
              side = old.side;
              version = old.version;
              generation = old.generation;
              gate = old.gate;
              stage = (slot_writer other old).stage;
              checkpoint = there i;
            })

        go : (stage : FillStage) → old.filler.stage ≡ stage
            → BeginsFirst records stored (slot_writer other old) (disks_of old) (filling_writer other old)
        go fills.Rests is = absurd (some is)
        go fills.Waits is = inr (BeginsCalls slot count (begins is) refl)
        go fills.Settles is = busy fills.Settles is (λ no. cc) (λ no. cc)
        go fills.Trims is = busy fills.Trims is (λ no. cc) (λ no. cc)
        go fills.Heads is = busy fills.Heads is (λ no. cc) (λ no. cc)
        go fills.Fills is = busy fills.Fills is (λ no. cc) (λ no. cc)
        go fills.OpensGate is = busy fills.OpensGate is (λ no. cc) (λ no. cc)
        go fills.Lasts is = busy fills.Lasts is (λ no. cc) (λ no. cc)

    pub checkpoint_then : (old new : SlotJournal D G) (result : Result Bool Refused) → StandsBehind slot other records stored old
        → IsCheckpointing old → MakesCheckpointStep old new result → CheckpointThen old new result
    checkpoint_then old new result behind some makes =
        let made = makes slot behind.next other behind.stands in
        go (begins_first old behind.count some made.0) result made.1
      where
        spelled : AreSpelledUpTo other.base old.version other.head.version records stored
        spelled = spelled_at old.filler.stage old.version records stored other (filling_of old.filler) some behind.spelled

        -- a next record that waits for the other slot is of its version
        next_turned : (version : Version) (next : Option Entry) → IsFirstLeft old.version records stored next → All (IsIn version) (drop stored records)
            → IsFirstLeft version records stored next
        next_turned version None is all = tt
        next_turned version (Some entry) is all =
            is ∙ ap (λ (v : Version). Some (v, entry)) (one_next (IsIn version) records stored (old.version, entry) all is)

        go : BeginsFirst records stored (slot_writer other old) (disks_of old) (filling_writer other old) → (result : Result Bool Refused)
            → CheckpointStep slot behind.next other old new result → CheckpointThen old new result
        go first _ (checkpoint_called calls stands) =
            then_filled (record { mid = filling_writer other old; first = first; event = InCheckpoint calls })
            (still_behind old new behind stands (subst (λ (c : Checkpoint). AreSpelledFor old.version c records stored)
            (sym (ap (λ (w : SlotWriter). w.checkpoint) calls.work_is))
            (subst (λ (c : Checkpoint). AreSpelledFor old.version c records stored) calls.under_way spelled)))
        go first _ (checkpoint_ended ends stands) =
            let ended = ended_slot slot other behind.next old behind.stands ends.under_way in
            let base : other.base ≡ stored = sym ended.0 ∙ behind.count in
            let others = subst (λ (n : ℕ). All (IsIn other.head.version) (drop n records)) base spelled.others in
            let rests : checkpoint_of other new.filler ≡ NotBegun = ap (λ (w : SlotWriter). w.checkpoint) ends.work_is in
            let version : new.version ≡ other.head.version = ap (λ (w : SlotWriter). w.version) ends.work_is in
            let all : All (IsIn new.version) (drop stored records) =
            subst (λ (v : Version). All (IsIn v) (drop stored records)) (sym version) others in
            then_turned
            (record { mid = filling_writer other old; first = first; event = LastInCheckpoint other ends })
            (record {
              next = behind.next;
              stands = stands;
              is_next = next_turned new.version behind.next behind.is_next all;
              count = ended.1 ∙ base;
              some = behind.some;
              few = behind.few;
              proper = behind.proper;
              spelled = subst (λ (c : Checkpoint). AreSpelledFor new.version c records stored) (sym rests) all;
            })
            base ended.2
        go first _ (checkpoint_failed fails) =
            then_unfilled (record { mid = filling_writer other old; first = first; event = AtCheckpoint fails })

-- ---- a checkpoint that is planned
module _ {D : Type 0} {G : Ghosts D} (old new : SlotJournal D G) (planned : Slot) (slot other : Slot) (records : List VersionedEntry) (stored : ℕ)
    (behind : StandsBehind slot other records stored old) (plans : Plans planned old new) where
  abbrev made : PlansOn planned old new slot other behind.next
  made = plans slot behind.next other behind.stands

  planned_slot_is : made.plans.next ≡ planned
  planned_slot_is =
      planned_is new.filler.stage planned made.plans.next (filling_of new.filler) (ap (λ (w : SlotWriter). w.checkpoint) made.plans.work_is)

  -- records that are spelled up to its base are so for it
  pub plan_spelled : AreSpelledUpTo planned.base old.version planned.head.version records stored
      → AreSpelledFor new.version (checkpoint_of planned new.filler) records stored
  plan_spelled both =
      subst (λ (w : SlotWriter). AreSpelledFor w.version w.checkpoint records stored) (sym made.plans.work_is)
      (subst (λ (s : Slot). AreSpelledUpTo s.base old.version s.head.version records stored) (sym planned_slot_is) both)

  -- and all records are, up to the base that is their count
  pub all_spelled : planned.base ≡ length records → AreSpelledUpTo planned.base old.version planned.head.version records stored
  all_spelled base =
      let all : All (IsIn old.version) (drop stored records) =
      subst (λ (c : Checkpoint). AreSpelledFor old.version c records stored) made.plans.none behind.spelled in
      record {
        within = omega (arith, base);
        below = subst (λ (rs : List VersionedEntry). All (IsIn old.version) (drop stored rs))
            (sym (take_all planned.base records (omega (arith, base)))) all;
        others = subst (λ (rs : List VersionedEntry). All (IsIn planned.head.version) rs)
            (sym (drop_all planned.base records (omega (arith, base)))) (All-nil (IsIn planned.head.version));
      }

  pub planned_behind : AreSpelledUpTo planned.base old.version planned.head.version records stored → StandsBehind slot planned records stored new
  planned_behind both = record {
    next = behind.next;
    stands = made.stands;
    is_next = subst (λ (v : Version). IsFirstLeft v records stored behind.next) (sym (ap (λ (w : SlotWriter). w.version) made.plans.work_is)) behind.is_next;
    count = behind.count;
    some = behind.some;
    few = behind.few;
    proper = behind.proper;
    spelled = plan_spelled both;
  }

-- ---- over what the slot has of the records
module _ {Image Step D : Type 0} {G : Ghosts D} (rules : Rules Image Step VersionedEntry) (tag : ℕ) (other : Slot) (records : List VersionedEntry) (stored : ℕ) where
  lives : (journal : SlotJournal D G) → StandsBehindTwo rules tag other records stored journal
      → IsLiveTwo rules tag records stored (slot_writer other journal) (disks_of journal)
  lives journal stands = record {
    slot = stands.slot;
    tag_is = stands.tag_is;
    list = stands.list;
    stands = stands_first journal.version stands.slot records stored stands.behind.next (slot_writer other journal) (disks_of journal)
        stands.behind.count stands.behind.few stands.behind.proper stands.behind.is_next stands.behind.stands.two;
    some = stands.behind.some;
    few = stands.behind.few;
    proper = stands.behind.proper;
    spelled = stands.behind.spelled;
    plan = stands.plan;
  }

  leaves_found : (journal : SlotJournal D G) (stands : StandsBehindTwo rules tag other records stored journal) (left : Sides (List ℕ))
      → ShowsOne stands.slot stands.behind.next (checkpoint_of other journal.filler) left
      → (found : List VersionedEntry) × HoldsTwo rules tag found left × IsFoundOf records stored found
  leaves_found journal stands left shows = elim shows.may [
    | inl same ↦ (
      take stored records,
      record {
        slot = stands.slot;
        tag_is = stands.tag_is;
        shows = subst (λ (s : Slot). Shows s left) same shows.shows;
        list = stands.list;
      },
      record { count = stored; least = omega arith; most = stands.behind.some; is = refl },
    )
    | inr (inl more) ↦
        let is : slice_get records stored ≡ Some (stands.slot.head.version, more.entry) =
        next_first journal.version records stored stands.behind.next more.entry more.next_is stands.behind.is_next
        ∙ ap (λ (v : Version). Some (v, more.entry)) stands.behind.stands.version in
        let less = (next_taken records stored (stands.slot.head.version, more.entry) is).0 in (
          take (stored + 1) records,
          record {
            slot = with_more stands.slot more.entry;
            tag_is = stands.tag_is;
            shows = subst (λ (s : Slot). Shows s left) more.is shows.shows;
            list = stored_more rules records stored more.entry stands.slot stands.list is;
          },
          record { count = stored + 1; least = omega arith; most = omega (arith, less); is = refl },
        )
    | inr (inr turned) ↦
        let made = found_made stands.slot other stands.behind.next journal shows.found stands.behind.stands turned in
        let base : other.base ≡ stored = sym made.2 ∙ stands.behind.count in (
          take stored records,
          record {
            slot = other;
            tag_is = made.3 ∙ stands.tag_is;
            shows = subst (λ (s : Slot). Shows s left) made.0 shows.shows;
            list = subst (λ (n : ℕ). IsListOf rules (take n records) other) base
                (plan_at rules journal.filler.stage records other (filling_of journal.filler) made.1 stands.plan);
          },
          record { count = stored; least = omega arith; most = stands.behind.some; is = refl },
        )
  ]

  puts : (old new : SlotJournal D G) (entry : Entry) → StandsBehindTwo rules tag other records stored old → HasNoNext old
      → slice_get records stored ≡ Some (old.version, entry) → PutsNext entry old new → new.filler ≡ old.filler
      → StandsBehindTwo rules tag other records stored new
  puts old new entry stands idle is next filler = record {
    slot = stands.slot;
    behind = put_behind stands.slot other records stored old new entry stands.behind idle is next filler;
    tag_is = stands.tag_is;
    list = stands.list;
    plan = subst (λ (f : Filler). HasPlan rules records (checkpoint_of other f)) (sym filler) stands.plan;
  }

  record_event : (old new : SlotJournal D G) (result : Result Phase Refused) → StandsBehindTwo rules tag other records stored old
      → (HasNoNext old → ⊥) → MakesRecordStep old new result → IsEvent rules tag other records stored old new result
  record_event old new result stands busy makes =
      go result (record_then stands.slot other records stored old new result stands.behind busy makes)
    where
      kept : checkpoint_of other new.filler ≡ checkpoint_of other old.filler → HasPlan rules records (checkpoint_of other new.filler)
      kept same = subst (λ (c : Checkpoint). HasPlan rules records c) (sym same) stands.plan

      go : (result : Result Phase Refused) → RecordThen stands.slot other records stored old new result
          → IsEvent rules tag other records stored old new result
      go _ (then_called event behind more same) = is_call event (record {
        slot = stands.slot;
        behind = behind;
        tag_is = stands.tag_is;
        list = stands.list;
        plan = kept same;
      })
      go _ (then_stored event behind idle same) = is_store event (record {
        slot = with_more stands.slot event.entry;
        behind = behind;
        tag_is = stands.tag_is;
        list = stored_more rules records stored event.entry stands.slot stands.list
            (event.next.next_is ∙ ap (λ (v : Version). Some (v, event.entry)) stands.behind.stands.version);
        plan = kept same;
      })
      go _ (then_failed event) = is_fail event

  checkpoint_event : (old new : SlotJournal D G) (result : Result Bool Refused) → StandsBehindTwo rules tag other records stored old
      → IsCheckpointing old → MakesCheckpointStep old new result → IsEvent rules tag other records stored old new result
  checkpoint_event old new result stands some makes =
      go result (checkpoint_then stands.slot other records stored old new result stands.behind some makes)
    where
      list : IsListOf rules (take other.base records) other
      list = plan_at rules old.filler.stage records other (filling_of old.filler) some stands.plan

      plan : HasPlan rules records (checkpoint_of other new.filler)
      plan = plan_then rules new.filler.stage records other (filling_of new.filler) list

      go : (result : Result Bool Refused) → CheckpointThen stands.slot other records stored old new result
          → IsEvent rules tag other records stored old new result
      go _ (then_filled event behind) = is_call event (record {
        slot = stands.slot;
        behind = behind;
        tag_is = stands.tag_is;
        list = stands.list;
        plan = plan;
      })
      go _ (then_turned event behind base tag_is) = is_call event (record {
        slot = other;
        behind = behind;
        tag_is = tag_is ∙ stands.tag_is;
        list = subst (λ (n : ℕ). IsListOf rules (take n records) other) base list;
        plan = plan;
      })
      go _ (then_unfilled event) = is_fail event

  plan_event : (old new : SlotJournal D G) (planned : Slot) → StandsBehindTwo rules tag other records stored old → Plans planned old new
      → IsListOf rules records planned
      → BeginsTwo rules tag records (slot_writer other old) (slot_writer planned new) × StandsBehindTwo rules tag planned records stored new
  plan_event old new planned stands plans list =
      let made = plans stands.slot stands.behind.next other stands.behind.stands in
      let next : made.plans.next ≡ planned =
      planned_is new.filler.stage planned made.plans.next (filling_of new.filler) (ap (λ (w : SlotWriter). w.checkpoint) made.plans.work_is) in
      let bare = ap length made.plans.planned.follows.bare in
      let within = list.within in
      let short : length (drop planned.base records) ≡ 0 =
      ap length (sym list.rest) ∙ length-map planned.rest (λ (entry : Entry). (planned.head.version, entry))
      ∙ ap (λ (s : Slot). length s.rest) (sym next) ∙ bare in
      let base : planned.base ≡ length records = omega (arith, within, short, length-drop planned.base records) in
      let whole : records ≡ take planned.base records =
      sym (take_all planned.base records (omega (arith, within, short, length-drop planned.base records))) in (
        record {
          slot = stands.slot;
          tag_is = stands.tag_is;
          generation = stands.behind.stands.two.generation;
          plans = made.plans;
          list = subst (λ (s : Slot). IsListOf rules records s) (sym next) list;
        },
        record {
          slot = stands.slot;
          behind = planned_behind old new planned stands.slot other records stored stands.behind plans
              (all_spelled old new planned stands.slot other records stored stands.behind plans base);
          tag_is = stands.tag_is;
          list = stands.list;
          plan = plan_then rules new.filler.stage records planned (filling_of new.filler)
              (subst (λ (rs : List VersionedEntry). IsListOf rules rs planned) whole list);
        },
      )

  pub writes_two_disks : WritesTwoDisks G rules tag other records stored
  writes_two_disks = record {
    live = lives;
    leaves = leaves_found;
    puts_next = puts;
    record_calls = record_event;
    checkpoint_calls = checkpoint_event;
    plans = plan_event;
  }

module _ {Image Step D : Type 0} (G : Ghosts D) (rules : Rules Image Step VersionedEntry) (tag : ℕ) (other : Slot) where
  resting : (journal : SlotJournal D G) → journal.filler.stage ≡ fills.Rests → (records : List VersionedEntry)
      → HasPlan rules records (checkpoint_of other journal.filler)
  resting journal rests records =
      subst (λ (s : FillStage). HasPlan rules records (checkpoint_at s other (filling_of journal.filler))) (sym rests) tt

  unplanned : (journal : SlotJournal D G) (records : List VersionedEntry) → checkpoint_of other journal.filler ≡ NotBegun
      → HasPlan rules records (checkpoint_of other journal.filler)
  unplanned journal records none = subst (λ (c : Checkpoint). HasPlan rules records c) (sym none) tt

  opens_behind : (a b : D) (journal : SlotJournal D G) (found : List NumberedRecord) (records : List VersionedEntry)
      → OpensOn tag (states_of G a b) journal found → HoldsTwo rules tag records (reads_two (states_of G a b))
      → OpensTwo (states_of G a b) (slot_writer other journal) (disks_of journal)
      × StandsBehindTwo rules tag other records (length records) journal
      × GiveTheSame rules (in_version journal.version (map unnumbered (all_numbered found))) records
  opens_behind a b journal found records opens holds =
      let disks = states_of G a b in
      let finds = openings_find.opened holds.slot disks holds.shows (slot_writer other journal) (disks_of journal) (opens.opens other) in
      let same : opens.slot ≡ holds.slot = sym (opens.is other) ∙ finds.found in
      let shows = subst (λ (s : Slot). Shows s (reads_two disks)) (sym same) holds.shows in
      let list : IsListOf rules records opens.slot = subst (λ (s : Slot). IsListOf rules records s) (sym same) holds.list in
      let count = list_count rules records opens.slot list in
      let few : length records ≤ 4294967295 = let most = holds.shows.holds.whole.proper.few in
      let held = list_count rules records holds.slot holds.list in omega (arith, most, held) in
      let none : drop (length records) records ≡ [] = drop_all (length records) records (omega arith) in (
        opens.opens other,
        record {
          slot = opens.slot;
          behind = record {
            next = None;
            stands = opens.stands shows other;
            is_next = tt;
            count = count;
            some = omega arith;
            few = few;
            proper = subst (λ (rs : List VersionedEntry). All IsPlainEntry rs) (sym none) (All-nil IsPlainEntry);
            spelled = subst (λ (c : Checkpoint). AreSpelledFor journal.version c records (length records))
                (sym (ap (λ (w : SlotWriter). w.checkpoint) (opens.opens other).work_is))
                (subst (λ (rs : List VersionedEntry). All (IsIn journal.version) rs) (sym none) (All-nil (IsIn journal.version)));
          };
          tag_is = opens.tag_is;
          list = subst (λ (rs : List VersionedEntry). IsListOf rules rs opens.slot) (sym (take_all (length records) records (omega arith))) list;
          plan = unplanned journal records (ap (λ (w : SlotWriter). w.checkpoint) (opens.opens other).work_is);
        },
        subst (λ (v : Version). GiveTheSame rules (in_version v (map unnumbered (all_numbered found))) records)
            (sym (opens.stands shows other).version)
            (subst (λ (rs : List NumberedEntry). GiveTheSame rules (in_version opens.slot.head.version (map unnumbered rs)) records) opens.records
            ((slots_give_back rules).images records opens.slot list)),
      )

  created_behind : (head : Head) (journal : SlotJournal D G) → head.tag ≡ tag → journal.filler.stage ≡ fills.Rests → StandsEmpty head journal
      → StandsBehindTwo rules tag other [] 0 journal
  created_behind head journal is rests empty = record {
    slot = first_slot head [];
    behind = record {
      next = None;
      stands = empty other;
      is_next = tt;
      count = refl;
      some = omega arith;
      few = omega arith;
      proper = All-nil IsPlainEntry;
      spelled = subst (λ (s : FillStage). AreSpelledFor journal.version (checkpoint_at s other (filling_of journal.filler)) [] 0) (sym rests)
          (All-nil (IsIn journal.version));
    };
    tag_is = is;
    list = record {
      within = omega arith;
      commands = refl;
      image = λ image. (λ folded. folded, λ folded. folded);
      rest = refl;
    };
    plan = resting journal rests [];
  }

  begins_two_disks : BeginsTwoDisks G rules tag other
  begins_two_disks = record { opens = opens_behind; created = created_behind }

pub journals_write_two : {Image Step D : Type 0} (G : Ghosts D) (rules : Rules Image Step VersionedEntry) → JournalsWriteTwo G rules
journals_write_two G rules = record {
  writes = λ tag other records stored. writes_two_disks rules tag other records stored;
  begins = λ tag other. begins_two_disks G rules tag other;
}
