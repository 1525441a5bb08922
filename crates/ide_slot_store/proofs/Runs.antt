-- The halves of an engine on two disks stay at work on a world that acts led to: acts of the half that works leave the disks
-- and what is stored as they are, and keep the records that were handed over.
use Rattle.std.proofs.Common.{◌≡◌, ◌∙◌, ◌++◌, ℕ, Bool, true, false, List, [], ◌∷◌, Result, ap, refl, subst, sym}
use Rattle.ide_disk.specs.Disk.{DiskState}
use Rattle.ide_disk.specs.declared.disk.Disk.{Ghosts}
use Rattle.ide_slot_journal.specs.Opened.{settled_both}
use Rattle.ide_slot_journal.specs.Stands.{disks_of}
use Rattle.ide_slots.specs.Sides.{Sides}
use Rattle.ide_wire.specs.declared.refused.Refused.{Refused}
use Rattle.ide_store.proofs.Acts.{reached_more, reached_new}
use Rattle.ide_store.proofs.Drained.{works_still, works_unchanged}
use Rattle.ide_store.proofs.Runs.{WorksFrom, act_goes, works_go}
use Rattle.ide_store.specs.Draining.{WorksBy}
use Rattle.ide_store.specs.Hands.{Happens}
use Rattle.ide_store.specs.Places.{OnTwoDisks, Place}
use Rattle.ide_store.specs.Runs.{IsLeftByRun, IsOfTable}
use Rattle.ide_store.specs.Table.{Analysis, IsAct, IsReached, MayDoAll, StoreAct, TableData, after_act, after_acts, new_store}
use Rattle.ide_store.specs.World.{Begins, Closed, Crashes, Fails, Opens, Stops}
use Rattle.ide_slot_store.specs.Asking.{AsksOver, ComesTo, DidSeal, begins, is_refused, no_program, none_is_new, sealing, was_under_way}
use Rattle.ide_slot_store.specs.Engine.{AreAtWork, AreOpened, MayCrash, SlotEvent, SlotWorld, StepsDisks, StepsDisksOver, after_events, all_stored, at_once, did_call, did_fail, happening, no_memory, within_call, within_opening, MayHappen}
use Rattle.ide_slot_store.specs.Half.{Writes}
use Rattle.ide_slot_store.specs.Runs.{AreOnRun, AreOnRunUnlessFailed, SlotEnginesStayOnRuns}
use Rattle.ide_slot_store.specs.declared.writer.SlotWriterHalf.{SlotWriterHalf}
use Rattle.ide_slot_store.proofs.Adopted.{adopting_stays}

module _ {F L : Type 0} (a : Analysis F L) (tag : ℕ) where
  -- what events lead to leaves disks
  left_by : (w : SlotWorld a tag) → IsReached a (OnTwoDisks tag) w → (events : List (SlotEvent a tag)) → MayHappen a tag w events
      → IsLeftByRun a (OnTwoDisks tag) (after_events a tag w events).world.disks
  left_by w reached events can = record {
    world = after_events a tag w events;
    reached = reached_more a (OnTwoDisks tag) w (happening a tag events) reached can;
    stands = refl;
  }

  -- behind some events, a call that fails and a crash leave just what the crash does
  crash_last : (w : SlotWorld a tag) (events : List (SlotEvent a tag)) (failed : Sides DiskState) (left : Sides (List ℕ))
      → (after_events a tag w (events ++ Fails failed ∷ Crashes left ∷ [])).world.disks ≡ settled_both left
  crash_last w [] failed left = refl
  crash_last w (e ∷ events) failed left = crash_last (after_act a (OnTwoDisks tag) w (Happens e)) events failed left

  crash_leaves : (w : SlotWorld a tag) → IsReached a (OnTwoDisks tag) w → (left : Sides (List ℕ)) → MayCrash a tag w left
      → IsLeftByRun a (OnTwoDisks tag) (settled_both left)
  crash_leaves w reached left (at_once can) = left_by w reached (Crashes left ∷ []) can
  crash_leaves w reached left (within_call events failed own can) =
      subst (IsLeftByRun a (OnTwoDisks tag)) (crash_last w events failed left) (left_by w reached (events ++ Fails failed ∷ Crashes left ∷ []) can)
  crash_leaves w reached left (within_opening can) = left_by w reached (Stops (settled_both left) Closed ∷ Crashes left ∷ []) can

module _ {F L : Type 0} (a : Analysis F L) {D : Type 0} {G : Ghosts D} (tag : ℕ) where
  -- ---- calls of the half that works
  stay : (new : TableData F) (writer : SlotWriterHalf D G) (w : SlotWorld a tag) (table : TableData F)
      (at : AreAtWork a tag w table writer) → WorksFrom a (OnTwoDisks tag) w new at.handed → AreOnRun a tag new writer
  stay new writer w table at goes = record {
    world = goes.world;
    reached = goes.reached;
    at_work = record {
      handed = at.handed;
      works = goes.works;
      slot = at.slot;
      other = at.other;
      writes = subst (λ (n : ℕ). Writes at.slot at.other at.handed n writer) (sym goes.below.stored) at.writes;
      tag_is = at.tag_is;
      work = goes.below.work ∙ at.work;
      disks = goes.below.disks ∙ at.disks;
    };
  }

  act_stays : (old new : TableData F) (writer : SlotWriterHalf D G) (act : (place : Place) → StoreAct a place)
      → ((place : Place) → IsOfTable a place (act place)) → IsAct a old new act → AreOnRun a tag old writer → AreOnRun a tag new writer
  act_stays old new writer act of is on =
      let at = on.at_work in
      stay new writer on.world old at (act_goes a old new act of is (OnTwoDisks tag) on.world at.handed on.reached at.works)

  works_stay : (old new : TableData F) (writer : SlotWriterHalf D G) (claims releases : ℕ) → WorksBy a old new claims releases
      → AreOnRun a tag old writer → AreOnRun a tag new writer
  works_stay old new writer claims releases by on =
      let at = on.at_work in
      stay new writer on.world old at (works_go a old new claims releases by (OnTwoDisks tag) on.world at.handed on.reached at.works)

  -- ---- a call of a disk
  step_stays : (old new : TableData F) (writer after : SlotWriterHalf D G) (result : Result Bool Refused)
      → StepsDisksOver a tag old new writer after result → AreOnRun a tag old writer → AreOnRunUnlessFailed a tag new after
  step_stays old new writer after result steps on = made result (steps on.world on.reached on.at_work)
    where
      made : (result : Result Bool Refused) → StepsDisks a tag on.world old new after result → AreOnRunUnlessFailed a tag new after
      made _ (did_call call) working = record {
        world = after_events a tag on.world call.events;
        reached = reached_more a (OnTwoDisks tag) on.world (happening a tag call.events) on.reached call.can;
        at_work = call.at_work;
      }
      made _ (did_fail fault) working =
          let no : true ≡ false = sym (ap (λ (t : TableData F). t.failed) fault.failed) ∙ working in
          cc (no)
      made _ (all_stored all at_work) working = record { world = on.world; reached = on.reached; at_work = at_work }
      made _ (no_memory at_work) working = record { world = on.world; reached = on.reached; at_work = at_work }

  -- ---- an opening
  opening_stays : (before : Sides DiskState) (table : TableData F) (writer : SlotWriterHalf D G)
      → IsLeftByRun a (OnTwoDisks tag) before → AreOpened a tag before table writer → AreOnRun a tag table writer
  opening_stays before table writer left opens =
      let is = opens left.world left.reached left.stands in
      let act : StoreAct a (OnTwoDisks tag) = Happens (Opens is.0 is.1 is.2 (disks_of writer.journal)) in
      record {
        world = after_act a (OnTwoDisks tag) left.world act;
        reached = reached_more a (OnTwoDisks tag) left.world (act ∷ []) left.reached (is.3.0, tt);
        at_work = is.3.1;
      }

-- ---- a call that asks for a checkpoint
module _ {F L : Type 0} (a : Analysis F L) {D : Type 0} {G : Ghosts D} (tag : ℕ) where
  asked_stays : (old new : TableData F) (writer after : SlotWriterHalf D G) (result : Result Bool Refused)
      → AsksOver a tag old new writer after result → AreOnRun a tag old writer → AreOnRun a tag new after
  asked_stays old new writer after result asks on = made result (asks on.world on.reached on.at_work)
    where
      on_acts : (acts : List (StoreAct a (OnTwoDisks tag))) → MayDoAll a (OnTwoDisks tag) on.world acts
          → AreAtWork a tag (after_acts a (OnTwoDisks tag) on.world acts) new after → AreOnRun a tag new after
      on_acts acts can at_work = record {
        world = after_acts a (OnTwoDisks tag) on.world acts;
        reached = reached_more a (OnTwoDisks tag) on.world acts on.reached can;
        at_work = at_work;
      }

      sealed : DidSeal a tag on.world new after → AreOnRun a tag new after
      sealed did = on_acts (sealing a tag did.batch) did.can did.at_work

      made : (result : Result Bool Refused) → ComesTo a tag on.world new after writer result → AreOnRun a tag new after
      made _ (begins did) = on_acts (sealing a tag did.batch ++ Happens (Begins did.work) ∷ []) did.can did.at_work
      made _ (was_under_way under did) = sealed did
      made _ (none_is_new none did) = sealed did
      made _ (no_program none did) = sealed did
      made _ (is_refused did) = sealed did

pub slot_engines_stay_on_runs : {P F L D : Type 0} (a : Analysis F L) {G : Ghosts D} → SlotEnginesStayOnRuns P a G
slot_engines_stay_on_runs a = record {
  made = λ tag table writer new. record {
    world = new_store a (OnTwoDisks tag) new.work (disks_of writer.journal);
    reached = reached_new a (OnTwoDisks tag) new.work (disks_of writer.journal) new.live;
    at_work = new.at_work;
  };
  opened = opening_stays a;
  adopted = adopting_stays a;
  leaves = λ tag table writer on. record { world = on.world; reached = on.reached; stands = on.at_work.disks };
  crashes = crash_leaves a;
  act = act_stays a;
  works = works_stay a;
  nothing = λ tag old new writer finds.
      works_stay a tag old new writer 0 0 (works_still a old new (λ place w handed reached works. (finds.caught_up place w handed reached works).1));
  same = λ tag old new writer same. works_stay a tag old new writer 0 0 (works_unchanged a old new same.rest same.core);
  step = step_stays a;
  asked = asked_stays a;
  frozen = λ tag table writer closed image on. record {
    place = OnTwoDisks tag;
    world = on.world;
    reached = on.reached;
    image = image (OnTwoDisks tag) on.world on.at_work.handed on.reached on.at_work.works;
  };
}
