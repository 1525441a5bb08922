-- Disk calls of a store on two disks that works and writes, one after the other.
use Rattle.std.proofs.Common.{◌≡◌, ◌∙◌, ℕ, Bool, true, false, List, [], ◌∷◌, Result, Ok, length, ap, refl}
use Rattle.std.specs.List.{AllByRecursion}
use Rattle.std.proofs.lemmas.List.Elements.{recursion_from_All}
use Rattle.ide_disk.specs.declared.disk.Disk.{Ghosts}
use Rattle.ide_slot_journal.specs.Stands.{AreHonest}
use Rattle.ide_wire.specs.declared.refused.Refused.{Refused}
use Rattle.ide_store.proofs.Acts.{reached_more}
use Rattle.ide_store.specs.Hands.{Happens}
use Rattle.ide_store.specs.Places.{OnTwoDisks}
use Rattle.ide_store.specs.Table.{Analysis, TableData, after_act}
use Rattle.ide_store.specs.Versioned.{VersionedEntry}
use Rattle.ide_store.specs.World.{Acks, Begins, Calls, Crashes, Fails, Opens, Seals, Sealed, Steps, Stops, Stores}
use Rattle.ide_slot_store.specs.Engine.{IsGoodCall, SlotEvent, SlotWorld, StepsDisks, StepsDisksOver, after_events, all_stored, did_call, did_fail, happening, no_memory}
use Rattle.ide_slot_store.specs.Storing.{AreWorking}
use Rattle.ide_slot_store.specs.declared.writer.SlotWriterHalf.{SlotWriterHalf}

module _ {F L : Type 0} (a : Analysis F L) (tag : ℕ) where
  -- a good call seals nothing
  one_stays : (w : SlotWorld a tag) (e : SlotEvent a tag) → IsGoodCall a tag e
      → (after_act a (OnTwoDisks tag) w (Happens e)).world.sealed ≡ w.world.sealed
  one_stays w (Calls work disks) own = refl
  one_stays w (Stores work disks) own = refl
  one_stays w (Steps s) own = absurd own
  one_stays w (Seals r) own = absurd own
  one_stays w (Begins work) own = absurd own
  one_stays w (Fails disks) own = absurd own
  one_stays w Acks own = absurd own
  one_stays w (Crashes left) own = absurd own
  one_stays w (Opens found image work disks) own = absurd own
  one_stays w (Stops disks mode) own = absurd own

  sealed_stays : (w : SlotWorld a tag) (events : List (SlotEvent a tag)) → AllByRecursion (IsGoodCall a tag) events
      → (after_events a tag w events).world.sealed ≡ w.world.sealed
  sealed_stays w [] own = refl
  sealed_stays w (e ∷ events) own = sealed_stays (after_act a (OnTwoDisks tag) w (Happens e)) events own.1 ∙ one_stays w e own.0

  module _ {D : Type 0} {G : Ghosts D} (sealed : List (Sealed VersionedEntry)) (table new_table : TableData F) (old new : SlotWriterHalf D G) where
    -- the halves work on behind a call
    pub call_then : (called : Bool) → AreWorking a tag sealed table old → StepsDisksOver a tag table new_table old new (Ok called) → called ≡ true
        → AreHonest new.journal → AreWorking a tag sealed new_table new
    call_then called on over is honest = made (Ok called) (over on.world on.reached on.at_work) (ap (λ (b : Bool). Ok b) is)
      where
        made : (result : Result Bool Refused) → StepsDisks a tag on.world table new_table new result → result ≡ Ok true
            → AreWorking a tag sealed new_table new
        made _ (did_call call) same = record {
          world = after_events a tag on.world call.events;
          reached = reached_more a (OnTwoDisks tag) on.world (happening a tag call.events) on.reached call.can;
          at_work = call.at_work;
          honest = honest;
          same = sealed_stays on.world call.events (recursion_from_All (IsGoodCall a tag) call.events call.own) ∙ on.same;
        }
        made _ (did_fail failed) same = cc (same)
        made _ (all_stored stored at_work) same = cc (same)
        made _ (no_memory at_work) same = cc (same)

    -- where there was none to make, all is stored
    pub all_then : (called : Bool) → AreWorking a tag sealed table old → StepsDisksOver a tag table new_table old new (Ok called) → called ≡ false
        → AreHonest new.journal → (then : AreWorking a tag sealed new_table new) × (then.world.world.stored ≡ length sealed)
    all_then called on over is honest = made (Ok called) (over on.world on.reached on.at_work) (ap (λ (b : Bool). Ok b) is)
      where
        made : (result : Result Bool Refused) → StepsDisks a tag on.world table new_table new result → result ≡ Ok false
            → (then : AreWorking a tag sealed new_table new) × (then.world.world.stored ≡ length sealed)
        made _ (did_call call) same = cc (same)
        made _ (did_fail failed) same = cc (same)
        made _ (all_stored stored at_work) same =
            (record { world = on.world; reached = on.reached; at_work = at_work; honest = honest; same = on.same }, stored ∙ ap length on.same)
        made _ (no_memory at_work) same = cc (same)
