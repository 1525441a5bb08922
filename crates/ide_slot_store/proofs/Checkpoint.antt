-- A checkpoint of all that is sealed is one that the store may begin.
use Rattle.std.proofs.Common.{◌≡◌, ◌∙◌, ◌<◌, ◌++◌, ℕ, List, [], ◌∷◌, Option, Some, length, take, map, refl, ap, sym, subst, arith}
use Rattle.std.proofs.lemmas.List.{append-nil, drop_all, take_all}
use Rattle.std.specs.Prelude.{unwrap_or}
use Rattle.ide_batch.specs.Applied.{HasImage, named_in}
use Rattle.ide_batch.specs.Fold.{image_entry}
use Rattle.ide_disk.specs.declared.disk.Disk.{Ghosts}
use Rattle.ide_image.specs.Notes.{noted}
use Rattle.ide_image.specs.declared.entry.Entry.{Entry as Noted}
use Rattle.ide_journal.specs.Format.{Entry, Head}
use Rattle.ide_journal.specs.declared.version.Version.TheVariants.{Two}
use Rattle.ide_slot_journal.specs.Opened.{states_of}
use Rattle.ide_slot_journal.specs.Stands.{disks_of, filling_of, sides_of, slot_writer}
use Rattle.ide_slot_journal.specs.declared.journal.SlotJournal.{SlotJournal}
use Rattle.ide_slots.specs.Sides.{Sides}
use Rattle.ide_slots.specs.Slot.{Slot}
use Rattle.ide_slots.specs.Two.{SlotWriter}
use Rattle.ide_steps.specs.Changed.{entry_then, standing_entry}
use Rattle.ide_wire.specs.Form.{IsPrefixFree}
use Rattle.ide_wire.specs.declared.key.Key.{Key}
use Rattle.ide_store.specs.Places.{OnTwoDisks}
use Rattle.ide_store.specs.Table.{Analysis, TableData, WorksOn, told}
use Rattle.ide_store.specs.TwoDisks.{BeginsTwo, IsListOf, commands_of, sealing_version}
use Rattle.ide_store.specs.Versioned.{VersionedEntry, in_version}
use Rattle.ide_store.specs.TwoDisksLaws.{ArePartsOf, slots_of}
use Rattle.ide_store.specs.World.{Begins, IsFolded, contents}
use Rattle.ide_store.proofs.Acts.{reached_more}
use Rattle.ide_store.proofs.Places.{exact_at}
use Rattle.ide_store.proofs.Stepping.{works_sealing}
use Rattle.ide_store.proofs.TwoDisksPlans.{parts_give}
use Rattle.ide_slot_store.specs.Checkpoint.{CheckpointsStayOnRuns, PlansImage, spelling_anew}
use Rattle.ide_slot_store.specs.Engine.{AreAtWork, MayHappen, SlotEvent, SlotWorld, after_events, happening}
use Rattle.ide_slot_store.specs.Half.{PlansAll}
use Rattle.ide_slot_store.specs.declared.writer.SlotWriterHalf.{SlotWriterHalf}
use Rattle.ide_slot_store.proofs.ImageParts.{image_parts_make}
use Rattle.ide_slot_store.proofs.Stopping.{held_by}
use Rattle.ide_slot_store.proofs.Writing.{planned_is}

-- a journal with the same disks has them as they were
same_disks : {D : Type 0} {G : Ghosts D} (old new : SlotJournal D G) → sides_of new ≡ sides_of old → disks_of new ≡ disks_of old
same_disks {G = G} old new sides =
    sym (held_by G new.side new.current new.other) ∙ ap (λ (s : Sides _). states_of G s.a s.b) sides ∙ held_by G old.side old.current old.other

module _ {F L : Type 0} (a : Analysis F L) where
  -- ---- where no change is noted, the sealed records give back an image that the core has
  module _ (tag : ℕ) (w : SlotWorld a tag) (table : TableData F) (handed : List VersionedEntry) (works : WorksOn a (OnTwoDisks tag) w table handed)
      (still : table.core.changes ≡ Some []) where
    stands_still : (key : Key) → entry_then table.core key ≡ standing_entry table.core key
    stands_still key = ap (λ (c : Option (List (Key × Noted F))). unwrap_or (noted c key) (standing_entry table.core key)) still

    entry_stands : (key : Key) → image_entry works.base.image key ≡ told (standing_entry table.core key)
    entry_stands key = works.base.entries key ∙ ap told (stands_still key)

    sealed_image : HasImage works.base.image table.core
    sealed_image = record {
      program = works.base.program ∙ works.image.program;
      graphed = works.image.graphed;
      roots = ap (map (named_in table.core.graph)) works.base.roots ∙ works.image.roots;
      get = λ key. ap (λ (e : Option F × _). e.0) (entry_stands key);
      pending = λ key. ap (λ (e : Option F × _). e.1) (entry_stands key);
    }

  -- ---- commands and parts give back the image of all the records: they are a slot of them
  slot_lists : IsPrefixFree a.proper a.form → (records : List VersionedEntry) (parts : List Entry) (slot : Slot) → ArePartsOf (slots_of a) records parts
      → slot.head.version ≡ Two → slot.base ≡ length records → slot.commands ≡ commands_of records → slot.parts ≡ parts → slot.rest ≡ []
      → IsListOf (slots_of a) records slot
  slot_lists free records parts slot are version base commands is bare =
      let whole : take slot.base records ≡ records = take_all slot.base records (omega (arith, base)) in
      record {
        within = omega (arith, base);
        commands = commands ∙ ap commands_of (sym whole);
        image = rw (version, commands, is, whole) (parts_give (slots_of a) 0 (exact_at a free (OnTwoDisks 0)) records parts are);
        rest = ap (in_version slot.head.version) bare ∙ sym (drop_all slot.base records (omega (arith, base)));
      }

  -- ---- a checkpoint is begun
  module _ {D : Type 0} {G : Ghosts D} (free : IsPrefixFree a.proper a.form) (tag : ℕ) (w : SlotWorld a tag) (table : TableData F)
      (old new : SlotWriterHalf D G) (at : AreAtWork a tag w table old) (plan : PlansImage a table old new) where
    abbrev all_handed : contents w.world.sealed ≡ at.handed
    all_handed = at.works.waits ∙ ap (λ (more : List Entry). at.handed ++ in_version table.version more) plan.handed ∙ append-nil at.handed

    abbrev planned : PlansAll plan.parts at.slot at.other at.handed w.world.stored old new
    planned = plan.plans at.slot at.other at.handed w.world.stored at.writes

    abbrev work : SlotWriter
    work = slot_writer planned.planned new.journal

    begins : BeginsTwo (slots_of a) tag at.handed (slot_writer at.other old.journal) work
    begins =
        let behind = at.writes.behind in
        let made = planned.plans at.slot behind.next at.other behind.stands in
        let same : made.plans.next ≡ planned.planned =
        planned_is new.journal.filler.stage planned.planned made.plans.next (filling_of new.journal.filler) (ap (λ (s : SlotWriter). s.checkpoint) made.plans.work_is) in
        let follows = made.plans.planned.follows in
        let version : planned.planned.head.version ≡ Two = ap (λ (s : Slot). s.head.version) (sym same) ∙ ap (λ (h : Head). h.version) follows.head in
        let generation = follows.generation in
        let some : 0 < length (commands_of at.handed) =
        subst (λ (rs : List _). 0 < length rs) (ap (λ (s : Slot). s.commands) same ∙ planned.commands) (follows.proper.valid.later (omega (arith, generation))) in
        let folded : IsFolded (slots_of a) at.handed at.works.base.image =
        subst (λ (rs : List VersionedEntry). IsFolded (slots_of a) rs at.works.base.image) all_handed at.works.base.folded in
        let image = sealed_image tag w table at.handed at.works plan.still in
        let make = image_parts_make a table at.handed plan.parts at.works.base.image plan.image folded image some in
        record {
          slot = at.slot;
          tag_is = at.tag_is;
          generation = behind.stands.two.generation;
          plans = made.plans;
          list = subst (λ (s : Slot). IsListOf (slots_of a) at.handed s) (sym same)
              (slot_lists free at.handed plan.parts planned.planned make version planned.base planned.commands planned.parts_are planned.bare);
        }

    pub may_begin : (begun : SlotWriter)
        × (MayHappen a tag w (Begins begun ∷ [])
        × AreAtWork a tag (after_events a tag w (Begins begun ∷ [])) (spelling_anew table) new)
    may_begin =
        let made = planned.plans at.slot at.writes.behind.next at.other at.writes.behind.stands in
        let seals : Two ≡ sealing_version work =
        sym (ap sealing_version made.plans.work_is ∙ ap (λ (h : Head). h.version) made.plans.planned.follows.head) in
        let at_work : AreAtWork a tag (after_events a tag w (Begins work ∷ [])) (spelling_anew table) new = record {
          handed = at.handed;
          works = works_sealing a (OnTwoDisks tag) w table (spelling_anew table) w.world.stored work w.world.disks at.handed at.works refl seals
              (all_handed ∙ sym (append-nil at.handed) ∙ ap (λ (es : List Entry). at.handed ++ in_version Two es) (sym plan.handed));
          slot = at.slot;
          other = planned.planned;
          writes = planned.writes;
          tag_is = at.tag_is;
          work = refl;
          disks = at.disks ∙ sym (same_disks old.journal new.journal plan.sides);
        } in
        let here : BeginsTwo (slots_of a) tag (contents w.world.sealed) w.world.work work =
        subst (λ (rs : List VersionedEntry). BeginsTwo (slots_of a) tag rs w.world.work work) (sym all_handed)
        (subst (λ (before : SlotWriter). BeginsTwo (slots_of a) tag at.handed before work) (sym at.work) begins) in
        (work, (((tt, (at.works.running, here)), tt), at_work))

  -- and the engine is on a run of the world after it
  pub stay_on_run : {D : Type 0} {G : Ghosts D} → IsPrefixFree a.proper a.form → CheckpointsStayOnRuns a G
  stay_on_run free tag table old new on plan =
      let begun = may_begin free tag on.world table old new on.at_work plan in
      let events : List (SlotEvent a tag) = Begins begun.0 ∷ [] in
      record {
        world = after_events a tag on.world events;
        reached = reached_more a (OnTwoDisks tag) on.world (happening a tag events) on.reached begun.1.0;
        at_work = begun.1.1;
      }
