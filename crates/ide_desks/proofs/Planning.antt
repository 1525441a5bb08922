-- A checkpoint of all that is sealed, where nothing waits with the half that works: the writer stays live with the records that it
-- took, since a run on which both halves are goes on with the beginning of the checkpoint.
use Rattle.std.proofs.Common.{◌≡◌, ◌∙◌, ◌++◌, ℕ, Bool, false, List, [], ◌∷◌, Some, length, ap, sym, subst, arith}
use Rattle.std.proofs.lemmas.List.{append-nil, drop_all, take_all}
use Rattle.ide_board.specs.Records.{TableView, WriterView}
use Rattle.ide_disk.specs.declared.disk.Disk.{Ghosts}
use Rattle.ide_journal.specs.Format.{Entry}
use Rattle.ide_journal.specs.declared.version.Version.{Version}
use Rattle.ide_journal.specs.declared.version.Version.TheVariants.{Two}
use Rattle.ide_slot_journal.specs.Stands.{AreHonest, sides_of}
use Rattle.ide_slot_journal.specs.declared.journal.SlotJournal.{SlotJournal}
use Rattle.ide_slots.specs.Sides.{Sides, two_sides}
use Rattle.ide_slots.specs.declared.side.Side.{Side}
use Rattle.ide_slots.specs.declared.side.Side.TheVariants.{First, Second}
use Rattle.ide_slot_store.specs.Checkpoint.{CheckpointsBegin, PlansImage, spelling_anew}
use Rattle.ide_slot_store.specs.Engine.{SlotEvent, after_events, happening}
use Rattle.ide_slot_store.specs.Half.{IsQuiet, KeepsWriting, PlansAllOver}
use Rattle.ide_slot_store.specs.Parts.{AreImageParts}
use Rattle.ide_slot_store.specs.Runs.{AreOnRun}
use Rattle.ide_slot_store.specs.declared.writer.SlotWriterHalf.{SlotWriterHalf}
use Rattle.ide_store.proofs.Acts.{reached_more}
use Rattle.ide_store.proofs.Waiting.{none_mapped}
use Rattle.ide_store.specs.Versioned.{VersionedEntry, in_version}
use Rattle.ide_store.specs.Places.{OnTwoDisks}
use Rattle.ide_store.specs.Table.{Analysis, TableData}
use Rattle.ide_store.specs.TwoDisksLaws.{TwoDisksKeep, slots_of}
use Rattle.ide_store.specs.World.{Begins, contents}
use Rattle.ide_desks.specs.Apart.{HalvesMeet, RunsAreLive}
use Rattle.ide_desks.specs.Desks.{CountsSealed, IsTableDesk, IsWriterDesk}
use Rattle.ide_desks.specs.Keeping.{WorksOnRun, WritesLive, handed_of, records_in}
use Rattle.ide_desks.specs.Keeping as keeping
use Rattle.ide_desks.proofs.Lists.{records_count}
use Rattle.ide_desks.proofs.Steps.{stays_live}

-- ---- disks that are the same two are honest if those were
honest_both : {D : Type 0} (G : Ghosts D) (side : Side) (current other : D) → G.honest current × G.honest other
    → G.honest (two_sides side current other).a × G.honest (two_sides side current other).b
honest_both G First current other are = are
honest_both G Second current other are = (are.1, are.0)

honest_each : {D : Type 0} (G : Ghosts D) (side : Side) (current other : D)
    → G.honest (two_sides side current other).a × G.honest (two_sides side current other).b → G.honest current × G.honest other
honest_each G First current other are = are
honest_each G Second current other are = (are.1, are.0)

pub same_honest : {D : Type 0} {G : Ghosts D} (old new : SlotJournal D G) → sides_of new ≡ sides_of old → AreHonest old → AreHonest new
same_honest {D = D} {G = G} old new same are =
    honest_each G new.side new.current new.other
    (subst (λ (s : Sides D). G.honest s.a × G.honest s.b) (sym same) (honest_both G old.side old.current old.other are))

module _ {F L : Type 0} (a : Analysis F L) (tag : ℕ) (version : Version) (first : List VersionedEntry) {D : Type 0} {G : Ghosts D}
    (table : TableData F) (old new : SlotWriterHalf D G) (seat : TableView VersionedEntry) (writer : WriterView VersionedEntry) where
  -- ---- all that is sealed is handed over
  module _ (counts : CountsSealed table seat) (handed : seat.handed ≡ length seat.sealed) (taken : writer.taken ≡ seat.sealed)
      (desk : IsTableDesk a tag version first table seat) where
    all_count : length (records_in first seat.sealed) ≡ length seat.sealed
    all_count = (let some = desk.begun in records_count first seat.sealed (omega (arith, some, handed)))

    none_waits : table.waiting ≡ []
    none_waits =
        let count = all_count in
        none_mapped (λ (entry : Entry). (version, entry)) table.waiting
        (desk.waits ∙ drop_all seat.handed (records_in first seat.sealed) (omega (arith, count, handed)))

    all_handed : handed_of first seat ≡ records_in first writer.taken
    all_handed =
        let count = all_count in
        take_all seat.handed (records_in first seat.sealed) (omega (arith, count, handed)) ∙ ap (records_in first) (sym taken)

    -- ---- the writer plans a checkpoint, and is live with it
    module _ (meet : HalvesMeet a G) (live : RunsAreLive a G) (law : CheckpointsBegin a G) (working : table.failed ≡ false) where
      abbrev records : List VersionedEntry
      records = records_in first writer.taken

      -- the run goes on with its beginning, and both seal in the second version then
      planned_live : (stored : ℕ) → WritesLive a tag version records stored old → PlansImage a table old new
          → WorksOnRun a tag Two (spelling_anew table) records × WritesLive a tag Two records stored new
      planned_live stored writes plan =
          let works = subst (WorksOnRun a tag version table) all_handed (desk.run working) in
          let met = meet tag version table old records stored none_waits works writes in
          let on = met.0 in
          let begun = law tag on.world table old new on.at_work plan in
          let events : List (SlotEvent a tag) = Begins begun.0 ∷ [] in
          let after : AreOnRun a tag (spelling_anew table) new = record {
            world = after_events a tag on.world events;
            reached = reached_more a (OnTwoDisks tag) on.world (happening a tag events) on.reached begun.1.0;
            at_work = begun.1.1;
          } in
          let before_is : contents on.world.world.sealed ≡ on.at_work.handed =
          on.at_work.works.waits ∙ ap (λ (more : List Entry). on.at_work.handed ++ in_version table.version more) none_waits ∙ append-nil on.at_work.handed in
          let after_is : contents on.world.world.sealed ≡ after.at_work.handed =
          after.at_work.works.waits ∙ ap (λ (more : List Entry). after.at_work.handed ++ in_version Two more) none_waits ∙ append-nil after.at_work.handed in
          let both = live tag (spelling_anew table) new after none_waits in
          let same = sym after_is ∙ before_is ∙ met.1 in (
            subst (WorksOnRun a tag Two (spelling_anew table)) same both.0,
            subst (λ (rs : List VersionedEntry). WritesLive a tag Two rs stored new) same
                (subst (λ (n : ℕ). WritesLive a tag Two after.at_work.handed n new) met.2 both.1),
          )

      module _ (failed : Bool) (going : failed ≡ false) (writes : IsWriterDesk a tag version first old writer failed)
          (still : table.core.changes ≡ Some []) (parts : List Entry) (image : AreImageParts a table parts) (plans : PlansAllOver parts old new)
          (sides : sides_of new.journal ≡ sides_of old.journal) where
        both_live : WorksOnRun a tag Two (spelling_anew table) records × WritesLive a tag Two records (length writer.stored) new
        both_live =
            planned_live (length writer.stored)
            (subst (λ (b : Bool). keeping.WritesUnlessFailed a tag version b records (length writer.stored) old) going writes.keeps)
            (record { handed = none_waits; still = still; parts = parts; image = image; plans = plans; sides = sides })

        pub desk_planned : IsWriterDesk a tag Two first new writer failed
        desk_planned = record {
          begun = writes.begun;
          unknown_first = writes.unknown_first;
          honest = same_honest old.journal new.journal sides writes.honest;
          keeps = subst (λ (b : Bool). keeping.WritesUnlessFailed a tag Two b records (length writer.stored) new) (sym going) both_live.1;
        }

        -- the half that works spells records in the second version then
        pub desk_spelled : IsTableDesk a tag Two first (spelling_anew table) seat
        desk_spelled =
            let count = all_count in
            record {
              begun = desk.begun;
              waits = ap (in_version Two) none_waits
                  ∙ sym (drop_all seat.handed (records_in first seat.sealed) (omega (arith, count, handed)));
              run = λ _. subst (WorksOnRun a tag Two (spelling_anew table)) (sym all_handed) both_live.0;
            }

  -- ---- it plans none
  pub desk_unplanned : TwoDisksKeep (slots_of a) → (failed : Bool) → failed ≡ false → sides_of new.journal ≡ sides_of old.journal → KeepsWriting old new
      → IsQuiet old.journal new.journal → IsWriterDesk a tag version first old writer failed → IsWriterDesk a tag version first new writer failed
  desk_unplanned keep failed going sides keeps quiet writes = record {
    begun = writes.begun;
    unknown_first = writes.unknown_first;
    honest = same_honest old.journal new.journal sides writes.honest;
    keeps = subst (λ (b : Bool). keeping.WritesUnlessFailed a tag version b (records_in first writer.taken) (length writer.stored) new) (sym going)
        (stays_live a tag version keep (records_in first writer.taken) (length writer.stored) old new
        (subst (λ (b : Bool). keeping.WritesUnlessFailed a tag version b (records_in first writer.taken) (length writer.stored) old) going writes.keeps) keeps quiet);
  }
