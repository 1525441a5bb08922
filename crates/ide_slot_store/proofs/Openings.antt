-- A store on two disks that was opened is at work on each world whose disks these were.
use Rattle.std.proofs.Common.{◌≡◌, ◌∙◌, ℕ, None, List, [], length, map, take, refl, ap, sym, subst, arith}
use Rattle.std.specs.List.{filter}
use Rattle.std.proofs.lemmas.List.{drop_all, take_all}
use Rattle.ide_batch.specs.Fold.{ProgramImage}
use Rattle.ide_disk.specs.Disk.{DiskState}
use Rattle.ide_disk.specs.declared.disk.Disk.{Ghosts}
use Rattle.ide_journal.specs.Format.{Entry, head_of}
use Rattle.ide_journal.specs.Lists.{entry_of}
use Rattle.ide_journal.specs.declared.version.Version.{Version}
use Rattle.ide_journal.specs.declared.version.Version.TheVariants.{Two}
use Rattle.ide_slot_journal.specs.Opened.{states_of}
use Rattle.ide_slot_journal.specs.Stages.{checkpoint_at}
use Rattle.ide_slot_journal.specs.Stands.{checkpoint_of, disks_of, filling_of, records_stored, slot_writer}
use Rattle.ide_slot_journal.specs.declared.stage.FillStage.{FillStage}
use Rattle.ide_slot_journal.specs.declared.stage.FillStage.TheVariants as fills
use Rattle.ide_slots.specs.Records.{all_numbered}
use Rattle.ide_slots.specs.Sides.{Sides}
use Rattle.ide_slots.specs.Slot.{NumberedEntry, Slot, first_slot, records_of}
use Rattle.ide_slots.specs.Two.{SlotWriter, reads_two}
use Rattle.ide_slots.specs.TwoCalls.{OpensTwo}
use Rattle.ide_slots.specs.declared.record.NumberedRecord.{NumberedRecord}
use Rattle.ide_theory.specs.Images.{loaded}
use Rattle.ide_store.specs.Hands.{Happens}
use Rattle.ide_store.specs.Opening.{BeginsOn, GoesOnFrom, HaveFold}
use Rattle.ide_store.specs.Places.{OnTwoDisks, Place}
use Rattle.ide_store.specs.Recovery.{PlaceAnswers}
use Rattle.ide_store.specs.Table.{Analysis, IsReached, MayDo, StoreWorld, TableData, after_act, forms_of, rules_at}
use Rattle.ide_store.specs.TwoDisks.{GiveTheSame, HasPlan, HoldsTwo, commands_of, is_command, sealing_version, unnumbered, version_with}
use Rattle.ide_store.specs.Versioned.{VersionedEntry, in_version, plain}
use Rattle.ide_store.specs.World.{Opens, contents}
use Rattle.ide_slots.proofs.Openings.{openings_find}
use Rattle.ide_store.proofs.Openings.{leads_there}
use Rattle.ide_store.proofs.Runs.{sound}
use Rattle.ide_store.proofs.TwoDisksPlans.{slots_give_back}
use Rattle.ide_slot_store.specs.Batches.{batches_of}
use Rattle.ide_slot_store.specs.Engine.{AreAtWork, AreNewHalves}
use Rattle.ide_slot_store.specs.Half.{IsNewHalf, OpensStore, Writes}
use Rattle.ide_slot_store.specs.Openings.{SlotHalvesOpen}
use Rattle.ide_slot_store.specs.Writing.{JournalsWriteTwo, StandsBehindTwo}
use Rattle.ide_slot_store.specs.declared.writer.SlotWriterHalf.{SlotWriterHalf}
use Rattle.ide_slot_store.proofs.Kept.{slot_commands}
use Rattle.ide_slot_store.proofs.Leads.{lead_from, lead_to}

module _ {F L : Type 0} (a : Analysis F L) {D : Type 0} {G : Ghosts D} (tag : ℕ) (first second : D) (writer : SlotWriterHalf D G)
    (found : List NumberedRecord) (opens : OpensStore tag first second writer found) (law : JournalsWriteTwo G (rules_at a (OnTwoDisks tag))) where
  -- the disks as they were
  abbrev before : Sides DiskState
  before = states_of G first second

  -- what stands in the slot, without numbers
  abbrev entries : List Entry
  entries = map unnumbered (all_numbered found)

  -- no checkpoint is begun, so that any slot does for it
  abbrev other : Slot
  other = first_slot (head_of Two tag) []

  module _ (records : List VersionedEntry) (holds : HoldsTwo (rules_at a (OnTwoDisks tag)) tag records (reads_two before)) where
    -- the opening, the journal behind whatever records the disks hold, and that these give the same image
    abbrev then : OpensTwo before (slot_writer other writer.journal) (disks_of writer.journal)
        × StandsBehindTwo (rules_at a (OnTwoDisks tag)) tag other records (length records) writer.journal
        × GiveTheSame (rules_at a (OnTwoDisks tag)) (in_version writer.journal.version entries) records
    then = (law.begins tag other).opens first second writer.journal found records opens.opens holds

    -- as many as the journal counts
    counts : length records ≡ records_stored writer.journal
    counts = sym (then.1.behind.stands.count ∙ then.1.behind.count)

    -- the commands that were found are those among them
    commands_found : all_numbered writer.commands.items ≡ commands_of records
    commands_found =
        let finds = openings_find.opened holds.slot before holds.shows (slot_writer other writer.journal) (disks_of writer.journal) (opens.opens.opens other) in
        let same : opens.opens.slot ≡ holds.slot = sym (opens.opens.is other) ∙ finds.found in
        opens.commands ∙ ap (λ (rs : List NumberedEntry). filter is_command rs) (sym opens.opens.records ∙ ap records_of same)
        ∙ slot_commands holds.slot holds.shows.holds.whole.proper
        ∙ sym ((slots_give_back (rules_at a (OnTwoDisks tag))).commands records holds.slot holds.list)

    -- the writer writes them
    writes_found : (stored : ℕ) → length records ≡ stored → Writes then.1.slot other records stored writer
    writes_found stored is = subst (λ (n : ℕ). Writes then.1.slot other records n writer) is (record {
      behind = then.1.behind;
      waiting = ap (map entry_of) opens.none ∙ ap (map plain) (sym (drop_all (length records) records (omega arith)));
      commands = commands_found ∙ ap commands_of (sym (take_all (length records) records (omega arith)));
    })

    -- the batches give back what they do
    alike : GiveTheSame (rules_at a (OnTwoDisks tag)) (in_version writer.journal.version (batches_of found)) records
    alike image = (
      λ folds. (then.2 image).0 (lead_from a.functions a.same (forms_of a) writer.journal.version entries (loaded None) image folds),
      λ folds. lead_to a.functions a.same (forms_of a) writer.journal.version entries (loaded None) image ((then.2 image).1 folds),
    )

  module _ (answers : (place : Place) → PlaceAnswers a place) (fold : HaveFold a writer.journal.version (batches_of found)) (table : TableData F)
      (goes : GoesOnFrom a (batches_of found) table) (version : table.version ≡ writer.journal.version) (sealed : table.sealed ≡ records_stored writer.journal)
      (w : StoreWorld a (OnTwoDisks tag)) (reached : IsReached a (OnTwoDisks tag) w) (on : w.world.disks ≡ before) where
    -- the disks hold some records
    abbrev records : List VersionedEntry
    records = (sound a answers (OnTwoDisks tag) w reached).recovers.opens.0

    held : HoldsTwo (rules_at a (OnTwoDisks tag)) tag records (reads_two before)
    held = subst (λ (d : Sides DiskState). HoldsTwo (rules_at a (OnTwoDisks tag)) tag records (reads_two d)) on
        (sound a answers (OnTwoDisks tag) w reached).recovers.opens.4.0

    abbrev work : SlotWriter
    work = slot_writer other writer.journal

    abbrev after : Sides DiskState
    after = disks_of writer.journal

    -- the opening may happen
    may : MayDo a (OnTwoDisks tag) w (Happens (Opens records fold.image work after))
    may = (
      tt,
      (
        subst (λ (d : Sides DiskState). HoldsTwo (rules_at a (OnTwoDisks tag)) tag records (reads_two d)) (sym on) held,
        (alike records held fold.image).0 (leads_there a (OnTwoDisks tag) (in_version writer.journal.version (batches_of found)) (loaded None) fold.image fold.folded),
        subst (λ (d : Sides DiskState). OpensTwo d work after) (sym on) (then records held).0,
      ),
    )

    opened : (found : List VersionedEntry) × (image : ProgramImage F) × (work : SlotWriter)
        × (let act = Happens (Opens found image work after) in
        MayDo a (OnTwoDisks tag) w act × AreAtWork a tag (after_act a (OnTwoDisks tag) w act) table writer)
    opened =
        let same : GiveTheSame (rules_at a (OnTwoDisks tag)) (in_version table.version (batches_of found)) records =
        subst (λ (v : Version). GiveTheSame (rules_at a (OnTwoDisks tag)) (in_version v (batches_of found)) records) (sym version) (alike records held) in
        let seals : table.version ≡ sealing_version work = version ∙ sym (ap sealing_version (opens.opens.opens other).work_is
        ∙ sym (ap (λ (w : SlotWriter). w.version) (opens.opens.opens other).work_is)) in
        let done = goes (OnTwoDisks tag) w reached records (counts records held ∙ sym sealed) same fold.image work after seals may in
        let handed : List VersionedEntry = contents (take (length records) w.world.sealed) in
        let holds : HoldsTwo (rules_at a (OnTwoDisks tag)) tag handed (reads_two before) =
        subst (λ (d : Sides DiskState). HoldsTwo (rules_at a (OnTwoDisks tag)) tag handed (reads_two d)) on done.0 in (
          records,
          fold.image,
          work,
          (
            may,
            record {
              handed = handed;
              works = done.1;
              slot = (then handed holds).1.slot;
              other = other;
              writes = writes_found handed holds (length records) (counts handed holds ∙ sym (counts records held));
              tag_is = (then handed holds).1.tag_is;
              work = refl;
              disks = refl;
            },
          ),
        )

pub slot_halves_open : {F L : Type 0} (a : Analysis F L) {D : Type 0} (G : Ghosts D) → ((place : Place) → PlaceAnswers a place)
    → ((tag : ℕ) → JournalsWriteTwo G (rules_at a (OnTwoDisks tag))) → SlotHalvesOpen a G
slot_halves_open a G answers law tag first second writer found table opens fold goes version sealed w reached on =
    opened a tag first second writer found opens (law tag) answers fold table goes version sealed w reached on

-- ---- a new store
module _ {F L : Type 0} (a : Analysis F L) {D : Type 0} {G : Ghosts D} (tag : ℕ) (writer : SlotWriterHalf D G) (new : IsNewHalf tag writer) where
  abbrev bare : Slot
  bare = first_slot (head_of Two tag) []

  -- no checkpoint is begun
  no_checkpoint : HasPlan (rules_at a (OnTwoDisks tag)) [] (checkpoint_of bare writer.journal.filler)
  no_checkpoint = by writer.journal.filler.stage refl
    where
      by : (stage : FillStage) → writer.journal.filler.stage ≡ stage
          → HasPlan (rules_at a (OnTwoDisks tag)) [] (checkpoint_at stage bare (filling_of writer.journal.filler))
      by fills.Rests is = tt
      by fills.Waits is = absurd (new.rests (λ rests. let no = sym is ∙ rests in cc (no)))
      by fills.Settles is = absurd (new.rests (λ rests. let no = sym is ∙ rests in cc (no)))
      by fills.Trims is = absurd (new.rests (λ rests. let no = sym is ∙ rests in cc (no)))
      by fills.Heads is = absurd (new.rests (λ rests. let no = sym is ∙ rests in cc (no)))
      by fills.Fills is = absurd (new.rests (λ rests. let no = sym is ∙ rests in cc (no)))
      by fills.OpensGate is = absurd (new.rests (λ rests. let no = sym is ∙ rests in cc (no)))
      by fills.Lasts is = absurd (new.rests (λ rests. let no = sym is ∙ rests in cc (no)))

  -- the journal stands behind no record
  behind_none : StandsBehindTwo (rules_at a (OnTwoDisks tag)) tag bare [] 0 writer.journal
  behind_none = record {
    slot = bare;
    behind = (new.writes bare).behind;
    tag_is = refl;
    list = record { within = omega arith; commands = refl; image = λ image. (λ folds. folds, λ folds. folds); rest = refl };
    plan = no_checkpoint;
  }

  -- records are sealed in the second version
  sealed_in_two : sealing_version (slot_writer bare writer.journal) ≡ Two
  sealed_in_two = by writer.journal.filler.stage refl
    where
      by : (stage : FillStage) → writer.journal.filler.stage ≡ stage
          → version_with writer.journal.version (checkpoint_at stage bare (filling_of writer.journal.filler)) ≡ Two
      by fills.Rests is = (new.writes bare).behind.stands.version
      by fills.Waits is = refl
      by fills.Settles is = refl
      by fills.Trims is = refl
      by fills.Heads is = refl
      by fills.Fills is = refl
      by fills.OpensGate is = refl
      by fills.Lasts is = refl

  pub new_halves : (table : TableData F) → JournalsWriteTwo G (rules_at a (OnTwoDisks tag)) → BeginsOn a table → table.version ≡ Two
      → AreNewHalves a tag table writer
  new_halves table law begins version = record {
    work = slot_writer bare writer.journal;
    live = (law.writes tag bare [] 0).live writer.journal behind_none;
    at_work = record {
      handed = [];
      works = begins (OnTwoDisks tag) _ _ (version ∙ sym sealed_in_two);
      slot = bare;
      other = bare;
      writes = new.writes bare;
      tag_is = refl;
      work = refl;
      disks = refl;
    };
  }
