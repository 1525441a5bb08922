-- What asking an engine on two disks for a checkpoint comes to.
use Rattle.std.proofs.Common.{◌≡◌, ◌∙◌, ◌++◌, ◌≤◌, ℕ, Bool, true, false, List, [], Option, Some, None, Result, Ok, Err, map, refl, ap, sym, subst}
use Rattle.std.specs.List.{All}
use Rattle.std.specs.Prelude.{IfErr, IfOk, IfSome, OnErr, OnOk}
use Rattle.std.proofs.lemmas.List.{append-nil}
use Rattle.ide_batch.specs.Applied.{IsGraphed}
use Rattle.ide_batch.specs.Fold.{ProgramImage}
use Rattle.ide_disk.specs.declared.disk.Disk.{Ghosts}
use Rattle.ide_journal.specs.Format.{Entry, IsEntry}
use Rattle.ide_journal.specs.Lists.{entries_of, entry_of}
use Rattle.ide_journal.specs.declared.version.Version.TheVariants.{Two}
use Rattle.ide_slot_journal.specs.Stands.{disks_of, sides_of, slot_writer}
use Rattle.ide_slot_journal.specs.declared.journal.SlotJournal.{SlotJournal}
use Rattle.ide_slots.specs.Records.{all_numbered}
use Rattle.ide_slots.specs.Sides.{two_sides}
use Rattle.ide_text.specs.Value.{ProgramValue}
use Rattle.ide_wire.specs.declared.refused.Refused.{Refused}
use Rattle.ide_wire.specs.declared.refused.Refused.TheVariants.{NoMemory}
use Rattle.ide_store.specs.Handing.{HandsAll}
use Rattle.ide_store.specs.Places.{OnTwoDisks}
use Rattle.ide_store.specs.Table.{Analysis, IsReached, IsSameTable, MayDoAll, TableData, WorksOn, after_acts}
use Rattle.ide_store.specs.TableCalls.{FindsNothing, SealsBatch}
use Rattle.ide_store.specs.TwoDisks.{commands_of, unnumbered}
use Rattle.ide_store.specs.TwoDisksLaws.{slots_of}
use Rattle.ide_store.specs.Versioned.{VersionedEntry, in_version}
use Rattle.ide_store.specs.World.{IsFolded, contents}
use Rattle.ide_store.specs.declared.outbox.Ticket.{Ticket}
use Rattle.ide_store.proofs.Acts.{reached_more}
use Rattle.ide_store.proofs.Drained.{works_same}
use Rattle.ide_slot_store.specs.Asking.{AsksEngine, ComesTo, DidBegin, DidPlan, DidSeal, IsCheckpointStop, IsImageStop, IsSealAllStop, IsWorthACheckpoint, PlansEngine, PlansTo, SealsEngine, begins, did_not, did_plan, had_no_program, is_refused, no_image, no_plan, no_program, no_queue, sealing}
use Rattle.ide_slot_store.specs.Checkpoint.{CheckpointsBegin, PlansImage, spelling_anew}
use Rattle.ide_slot_store.specs.Engine.{AreAtWork, SlotWorld}
use Rattle.ide_slot_store.specs.Half.{HasNoCommand, IsPlanAllRefusal, IsQuiet, KeepsWriting, PlansAllOver}
use Rattle.ide_slot_store.specs.Parts.{AreImageParts}
use Rattle.ide_slot_store.specs.Writing.{StandsBehind}
use Rattle.ide_slot_store.specs.declared.engine.SlotEngine.{SlotEngine}
use Rattle.ide_slot_store.specs.declared.writer.SlotWriterHalf.{SlotWriterHalf}
use Rattle.ide_slot_store.proofs.ImageParts.{commands_stay_below}
use Rattle.ide_slot_store.proofs.Stepping.{all_handed_at_work}

module _ {F L : Type 0} (a : Analysis F L) {D : Type 0} {G : Ghosts D} (tag : ℕ) where
  -- ---- the halves stay at work
  module _ (w : SlotWorld a tag) where
    -- the one that works does, and the writer stands where it did
    still_at_work : (old new : TableData F) (before after : SlotWriterHalf D G) (at : AreAtWork a tag w old before)
        → WorksOn a (OnTwoDisks tag) w new at.handed → KeepsWriting before after
        → ((other : _) → slot_writer other after.journal ≡ slot_writer other before.journal) → disks_of after.journal ≡ disks_of before.journal
        → AreAtWork a tag w new after
    still_at_work old new before after at works keeps work disks = record {
      handed = at.handed;
      works = works;
      slot = at.slot;
      other = at.other;
      writes = keeps at.slot at.other at.handed w.world.stored at.writes;
      tag_is = at.tag_is;
      work = at.work ∙ sym (work at.other);
      disks = at.disks ∙ sym disks;
    }

    -- nothing was sealed
    pub unsealed : (table : TableData F) (writer : SlotWriterHalf D G) → AreAtWork a tag w table writer → DidSeal a tag w table writer
    unsealed table writer at = record { batch = None; can = tt; at_work = at }

    -- what changed was sealed, if anything did
    pub sealed_or_not : (result : Result (Option Ticket) Refused) (old new : TableData F) (writer : SlotWriterHalf D G)
        → IfOk result (λ sealed. IfSome sealed (λ ticket. SealsBatch a old new ticket.number)) → (result ≡ Ok None → FindsNothing a old new)
        → OnErr result (IsSameTable old new) → IsReached a (OnTwoDisks tag) w → AreAtWork a tag w old writer → DidSeal a tag w new writer
    sealed_or_not (Ok (Some ticket)) old new writer seals nothing same reached at =
        let did = seals.act (OnTwoDisks tag) w at.handed reached at.works in
        record {
          batch = Some (old.version, seals.entry);
          can = (did.0, tt);
          at_work = record {
            handed = at.handed;
            works = did.1;
            slot = at.slot;
            other = at.other;
            writes = at.writes;
            tag_is = at.tag_is;
            work = at.work;
            disks = at.disks;
          };
        }
    sealed_or_not (Ok None) old new writer seals nothing same reached at =
        let works = ((nothing refl).caught_up (OnTwoDisks tag) w at.handed reached at.works).1 in
        unsealed new writer (still_at_work old new writer writer at works (λ slot other records stored writes. writes) (λ other. refl) refl)
    sealed_or_not (Err refused) old new writer seals nothing same reached at =
        let works = works_same a old new same.rest same.core (OnTwoDisks tag) w at.handed reached at.works in
        unsealed new writer (still_at_work old new writer writer at works (λ slot other records stored writes. writes) (λ other. refl) refl)

  -- a half that has the same journal, the same records that wait and the same commands writes the same records
  keeps_same : (before after : SlotWriterHalf D G) → after.journal ≡ before.journal → after.waiting.items ≡ before.waiting.items
      → after.commands.items ≡ before.commands.items → KeepsWriting before after
  keeps_same before after journal waiting commands slot other records stored writes = record {
    behind = subst (λ (j : SlotJournal D G). StandsBehind slot other records stored j) (sym journal) writes.behind;
    waiting = ap (map entry_of) waiting ∙ writes.waiting;
    commands = ap all_numbered commands ∙ writes.commands;
  }

  -- what was sealed is handed over, or the writer's queue wants memory
  pub handed_or_not : (w : SlotWorld a tag) (result : Result Unit Refused) (mid new : TableData F) (before after : SlotWriterHalf D G)
      → OnOk result (HandsAll mid new before.waiting.items after.waiting.items) → OnErr result (IsSameTable mid new)
      → OnErr result (after.waiting.items ≡ before.waiting.items) → after.journal ≡ before.journal
      → after.commands.items ≡ before.commands.items → mid.sealed ≤ 4294967295 → All IsEntry (entries_of after.waiting.items)
      → IsReached a (OnTwoDisks tag) w → DidSeal a tag w mid before → DidSeal a tag w new after
  handed_or_not w (Ok done) mid new before after hands same queue journal commands few proper reached did = record {
    batch = did.batch;
    can = did.can;
    at_work =
        all_handed_at_work a tag (after_acts a (OnTwoDisks tag) w (sealing a tag did.batch)) mid new before after did.at_work journal commands few proper
        hands;
  }
  handed_or_not w (Err refused) mid new before after hands same queue journal commands few proper reached did =
      let acts = sealing a tag did.batch in
      let then = after_acts a (OnTwoDisks tag) w acts in
      let at = did.at_work in
      let on = works_same a mid new same.rest same.core (OnTwoDisks tag) then at.handed (reached_more a (OnTwoDisks tag) w acts reached did.can) at.works in
      record {
        batch = did.batch;
        can = did.can;
        at_work =
            still_at_work then mid new before after at on (keeps_same before after journal queue commands)
            (λ other. ap (slot_writer other) journal) (ap disks_of journal);
      }

module _ {F L : Type 0} (a : Analysis F L) {D : Type 0} {G : Ghosts D} (tag : ℕ) where
  -- ---- a checkpoint is planned
  module _ (law : CheckpointsBegin a G) (w : SlotWorld a tag) (table : TableData F) (parts : List Entry) (old new : SlotWriterHalf D G)
      (handed : table.waiting ≡ []) (still : table.core.changes ≡ Some []) (image : AreImageParts a table parts)
      (sides : sides_of new.journal ≡ sides_of old.journal) (at : AreAtWork a tag w table old) where
    abbrev all_handed : contents w.world.sealed ≡ at.handed
    all_handed = at.works.waits ∙ ap (λ (more : List Entry). at.handed ++ in_version table.version more) handed ∙ append-nil at.handed

    -- where there is no command, no program is loaded
    no_graph : HasNoCommand old → table.core.graph ≡ None
    no_graph has =
        let none : commands_of at.handed ≡ [] = has at.slot at.other at.handed w.world.stored at.writes in
        let folded : IsFolded (slots_of a) at.handed at.works.base.image =
        subst (λ (rs : List VersionedEntry). IsFolded (slots_of a) rs at.works.base.image) all_handed at.works.base.folded in
        let below = commands_stay_below a at.handed at.works.base.image folded in
        let nothing : IsFolded (slots_of a) [] below.0 = subst (λ (rs : List _). IsFolded (slots_of a) (in_version Two (map unnumbered rs)) below.0) none below.1 in
        let program : None ≡ table.core.program =
        ap (λ (i : ProgramImage F). i.program) nothing ∙ below.2.program ∙ at.works.base.program ∙ at.works.image.program in
        graphless table.core.program program at.works.image.graphed
      where
        graphless : (program : Option ProgramValue) → None ≡ program → IsGraphed program table.core.graph → table.core.graph ≡ None
        graphless None is graphed = graphed
        graphless (Some v) is graphed = cc (is)

    quietly : KeepsWriting old new → IsQuiet old.journal new.journal → AreAtWork a tag w table new
    quietly keeps quiet =
        still_at_work a tag w table table old new at at.works keeps quiet.work
        (λ i. two_sides (quiet.side i) (G.state (quiet.current i)) (G.state (quiet.other i)))

    -- the half that works spells records in the second version, where a checkpoint is planned
    pub plan_comes_to : (result : Result Bool Refused) (new_table : TableData F) → (result ≡ Ok true → new_table ≡ spelling_anew table)
        → ((result ≡ Ok true → ⊥) → new_table ≡ table) → (result ≡ Ok true → PlansAllOver parts old new) → (result ≡ Ok false → HasNoCommand old)
        → ((result ≡ Ok true → ⊥) → KeepsWriting old new) → ((result ≡ Ok true → ⊥) → IsQuiet old.journal new.journal)
        → PlansTo a tag w new_table new result
    plan_comes_to (Ok true) new_table anew same planned none keeps quiet =
        let plan : PlansImage a table old new =
        record { handed = handed; still = still; parts = parts; image = image; plans = planned refl; sides = sides } in
        let begun = law tag w table old new at plan in
        subst (λ (t : TableData F). PlansTo a tag w t new (Ok true)) (sym (anew refl))
        (did_plan (record { work = begun.0; can = begun.1.0; at_work = begun.1.1 }))
    plan_comes_to (Ok false) new_table anew same planned none keeps quiet =
        subst (λ (t : TableData F). PlansTo a tag w t new (Ok false)) (sym (same (λ no. cc (no))))
        (had_no_program (no_graph (none refl)) (quietly (keeps (λ no. cc (no))) (quiet (λ no. cc (no)))))
    plan_comes_to (Err refused) new_table anew same planned none keeps quiet =
        subst (λ (t : TableData F). PlansTo a tag w t new (Err refused)) (sym (same (λ no. cc (no))))
        (did_not (quietly (keeps (λ no. cc (no))) (quiet (λ no. cc (no)))))

  -- ---- a checkpoint that is planned behind what was sealed
  begun_behind : (w : SlotWorld a tag) (table : TableData F) (writer : SlotWriterHalf D G) (batch : Option VersionedEntry)
      → MayDoAll a (OnTwoDisks tag) w (sealing a tag batch)
      → DidPlan a tag (after_acts a (OnTwoDisks tag) w (sealing a tag batch)) table writer → DidBegin a tag w table writer
  begun_behind w table writer None can plan = record { batch = None; work = plan.work; can = plan.can; at_work = plan.at_work }
  begun_behind w table writer (Some batch) can plan =
      record { batch = Some batch; work = plan.work; can = (can.0, plan.can); at_work = plan.at_work }

  pub comes_to : (w : SlotWorld a tag) (mid new : TableData F) (old between after : SlotWriterHalf D G) (result : Result Bool Refused)
      (did : DidSeal a tag w mid between)
      → PlansTo a tag (after_acts a (OnTwoDisks tag) w (sealing a tag did.batch)) new after result → ComesTo a tag w new after old result
  comes_to w mid new old between after _ did (did_plan plan) = begins (begun_behind w new after did.batch did.can plan)
  comes_to w mid new old between after _ did (had_no_program none at) =
      no_program none (record { batch = did.batch; can = did.can; at_work = at })
  comes_to w mid new old between after _ did (did_not at) = is_refused (record { batch = did.batch; can = did.can; at_work = at })

-- over the same journal a checkpoint would change the same
pub not_worth : {D : Type 0} {G : Ghosts D} (old mid : SlotJournal D G) (sealed : ℕ) → mid ≡ old → (IsWorthACheckpoint mid sealed → ⊥)
    → IsWorthACheckpoint old sealed → ⊥
not_worth {G = G} old mid sealed journal unworthy worth =
    unworthy (subst (λ (j : SlotJournal _ G). IsWorthACheckpoint j sealed) (sym journal) worth)

module _ {F L : Type 0} (a : Analysis F L) {P D : Type 0} {G : Ghosts D} where
  -- what is planned behind what was sealed is what the engine was asked for
  pub asked_behind : (old mid new : SlotEngine P D L F G) (result : Result Bool Refused) → SealsEngine a old mid → PlansEngine a mid new result
      → AsksEngine a old new result
  asked_behind old mid new result seals plans tag w reached at =
      let did = seals tag w reached at in
      let acts = sealing a tag did.batch in
      comes_to a tag w mid.table new.table old.writer mid.writer new.writer result did
      (plans tag (after_acts a (OnTwoDisks tag) w acts) (reached_more a (OnTwoDisks tag) w acts reached did.can) did.at_work)

  -- ---- why it is refused
  pub queue_stop : (old : SlotEngine P D L F G) (result : Result Unit Refused) → IfErr result (λ e. e ≡ NoMemory) → IfErr result (IsSealAllStop a old)
  queue_stop old (Ok done) is = tt
  queue_stop old (Err e) is = subst (λ (r : Refused). IsSealAllStop a old r) (sym is) no_queue

  pub plan_stop : (old : SlotEngine P D L F G) (result : Result Bool Refused) → IfErr result (IsPlanAllRefusal old.writer) → IfErr result (IsImageStop a old)
  plan_stop old (Ok planned) stop = tt
  plan_stop old (Err e) stop = no_plan stop

  pub image_stop : (old mid new : SlotEngine P D L F G) (result : Result Bool Refused) → SealsEngine a old mid → OnErr result (new.table ≡ mid.table)
      → mid.writer.journal ≡ old.writer.journal → IfErr result (IsImageStop a mid) → IfErr result (IsCheckpointStop a old new)
  image_stop old mid new (Ok planned) seals table journal stop = tt
  image_stop old mid new (Err e) seals table journal stop = no_image mid seals table journal stop
