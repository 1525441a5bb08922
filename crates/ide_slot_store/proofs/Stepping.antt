-- A step of the disks by a store on two disks that works and writes is some events of its world.
use Rattle.std.proofs.Common.{◌≡◌, ◌∙◌, ◌+◌, ◌≤◌, ℕ, Bool, true, false, List, [], ◌∷◌, ◌++◌, Result, Ok, Err, length, map, drop, refl, ap, sym, subst, arith, inl, inr}
use Rattle.std.specs.Result.{result_err}
use Rattle.std.proofs.lemmas.Option.{same_Some}
use Rattle.std.specs.List.{All}
use Rattle.std.proofs.lemmas.List.Elements.{All-cons, All-map, All-nil}
use Rattle.std.proofs.lemmas.List.{append-nil, drop-append-le, drop_all, length-append, length-map, map-append, take-append-le}
use Rattle.ide_disk.specs.Disk.{DiskState}
use Rattle.ide_disk.specs.declared.disk.Disk.{Ghosts}
use Rattle.ide_journal.specs.Format.{Entry, IsEntry}
use Rattle.ide_journal.specs.declared.version.Version.{Version}
use Rattle.ide_journal.specs.Lists.{entries_of, entry_of}
use Rattle.ide_slot_journal.specs.Stands.{AreHonest, disks_of, slot_writer}
use Rattle.ide_slot_journal.specs.declared.journal.SlotJournal.{SlotJournal}
use Rattle.ide_slots.specs.Records.{all_numbered}
use Rattle.ide_slots.specs.Sides.{Sides, two_sides}
use Rattle.ide_slots.specs.Slot.{Slot}
use Rattle.ide_slots.specs.Two.{SlotWriter}
use Rattle.ide_wire.specs.declared.refused.Refused.{Refused}
use Rattle.ide_wire.specs.declared.refused.Refused.TheVariants.{Disk, NoMemory}
use Rattle.ide_store.specs.Handing.{HandsAll, HandsTo, gave, kept}
use Rattle.ide_store.specs.Places.{OnTwoDisks}
use Rattle.ide_store.specs.Table.{Analysis, TableData, WorksOn}
use Rattle.ide_store.specs.TwoDisks.{AtCheckpoint, AtRecord, BeginsCalls, CallsTwo, FailsTwo, ForRecord, InCheckpoint, IsNextBehind, LastInCheckpoint, StoresTwo, commands_of, sealing_version, version_with}
use Rattle.ide_store.specs.Versioned.{IsIn, IsPlainEntry, VersionedEntry, in_version, plain}
use Rattle.ide_store.specs.World as world
use Rattle.ide_store.specs.World.{contents}
use Rattle.ide_store.proofs.OneVersion.{plain_again}
use Rattle.ide_store.proofs.Stepping.{works_after}
use Rattle.ide_store.proofs.TwoDisks.{all_in}
use Rattle.ide_store.proofs.Waiting.{more_get, none_mapped}
use Rattle.ide_slot_store.specs.Engine.{AreAtWork, DidCalls, DidFail as FailedThen, IsGoodCall, SlotWorld, StepsDisks, StepsDisksOver, all_stored, did_call, did_fail, no_memory}
use Rattle.ide_slot_store.specs.Half.{HasCalled, HasRested, HasStored, HasWaited, StepsOver, StepsTo, Writes, calls, fails, makes, rests, stores, waits}
use Rattle.ide_slot_store.specs.Writing.{BeginsFirst, DidCall, DidFail, StandsBehind}
use Rattle.ide_slot_store.specs.declared.writer.SlotWriterHalf.{SlotWriterHalf}
use Rattle.ide_slot_store.proofs.Half.{all_behind, more_behind}

-- ---- calls over the records that were handed over are calls over all of them
module _ (handed more : List VersionedEntry) (stored : ℕ) where
  next_over : (version : Version) (slot : Slot) (entry : Entry) → IsNextBehind handed stored version slot entry
      → IsNextBehind (handed ++ more) stored version slot entry
  next_over version slot entry next = record { count = next.count; next_is = more_get handed more (version, entry) stored next.next_is }

  pub calls_over : (work new : SlotWriter) (disks after : Sides DiskState) → CallsTwo handed stored work disks new after
      → CallsTwo (handed ++ more) stored work disks new after
  calls_over work new disks after (ForRecord slot entry next call) = ForRecord slot entry (next_over work.version slot entry next) call
  calls_over work new disks after (BeginsCalls slot count begins same) = BeginsCalls slot count begins same
  calls_over work new disks after (InCheckpoint call) = InCheckpoint call
  calls_over work new disks after (LastInCheckpoint next ends) = LastInCheckpoint next ends

  stores_over : (work new : SlotWriter) (disks after : Sides DiskState) → StoresTwo handed stored work disks new after
      → StoresTwo (handed ++ more) stored work disks new after
  stores_over work new disks after call = record {
    slot = call.slot;
    entry = call.entry;
    next = next_over work.version call.slot call.entry call.next;
    stores = call.stores;
  }

  pub fails_over : (work : SlotWriter) (disks after : Sides DiskState) → FailsTwo handed stored work disks after
      → FailsTwo (handed ++ more) stored work disks after
  fails_over work disks after (AtRecord slot entry next failed) = AtRecord slot entry (next_over work.version slot entry next) failed
  fails_over work disks after (AtCheckpoint failed) = AtCheckpoint failed

-- no call changes the version in which records are sealed
seals_alike_two : (records : List VersionedEntry) (stored : ℕ) (work new : SlotWriter) (disks after : Sides DiskState)
    → CallsTwo records stored work disks new after → sealing_version new ≡ sealing_version work
seals_alike_two records stored work new disks after (ForRecord slot entry next call) = ap sealing_version call.work_is
seals_alike_two records stored work new disks after (BeginsCalls slot count begins same) =
    ap sealing_version begins.work_is ∙ ap (version_with work.version) (sym begins.planned)
seals_alike_two records stored work new disks after (InCheckpoint call) =
    ap sealing_version call.work_is ∙ ap (version_with work.version) (sym call.under_way)
seals_alike_two records stored work new disks after (LastInCheckpoint next ends) =
    ap sealing_version ends.work_is ∙ ap (version_with work.version) (sym ends.under_way)

pub did_seal_alike : {D : Type 0} {G : Ghosts D} (other : Slot) (records : List VersionedEntry) (stored : ℕ) (old new : SlotJournal D G)
    → DidCall other records stored old new → sealing_version (slot_writer other new) ≡ sealing_version (slot_writer other old)
did_seal_alike other records stored old new did =
    seals_alike_two records stored did.mid (slot_writer other new) (disks_of old) (disks_of new) did.event ∙ by did.first
  where
    by : BeginsFirst records stored (slot_writer other old) (disks_of old) did.mid → sealing_version did.mid ≡ sealing_version (slot_writer other old)
    by (inl same) = ap sealing_version same
    by (inr begins) = seals_alike_two records stored (slot_writer other old) did.mid (disks_of old) (disks_of old) begins

abbrev pub refuses : Refused → Result Bool Refused
refuses refused = Err refused

pub same_refusal : (one other : Refused) → refuses one ≡ refuses other → one ≡ other
same_refusal one other is = same_Some one other (ap result_err is)

-- the disks are as honest, whoever has the records
pub taken_honest : {D : Type 0} {G : Ghosts D} (old mid : SlotWriterHalf D G) → mid.journal ≡ old.journal → AreHonest old.journal → AreHonest mid.journal
taken_honest old mid same honest = subst AreHonest (sym same) honest

module _ {F L : Type 0} (a : Analysis F L) {D : Type 0} {G : Ghosts D} (tag : ℕ) where
  -- ---- sealed records are handed over
  module _ (w : SlotWorld a tag) (table mid_table : TableData F) (old mid : SlotWriterHalf D G) (at : AreAtWork a tag w table old)
      (journal : mid.journal ≡ old.journal) (commands : mid.commands.items ≡ old.commands.items) (few : table.sealed ≤ 4294967295)
      (proper : All IsEntry (entries_of mid.waiting.items)) where
    abbrev same_work : w.world.work ≡ slot_writer at.other mid.journal
    same_work = at.work ∙ ap (slot_writer at.other) (sym journal)

    abbrev same_disks : w.world.disks ≡ disks_of mid.journal
    same_disks = at.disks ∙ ap disks_of (sym journal)

    -- the half that works seals in the version in which the writer has its records sealed
    abbrev seals_alike : table.version ≡ sealing_version (slot_writer at.other old.journal)
    seals_alike = at.works.version ∙ ap sealing_version at.work

    abbrev left : List VersionedEntry
    left = in_version table.version table.waiting

    pub all_handed_at_work : HandsAll table mid_table old.waiting.items mid.waiting.items → AreAtWork a tag w mid_table mid
    all_handed_at_work hands =
        let handed : List VersionedEntry = at.handed ++ left in
        let before = at.writes.behind in
        let waiting : map entry_of mid.waiting.items ≡ map plain (drop w.world.stored handed) =
        hands.waits ∙ ap (λ (es : List Entry). es ++ table.waiting) at.writes.waiting
        ∙ ap (λ (es : List Entry). map plain (drop w.world.stored at.handed) ++ es) (sym (plain_again table.version table.waiting))
        ∙ sym (map-append plain (drop w.world.stored at.handed) left)
        ∙ ap (map plain) (sym (drop-append-le w.world.stored at.handed left before.some)) in
        let count : length handed ≡ table.sealed =
        sym (ap length at.works.waits) ∙ length-map w.world.sealed (λ s. s.content) ∙ at.works.sealed in
        let longer = length-append at.handed left in
        let plainly : All IsEntry table.waiting =
        all_behind IsEntry (entries_of old.waiting.items) table.waiting (subst (λ (es : List Entry). All IsEntry es) hands.waits proper) in
        record {
          handed = handed;
          works = subst (λ (t : TableData F). WorksOn a (OnTwoDisks tag) w t handed) (sym hands.rest)
              (works_after a (OnTwoDisks tag) w table w.world.stored w.world.work w.world.disks handed [] at.works at.works.version
              (at.works.waits ∙ sym (append-nil handed)));
          slot = at.slot;
          other = at.other;
          writes = record {
            behind = more_behind at.slot at.other at.handed left w.world.stored old.journal mid.journal journal (omega (arith, count, few, longer))
                (All-map IsPlainEntry (λ (entry : Entry). (table.version, entry)) table.waiting plainly)
                (subst (λ (v : Version). All (IsIn v) left) seals_alike (all_in table.version table.waiting)) before;
            waiting = waiting;
            commands = ap all_numbered commands ∙ at.writes.commands ∙ ap commands_of (sym (take-append-le w.world.stored at.handed left before.some));
          };
          tag_is = at.tag_is;
          work = same_work;
          disks = same_disks;
        }

    pub handed_at_work : HandsTo table mid_table old.waiting.items mid.waiting.items → AreAtWork a tag w mid_table mid
    handed_at_work (kept some items same) = record {
      handed = at.handed;
      works = subst (λ (t : TableData F). WorksOn a (OnTwoDisks tag) w t at.handed) (sym same) at.works;
      slot = at.slot;
      other = at.other;
      writes = record {
        behind = subst (λ (j : SlotJournal D G). StandsBehind at.slot at.other at.handed w.world.stored j) (sym journal) at.writes.behind;
        waiting = ap (map entry_of) items ∙ at.writes.waiting;
        commands = ap all_numbered commands ∙ at.writes.commands;
      };
      tag_is = at.tag_is;
      work = same_work;
      disks = same_disks;
    }
    handed_at_work (gave none took same) =
        all_handed_at_work (record { waits = took ∙ ap (λ (rs : List _). entries_of rs ++ table.waiting) (sym none); rest = same })

  -- ---- what the writer did is what happens to the store
  module _ (w : SlotWorld a tag) (table : TableData F) (old new : SlotWriterHalf D G) (at : AreAtWork a tag w table old) where
    abbrev split : contents w.world.sealed ≡ at.handed ++ in_version table.version table.waiting
    split = at.works.waits

    abbrev sealed_left : List VersionedEntry
    sealed_left = in_version table.version table.waiting

    abbrev new_work : SlotWriter
    new_work = slot_writer at.other new.journal

    abbrev new_disks : Sides DiskState
    new_disks = disks_of new.journal

    -- the halves are at work on the world of which so many records are stored
    at_work_on : (slot : Slot) (stored : ℕ) → slot.head.tag ≡ tag → sealing_version new_work ≡ sealing_version (slot_writer at.other old.journal)
        → Writes slot at.other at.handed stored new
        → AreAtWork a tag (record w { world = record w.world { stored = stored; work = new_work; disks = new_disks } }) table new
    at_work_on slot stored tagged seals writes = record {
      handed = at.handed;
      works = works_after a (OnTwoDisks tag) w table stored new_work new_disks at.handed table.waiting at.works
          (at.works.version ∙ ap sealing_version at.work ∙ sym seals) split;
      slot = slot;
      other = at.other;
      writes = writes;
      tag_is = tagged;
      work = refl;
      disks = refl;
    }

    -- a good call, behind the beginning of a checkpoint's calls or not
    called : HasCalled at.slot at.other at.handed w.world.stored old new → DidCalls a tag w table table new
    called one = by one.event.first
      where
        then : AreAtWork a tag (record w { world = record w.world { stored = w.world.stored; work = new_work; disks = new_disks } }) table new
        then = at_work_on one.now w.world.stored (one.tag ∙ at.tag_is) (did_seal_alike at.other at.handed w.world.stored old.journal new.journal one.event) one.writes

        call : CallsTwo (at.handed ++ sealed_left) w.world.stored one.event.mid (disks_of old.journal) new_work new_disks
        call = calls_over at.handed sealed_left w.world.stored one.event.mid new_work (disks_of old.journal) new_disks one.event.event

        by : BeginsFirst at.handed w.world.stored (slot_writer at.other old.journal) (disks_of old.journal) one.event.mid → DidCalls a tag w table table new
        by (inl same) = record {
          events = world.Calls new_work new_disks ∷ [];
          own = All-cons (IsGoodCall a tag) (world.Calls new_work new_disks) [] tt (All-nil (IsGoodCall a tag));
          can = ((tt, (at.works.running, rw (split, at.work ∙ sym same, at.disks) call)), tt);
          at_work = then;
        }
        by (inr begins) =
            let first = calls_over at.handed sealed_left w.world.stored (slot_writer at.other old.journal) one.event.mid (disks_of old.journal) (disks_of old.journal)
            begins in
            record {
              events = world.Calls one.event.mid (disks_of old.journal) ∷ world.Calls new_work new_disks ∷ [];
              own = All-cons (IsGoodCall a tag) (world.Calls one.event.mid (disks_of old.journal)) (world.Calls new_work new_disks ∷ []) tt
                  (All-cons (IsGoodCall a tag) (world.Calls new_work new_disks) [] tt (All-nil (IsGoodCall a tag)));
              can = (
                (tt, (at.works.running, rw (split, at.work, at.disks) first)),
                ((tt, (at.works.running, rw split call)), tt),
              );
              at_work = then;
            }

    -- one that stores a record
    stored_one : HasStored at.slot at.other at.handed w.world.stored old new → DidCalls a tag w table table new
    stored_one one =
        let call = stores_over at.handed sealed_left w.world.stored (slot_writer at.other old.journal) new_work (disks_of old.journal) new_disks one.event in
        record {
          events = world.Stores new_work new_disks ∷ [];
          own = All-cons (IsGoodCall a tag) (world.Stores new_work new_disks) [] tt (All-nil (IsGoodCall a tag));
          can = ((tt, (at.works.running, rw (split, at.work, at.disks) call)), tt);
          at_work = at_work_on _ (w.world.stored + 1) at.tag_is (ap sealing_version one.event.stores.work_is) one.writes;
        }

    -- one that failed
    failed : (new_table : TableData F) → new_table ≡ record table { failed = true }
        → DidFail at.other at.handed w.world.stored old.journal new.journal → FailedThen a tag w table new_table new
    failed new_table is one = by one.first
      where
        then : new_table ≡ record table { waiting = new_table.waiting; failed = true }
        then = is ∙ ap (λ (waiting : List Entry). record table { waiting = waiting; failed = true }) (sym (ap (λ (t : TableData F). t.waiting) is))

        call : FailsTwo (at.handed ++ sealed_left) w.world.stored one.mid (disks_of old.journal) new_disks
        call = fails_over at.handed sealed_left w.world.stored one.mid (disks_of old.journal) new_disks one.event

        by : BeginsFirst at.handed w.world.stored (slot_writer at.other old.journal) (disks_of old.journal) one.mid
            → FailedThen a tag w table new_table new
        by (inl same) = record {
          events = [];
          own = All-nil (IsGoodCall a tag);
          can = ((tt, (at.works.running, rw (split, at.work ∙ sym same, at.disks) call)), tt);
          failed = then;
        }
        by (inr begins) =
            let first = calls_over at.handed sealed_left w.world.stored (slot_writer at.other old.journal) one.mid (disks_of old.journal) (disks_of old.journal)
            begins in
            record {
              events = world.Calls one.mid (disks_of old.journal) ∷ [];
              own = All-cons (IsGoodCall a tag) (world.Calls one.mid (disks_of old.journal)) [] tt (All-nil (IsGoodCall a tag));
              can = (
                (tt, (at.works.running, rw (split, at.work, at.disks) first)),
                ((tt, (at.works.running, rw split call)), tt),
              );
              failed = then;
            }

    -- where no call was made, they are at work as they were
    still : Writes at.slot at.other at.handed w.world.stored new → new_work ≡ slot_writer at.other old.journal → new_disks ≡ disks_of old.journal
        → AreAtWork a tag w table new
    still writes work disks = record {
      handed = at.handed;
      works = at.works;
      slot = at.slot;
      other = at.other;
      writes = writes;
      tag_is = at.tag_is;
      work = at.work ∙ sym work;
      disks = at.disks ∙ sym disks;
    }

    -- where all that were handed over are stored and nothing is left with the half that works, all that were sealed are
    rested : table.waiting ≡ [] → HasRested at.slot at.other at.handed w.world.stored old new → (w.world.stored ≡ length w.world.sealed) × AreAtWork a tag w table new
    rested none one =
        let whole : contents w.world.sealed ≡ at.handed =
        split ∙ ap (λ (xs : List Entry). at.handed ++ in_version table.version xs) none ∙ append-nil at.handed in
        let count : length w.world.sealed ≡ length at.handed = sym (length-map w.world.sealed (λ s. s.content)) ∙ ap length whole in
        let writes : Writes at.slot at.other at.handed w.world.stored new = record {
          behind = subst (λ (j : SlotJournal D G). StandsBehind at.slot at.other at.handed w.world.stored j) (sym one.same.journal) at.writes.behind;
          waiting = ap (map entry_of) one.same.waiting ∙ at.writes.waiting;
          commands = ap all_numbered one.same.commands ∙ at.writes.commands;
        } in (
          one.all ∙ sym count,
          still writes (ap (slot_writer at.other) one.same.journal) (ap disks_of one.same.journal),
        )

    waited : HasWaited at.slot at.other at.handed w.world.stored old new → AreAtWork a tag w table new
    waited one =
        still one.writes (one.quiet.work at.other)
        (λ i. two_sides (one.quiet.side i) (G.state (one.quiet.current i)) (G.state (one.quiet.other i)))

    -- what a step of the writer is to the store
    pub stepped : (new_table : TableData F) (result : Result Bool Refused) → StepsTo at.slot at.other at.handed w.world.stored old new result
        → (w.world.stored ≡ length at.handed → table.waiting ≡ []) → (result ≡ Err Disk → new_table ≡ record table { failed = true })
        → ((result ≡ Err Disk → ⊥) → new_table ≡ table) → StepsDisks a tag w table new_table new result
    stepped new_table _ (makes (calls one)) none failing going =
        subst (λ (t : TableData F). StepsDisks a tag w table t new (Ok true)) (sym (going (λ no. cc (no)))) (did_call (called one))
    stepped new_table _ (makes (stores one)) none failing going =
        subst (λ (t : TableData F). StepsDisks a tag w table t new (Ok true)) (sym (going (λ no. cc (no)))) (did_call (stored_one one))
    stepped new_table _ (makes (fails one)) none failing going = did_fail (failed new_table (failing refl) one)
    stepped new_table _ (rests one) none failing going =
        let rest = rested (none one.all) one in
        subst (λ (t : TableData F). StepsDisks a tag w table t new (Ok false)) (sym (going (λ no. cc (no)))) (all_stored rest.0 rest.1)
    stepped new_table _ (waits one) none failing going =
        subst (λ (t : TableData F). StepsDisks a tag w table t new (Err NoMemory)) (sym (going (λ no. cc (no)))) (no_memory (waited one))

  -- ---- a step, behind the records that were handed over
  module _ (table mid_table : TableData F) (old mid : SlotWriterHalf D G) (journal : mid.journal ≡ old.journal)
      (commands : mid.commands.items ≡ old.commands.items) (few : table.sealed ≤ 4294967295) (proper : All IsEntry (entries_of mid.waiting.items)) where
    -- where all that were handed over are stored, none is left
    none_left : (w : SlotWorld a tag) (at : AreAtWork a tag w table old) (hands : HandsTo table mid_table old.waiting.items mid.waiting.items)
        → w.world.stored ≡ length (handed_at_work w table mid_table old mid at journal commands few proper hands).handed → mid_table.waiting ≡ []
    unfolding handed_at_work
    none_left w at (gave none took same) all = ap (λ (t : TableData F). t.waiting) same
    none_left w at (kept some items same) all =
        absurd (some (none_mapped entry_of old.waiting.items
        (at.writes.waiting ∙ ap (map plain) (drop_all w.world.stored at.handed (omega (arith, all))))))

    -- what failed is told of the half as it was before
    failed_from : HandsTo table mid_table old.waiting.items mid.waiting.items → (new_table : TableData F)
        → new_table ≡ record mid_table { waiting = new_table.waiting; failed = true }
        → new_table ≡ record table { waiting = new_table.waiting; failed = true }
    failed_from (gave none took same) new_table is =
        is ∙ ap (λ (t : TableData F). record t { waiting = new_table.waiting; failed = true }) same
    failed_from (kept some items same) new_table is =
        is ∙ ap (λ (t : TableData F). record t { waiting = new_table.waiting; failed = true }) same

    told_from : HandsTo table mid_table old.waiting.items mid.waiting.items → (w : SlotWorld a tag) (new_table : TableData F) (new : SlotWriterHalf D G)
        (result : Result Bool Refused) → StepsDisks a tag w mid_table new_table new result → StepsDisks a tag w table new_table new result
    told_from hands w new_table new _ (did_call call) = did_call (record { events = call.events; own = call.own; can = call.can; at_work = call.at_work })
    told_from hands w new_table new _ (did_fail fail) =
        did_fail (record { events = fail.events; own = fail.own; can = fail.can; failed = failed_from hands new_table fail.failed })
    told_from hands w new_table new _ (all_stored all at_work) = all_stored all at_work
    told_from hands w new_table new _ (no_memory at_work) = no_memory at_work

    pub stepped_disks : HandsTo table mid_table old.waiting.items mid.waiting.items → (new_table : TableData F) (new : SlotWriterHalf D G)
        (result : Result Bool Refused) → StepsOver mid new result → (result ≡ Err Disk → new_table ≡ record mid_table { failed = true })
        → ((result ≡ Err Disk → ⊥) → new_table ≡ mid_table) → StepsDisksOver a tag table new_table old new result
    stepped_disks hands new_table new result steps failing going w reached at =
        let there = handed_at_work w table mid_table old mid at journal commands few proper hands in
        told_from hands w new_table new result
        (stepped w mid_table mid new there new_table result (steps there.slot there.other there.handed w.world.stored there.writes)
        (none_left w at hands) failing going)
