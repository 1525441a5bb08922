-- What the writer's desk keeps from step to step: a call that is good leaves the writer live with the records that it took, and
-- one that failed leaves disks that hold the stored ones whatever a crash leaves.
use Rattle.std.proofs.Common.{◌≡◌, ◌∙◌, ◌+◌, ◌<◌, ◌≤◌, ℕ, Bool, true, false, List, [], ◌∷◌, Some, None, Result, Ok, Err, length, map, replicate, take, refl, ap, sym, subst, arith, inl, inr}
use Rattle.std.specs.Prelude.{option_map, slice_get}
use Rattle.std.proofs.lemmas.Bool.{cases_lt}
use Rattle.std.proofs.lemmas.List.{length-take-le}
use Rattle.std.proofs.lemmas.Option.{slice_get_within}
use Rattle.ide_board.specs.Records.{AreStoredBelow, Marked}
use Rattle.ide_disk.specs.Disk.{DiskState}
use Rattle.ide_disk.specs.declared.disk.Disk.{Ghosts}
use Rattle.ide_journal.specs.Lists.{entry_of}
use Rattle.ide_journal.specs.declared.version.Version.{Version}
use Rattle.ide_slot_journal.specs.Stands.{AreHonest, disks_of, records_stored, slot_writer}
use Rattle.ide_slots.specs.Records.{all_numbered}
use Rattle.ide_slots.specs.Sides.{Sides, two_sides}
use Rattle.ide_slots.specs.Two.{LeavesTwo, SlotWriter}
use Rattle.ide_slot_store.specs.Half as slot_half
use Rattle.ide_slot_store.specs.Half.{CrashesStep, HasCalled, HasStored, HasWaited, IsQuiet, IsSameHalf, MayLeave, StepsOver, StepsTo, at_once, behind_failure, calls, fails, makes, rests, stores, waits}
use Rattle.ide_slot_store.specs.Writing.{BeginsFirst, DidFail, StandsBehind}
use Rattle.ide_slot_store.specs.declared.writer.SlotWriterHalf.{SlotWriterHalf}
use Rattle.ide_store.specs.Store.{IsSafe, StoreLaws}
use Rattle.ide_store.specs.Table.{Analysis}
use Rattle.ide_store.specs.TwoDisks.{IsLiveTwo, sealing_version, two_disks}
use Rattle.ide_store.specs.Versioned.{VersionedEntry}
use Rattle.ide_slot_store.proofs.Stepping.{did_seal_alike}
use Rattle.ide_store.specs.TwoDisksLaws.{TwoDisksKeep, slots_of}
use Rattle.ide_store.specs.World.{AreAlike}
use Rattle.ide_wire.specs.declared.refused.Refused.{Refused}
use Rattle.ide_wire.specs.declared.refused.Refused.TheVariants.{Disk, NoMemory}
use Rattle.ide_board.specs.Records.{ClientView, WriterView, with_stored}
use Rattle.ide_desks.specs.Desks.{IsWriterDesk}
use Rattle.ide_desks.proofs.Lists.{get_replicate, get_take, record_of, records_count, records_get}
use Rattle.ide_desks.specs.Stepping.{IsStepRefusal, wants_memory}
use Rattle.ide_desks.specs.Keeping.{HaveOwn, HoldsStored, KeepsOwn, KeepsStored, WritesUnlessFailed, LeavesStored, WritesLive, records_in, unknown}

module _ {F L : Type 0} (a : Analysis F L) (tag : ℕ) (version : Version) {D : Type 0} {G : Ghosts D} where
  -- it has stored as many as its journal counts
  pub live_count : (taken : List VersionedEntry) (stored : ℕ) (half : SlotWriterHalf D G) → WritesLive a tag version taken stored half → records_stored half.journal ≡ stored
  live_count taken stored half on = on.writes.behind.stands.count ∙ on.writes.behind.count

  module _ (keep : TwoDisksKeep (slots_of a)) (taken : List VersionedEntry) (stored : ℕ) (old new : SlotWriterHalf D G) where
    abbrev laws : StoreLaws (AreAlike (slots_of a)) (two_disks (slots_of a) tag)
    laws = keep tag

    abbrev LiveAs : ℕ → SlotWriter → Sides DiskState → Type 0
    LiveAs n work disks = IsLiveTwo (slots_of a) tag taken n work disks

    -- a checkpoint that waits may begin its calls first
    first_live : (work mid : SlotWriter) (disks : Sides DiskState) → LiveAs stored work disks → BeginsFirst taken stored work disks mid → LiveAs stored mid disks
    first_live work mid disks live (inl same) = subst (λ (w : SlotWriter). LiveAs stored w disks) (sym same) live
    first_live work mid disks live (inr begins) = laws.called taken stored work mid disks disks live begins

    -- what a step comes to
    pub data StepsAs : Result Bool Refused → Type 0 where
      went_on : WritesLive a tag version taken stored new → StepsAs (Ok true)
      stored_one : WritesLive a tag version taken (stored + 1) new → StepsAs (Ok true)
      rested : stored ≡ length taken → WritesLive a tag version taken stored new → StepsAs (Ok false)
      failed : KeepsStored a tag taken stored new → StepsAs (Err Disk)
      waited : WritesLive a tag version taken stored new → StepsAs (Err NoMemory)

    module _ (on : WritesLive a tag version taken stored old) where
      abbrev work : SlotWriter
      work = slot_writer on.other old.journal

      abbrev disks : Sides DiskState
      disks = disks_of old.journal

      called : HasCalled on.slot on.other taken stored old new → WritesLive a tag version taken stored new
      called one = record {
        slot = one.now;
        other = on.other;
        writes = one.writes;
        version_is = did_seal_alike on.other taken stored old.journal new.journal one.event ∙ on.version_is;
        tag_is = one.tag ∙ on.tag_is;
        live = laws.called taken stored one.event.mid (slot_writer on.other new.journal) disks (disks_of new.journal)
            (first_live work one.event.mid disks on.live one.event.first) one.event.event;
      }

      stored_next : HasStored on.slot on.other taken stored old new → WritesLive a tag version taken (stored + 1) new
      stored_next one = record {
        slot = _;
        other = on.other;
        writes = one.writes;
        version_is = ap sealing_version one.event.stores.work_is ∙ on.version_is;
        tag_is = on.tag_is;
        live = laws.stores taken stored work (slot_writer on.other new.journal) disks (disks_of new.journal) on.live one.event;
      }

      has_failed : DidFail on.other taken stored old.journal new.journal → KeepsStored a tag taken stored new
      has_failed one =
          laws.failed taken stored one.mid disks (disks_of new.journal) (first_live work one.mid disks on.live one.first) one.event

      -- so it is as the same half
      pub same_half_live : IsSameHalf old new → WritesLive a tag version taken stored new
      same_half_live same = record {
        slot = on.slot;
        other = on.other;
        writes = record {
          behind = subst (λ j. StandsBehind on.slot on.other taken stored j) (sym same.journal) on.writes.behind;
          waiting = ap (map entry_of) same.waiting ∙ on.writes.waiting;
          commands = ap all_numbered same.commands ∙ on.writes.commands;
        };
        version_is = ap (λ j. sealing_version (slot_writer on.other j)) same.journal ∙ on.version_is;
        tag_is = on.tag_is;
        live = subst (λ j. LiveAs stored (slot_writer on.other j) (disks_of j)) (sym same.journal) on.live;
      }

      has_waited : HasWaited on.slot on.other taken stored old new → WritesLive a tag version taken stored new
      has_waited one =
          let same : disks_of new.journal ≡ disks =
          (λ i. two_sides (one.quiet.side i) (G.state (one.quiet.current i)) (G.state (one.quiet.other i))) in
          record {
            slot = on.slot;
            other = on.other;
            writes = one.writes;
            version_is = ap sealing_version (one.quiet.work on.other) ∙ on.version_is;
            tag_is = on.tag_is;
            live = subst (λ (w : SlotWriter). LiveAs stored w (disks_of new.journal)) (sym (one.quiet.work on.other))
                (subst (λ (d : Sides DiskState). LiveAs stored work d) (sym same) on.live);
          }

      -- so it is where it writes the same, and no disk was called
      pub stays_live : slot_half.KeepsWriting old new → IsQuiet old.journal new.journal → WritesLive a tag version taken stored new
      stays_live keeps quiet = has_waited (record { quiet = quiet; writes = keeps on.slot on.other taken stored on.writes })

      pub stepped : (result : Result Bool Refused) → StepsTo on.slot on.other taken stored old new result → StepsAs result
      stepped _ (makes (calls one)) = went_on (called one)
      stepped _ (makes (stores one)) = stored_one (stored_next one)
      stepped _ (makes (fails one)) = failed (has_failed one)
      stepped _ (rests one) = rested one.all (same_half_live one.same)
      stepped _ (waits one) = waited (has_waited one)

      -- what a crash at any moment of the step leaves
      pub crashed : CrashesStep old new → LeavesStored a tag taken stored old new
      crashed crashes left here there = ∣ by (crashes on.slot on.other taken stored on.writes left here there) ∣₁
        where
          safe_holds : (state : Sides DiskState) → IsSafe (two_disks (slots_of a) tag) taken stored state → LeavesTwo state left
              → HoldsStored a tag taken stored left
          safe_holds state safe leaves =
              let one = safe.each left leaves in record { found = one.0; holds = one.1; is = one.2 }

          by : MayLeave taken stored work disks left → HoldsStored a tag taken stored left
          by (at_once leaves) = safe_holds disks (laws.live_safe taken stored work disks on.live) leaves
          by (behind_failure mid state first one leaves) =
              safe_holds state (laws.failed taken stored mid disks state (first_live work mid disks on.live first) one) leaves

-- ---- what a client knows as stored is held
module _ (first : List VersionedEntry) (stored taken : List (Marked VersionedEntry)) (found : List VersionedEntry) (count : ℕ)
    (beginning : stored ≡ take (length stored) taken) (some : length first ≤ length taken)
    (unknown_first : take (length first) taken ≡ replicate (length first) unknown) (is : found ≡ take count (records_in first taken))
    (least : length stored ≤ count) where
  in_taken : (n : ℕ) (m : Marked VersionedEntry) → slice_get stored n ≡ Some m → (n < length stored) × (slice_get taken n ≡ Some m)
  in_taken n m there =
      let inside : n < length stored = slice_get_within stored n m there in
      (inside, sym (get_take taken (length stored) n inside) ∙ ap (λ (xs : List (Marked VersionedEntry)). slice_get xs n) (sym beginning) ∙ there)

  -- the board knows whose it is, so it is none of the first
  behind_first : (n client : ℕ) (x : VersionedEntry) → slice_get taken n ≡ Some (x, Some client) → length first ≤ n
  behind_first n client x there = elim (cases_lt n (length first)) [
    | inl before ↦
        let here : slice_get (replicate (length first) unknown) n ≡ Some (x, Some client) =
        ap (λ (xs : List (Marked VersionedEntry)). slice_get xs n) (sym unknown_first) ∙ get_take taken (length first) n before ∙ there in
        let no : None ≡ Some client = ap (λ (m : Marked VersionedEntry). m.1) (get_replicate (length first) n (x, Some client) here) in
        cc (no)
    | inr behind ↦ behind
  ]

  record_found : (n client : ℕ) (x : VersionedEntry) → slice_get stored n ≡ Some (x, Some client) → slice_get found n ≡ Some x
  record_found n client x there =
      let here = in_taken n (x, Some client) there in
      let inside = here.0 in
      let behind = behind_first n client x here.1 in
      ap (λ (xs : List VersionedEntry). slice_get xs n) is ∙ get_take (records_in first taken) count n (omega (arith, inside, least))
      ∙ records_get first taken n some behind ∙ ap (option_map record_of) here.1

  pub own_found : (bound client : ℕ) (own : List (ℕ × VersionedEntry)) → AreStoredBelow bound stored client own → HaveOwn bound own found
  own_found bound client [] are = tt
  own_found bound client (pair ∷ own) are =
      ((λ below. record_found pair.0 client pair.1 (are.0 below)), own_found bound client own are.1)

-- ---- the desk behind a step
module _ {F L : Type 0} (a : Analysis F L) (tag : ℕ) (version : Version) {D : Type 0} {G : Ghosts D} (keep : TwoDisksKeep (slots_of a))
    (first : List VersionedEntry) (old new : SlotWriterHalf D G) (seat : WriterView VersionedEntry) (failed_before : Bool) (works : failed_before ≡ false)
    (desk : IsWriterDesk a tag version first old seat failed_before) (honest : AreHonest old.journal → AreHonest new.journal) where
  abbrev taken : List VersionedEntry
  taken = records_in first seat.taken

  abbrev count : ℕ
  count = length seat.stored

  live : WritesLive a tag version taken count old
  live = subst (λ (b : Bool). WritesUnlessFailed a tag version b taken count old) works desk.keeps

  taken_count : length taken ≡ length seat.taken
  taken_count = records_count first seat.taken desk.begun

  steps_as : (result : Result Bool Refused) → (AreHonest old.journal → StepsOver old new result) → StepsAs a tag version keep taken count old new result
  steps_as result steps = stepped a tag version keep taken count old new live result (steps desk.honest live.slot live.other taken count live.writes)

  still : WritesLive a tag version taken count new → IsWriterDesk a tag version first new seat failed_before
  still on = record {
    begun = desk.begun;
    unknown_first = desk.unknown_first;
    honest = honest desk.honest;
    keeps = subst (λ (b : Bool). WritesUnlessFailed a tag version b taken count new) (sym works) on;
  }

  pub desk_rests : (AreHonest old.journal → StepsOver old new (Ok false)) → (count ≡ length seat.taken) × IsWriterDesk a tag version first new seat failed_before
  desk_rests steps = by (steps_as (Ok false) steps)
    where
      by : StepsAs a tag version keep taken count old new (Ok false) → (count ≡ length seat.taken) × IsWriterDesk a tag version first new seat failed_before
      by (rested all on) = (all ∙ taken_count, still on)

  pub desk_calls : (AreHonest old.journal → StepsOver old new (Ok true))
      → ((records_stored old.journal < records_stored new.journal) × (count < length seat.taken) → ⊥) → IsWriterDesk a tag version first new seat failed_before
  desk_calls steps none = by (steps_as (Ok true) steps)
    where
      by : StepsAs a tag version keep taken count old new (Ok true) → IsWriterDesk a tag version first new seat failed_before
      by (went_on on) = still on
      by (stored_one on) =
          let before = live_count a tag version taken count old live in
          let after = live_count a tag version taken (count + 1) new on in
          let some = on.live.some in
          let long = taken_count in
          absurd (none (omega (arith, before, after), omega (arith, some, long)))

  pub desk_stores : (AreHonest old.journal → StepsOver old new (Ok true)) → records_stored old.journal < records_stored new.journal
      → count < length seat.taken → IsWriterDesk a tag version first new (with_stored seat (count + 1)) failed_before
  desk_stores steps more room = by (steps_as (Ok true) steps)
    where
      by : StepsAs a tag version keep taken count old new (Ok true) → IsWriterDesk a tag version first new (with_stored seat (count + 1)) failed_before
      by (went_on on) =
          let before = live_count a tag version taken count old live in
          let after = live_count a tag version taken count new on in
          absurd (omega (arith, before, after, more))
      by (stored_one on) =
          let long : length (take (count + 1) seat.taken) ≡ count + 1 = length-take-le (count + 1) seat.taken (omega (arith, room)) in
          record {
            begun = desk.begun;
            unknown_first = desk.unknown_first;
            honest = honest desk.honest;
            keeps = subst (λ (b : Bool). WritesUnlessFailed a tag version b taken (length (take (count + 1) seat.taken)) new) (sym works)
                (subst (λ (n : ℕ). WritesLive a tag version taken n new) (sym long) on);
          }

  pub desk_fails : (AreHonest old.journal → StepsOver old new (Err Disk)) → IsWriterDesk a tag version first new seat true
  desk_fails steps = by (steps_as (Err Disk) steps)
    where
      by : StepsAs a tag version keep taken count old new (Err Disk) → IsWriterDesk a tag version first new seat true
      by (failed safe) = record { begun = desk.begun; unknown_first = desk.unknown_first; honest = honest desk.honest; keeps = safe }

  pub desk_waits : (refused : Refused) → (refused ≡ Disk → ⊥) → (AreHonest old.journal → StepsOver old new (Err refused))
      → IsWriterDesk a tag version first new seat failed_before
  desk_waits refused other steps = by refused other (steps_as (Err refused) steps)
    where
      by : (refused : Refused) → (refused ≡ Disk → ⊥) → StepsAs a tag version keep taken count old new (Err refused) → IsWriterDesk a tag version first new seat failed_before
      by _ other (failed safe) = absurd (other refl)
      by _ other (waited on) = still on

  -- why it is refused, where no call failed
  pub desk_refused : (refused : Refused) → (refused ≡ Disk → ⊥) → (AreHonest old.journal → StepsOver old new (Err refused)) → IsStepRefusal refused
  desk_refused refused other steps = by refused other (steps_as (Err refused) steps)
    where
      by : (refused : Refused) → (refused ≡ Disk → ⊥) → StepsAs a tag version keep taken count old new (Err refused) → IsStepRefusal refused
      by _ other (failed safe) = absurd (other refl)
      by _ other (waited on) = wants_memory

  pub desk_crashes : (AreHonest old.journal → CrashesStep old new) → LeavesStored a tag taken count old new
  desk_crashes crashes = crashed a tag version keep taken count old new live (crashes desk.honest)

-- whatever a crash leaves holds what a client knows as stored
pub keeps_own : {F L : Type 0} (a : Analysis F L) (tag : ℕ) (version : Version) {D : Type 0} {G : Ghosts D} (keep : TwoDisksKeep (slots_of a)) (first : List VersionedEntry)
    (half : SlotWriterHalf D G) (seat : WriterView VersionedEntry) (fault : Bool) (client : ClientView VersionedEntry) → seat.stored ≡ take (length seat.stored) seat.taken
    → IsWriterDesk a tag version first half seat fault → AreStoredBelow client.seen seat.stored client.number client.own → KeepsOwn a tag client half
keeps_own a tag version keep first half seat fault client beginning desk own left leaves =
    let safe = safe_as fault desk.keeps in
    let found = safe.each left leaves in
    let is = found.2 in
    ∣ (
      found.0,
      found.1,
      own_found first seat.stored seat.taken found.0 is.count beginning desk.begun desk.unknown_first is.is is.least client.seen client.number client.own own,
    ) ∣₁
  where
    safe_as : (b : Bool) → WritesUnlessFailed a tag version b (records_in first seat.taken) (length seat.stored) half
        → IsSafe (two_disks (slots_of a) tag) (records_in first seat.taken) (length seat.stored) (disks_of half.journal)
    safe_as false on = (keep tag).live_safe (records_in first seat.taken) (length seat.stored) (slot_writer on.other half.journal) (disks_of half.journal) on.live
    safe_as true safe = safe
