-- What a crash within a call of an engine on two disks leaves, a crash of its world may leave; and an opening that stopped
-- may have happened.
use Rattle.std.proofs.Common.{◌≡◌, ◌∙◌, ◌≤◌, ℕ, List, [], ◌∷◌, ◌++◌, Result, Ok, Err, refl, ap, sym, subst, inl, inr}
use Rattle.std.specs.List.{All}
use Rattle.std.specs.Prelude.{IfErr}
use Rattle.std.proofs.lemmas.List.Elements.{All-cons, All-nil}
use Rattle.ide_disk.specs.Disk.{CrashLeaves, DiskState, settled}
use Rattle.ide_disk.specs.declared.disk.Disk.{Ghosts}
use Rattle.ide_journal.specs.Format.{Entry, IsEntry}
use Rattle.ide_journal.specs.Lists.{entries_of}
use Rattle.ide_journal.specs.declared.version.Version.{Version}
use Rattle.ide_slot_journal.specs.Opened.{StopsAnywhere, settled_both, states_of}
use Rattle.ide_slot_journal.specs.Stands.{disks_of, records_stored, sides_of, slot_writer}
use Rattle.ide_slot_journal.specs.declared.journal.SlotJournal.{SlotJournal}
use Rattle.ide_journal.specs.Bytes.{IsBefore}
use Rattle.ide_slots.specs.DiskCalls.{LeavesNoMoreThan}
use Rattle.ide_slots.specs.Sides.{IsChosen, Sides, off, on, two_sides}
use Rattle.ide_slots.specs.Two.{LeavesTwo, SlotWriter, reads_two}
use Rattle.ide_slots.specs.TwoCalls.{OpensTwo, StopsTwo}
use Rattle.ide_slots.specs.declared.side.Side.{Side}
use Rattle.ide_slots.specs.declared.side.Side.TheVariants.{First, Second}
use Rattle.ide_slots.proofs.Standing.{idle_left}
use Rattle.ide_store.specs.Handing.{HandsTo}
use Rattle.ide_wire.specs.declared.refused.Refused.{Refused}
use Rattle.ide_wire.specs.declared.refused.Refused.TheVariants.{Disk}
use Rattle.ide_store.proofs.OpenStops.{half_not_disk}
use Rattle.ide_store.specs.Opening.{IsOpenStop}
use Rattle.ide_store.specs.Table.{Analysis, TableData}
use Rattle.ide_store.specs.TwoDisks.{FailsTwo}
use Rattle.ide_store.specs.Versioned.{in_version}
use Rattle.ide_store.specs.World as world
use Rattle.ide_slot_store.specs.Engine.{AreAtWork, CrashesOpening, CrashesOver, IsGoodCall, IsTableStop, MayCrash, SlotWorld, StopsOpening, at_once, no_fold, no_room, within_call, within_opening}
use Rattle.ide_slot_store.specs.Half.{CrashesStep, MayLeave, at_once as before_call, behind_failure}
use Rattle.ide_slot_store.specs.Writing.{BeginsFirst}
use Rattle.ide_slot_store.specs.declared.writer.SlotWriterHalf.{SlotWriterHalf}
use Rattle.ide_slot_store.proofs.Stepping.{calls_over, fails_over, handed_at_work}

-- ---- within a step
module _ {F L : Type 0} (a : Analysis F L) {D : Type 0} {G : Ghosts D} (tag : ℕ) where
  module _ (w : SlotWorld a tag) (table : TableData F) (half : SlotWriterHalf D G) (at : AreAtWork a tag w table half) (left : Sides (List ℕ)) where
    -- behind a call that fails
    behind : (mid : SlotWriter) (failed : Sides DiskState)
        → BeginsFirst at.handed w.world.stored (slot_writer at.other half.journal) (disks_of half.journal) mid
        → FailsTwo at.handed w.world.stored mid (disks_of half.journal) failed → LeavesTwo failed left → MayCrash a tag w left
    behind mid failed first fails leaves = by first
      where
        call : FailsTwo (at.handed ++ in_version table.version table.waiting) w.world.stored mid (disks_of half.journal) failed
        call = fails_over at.handed (in_version table.version table.waiting) w.world.stored mid (disks_of half.journal) failed fails

        by : BeginsFirst at.handed w.world.stored (slot_writer at.other half.journal) (disks_of half.journal) mid → MayCrash a tag w left
        by (inl same) =
            within_call [] failed (All-nil (IsGoodCall a tag))
            ((tt, (at.works.running, rw (at.works.waits, at.work ∙ sym same, at.disks) call)), ((tt, leaves), tt))
        by (inr begins) =
            let one = calls_over at.handed (in_version table.version table.waiting) w.world.stored (slot_writer at.other half.journal) mid (disks_of half.journal) (disks_of half.journal)
            begins in
            within_call (world.Calls mid (disks_of half.journal) ∷ []) failed
            (All-cons (IsGoodCall a tag) (world.Calls mid (disks_of half.journal)) [] tt (All-nil (IsGoodCall a tag))) (
              (tt, (at.works.running, rw (at.works.waits, at.work, at.disks) one)),
              ((tt, (at.works.running, rw at.works.waits call)), ((tt, leaves), tt)),
            )

    crash_of : MayLeave at.handed w.world.stored (slot_writer at.other half.journal) (disks_of half.journal) left → MayCrash a tag w left
    crash_of (before_call leaves) = at_once ((tt, subst (λ (d : Sides DiskState). LeavesTwo d left) (sym at.disks) leaves), tt)
    crash_of (behind_failure mid failed first fails leaves) = behind mid failed first fails leaves

  -- whatever a crash leaves at any moment of a step
  pub stepped_crashes : (table mid_table : TableData F) (old mid : SlotWriterHalf D G) → mid.journal ≡ old.journal
      → mid.commands.items ≡ old.commands.items → table.sealed ≤ 4294967295
      → All IsEntry (entries_of mid.waiting.items) → HandsTo table mid_table old.waiting.items mid.waiting.items → (new : SlotWriterHalf D G)
      → CrashesStep mid new → CrashesOver a tag table old new
  stepped_crashes table mid_table old mid journal commands few proper hands new crashes w reached at left first second =
      let there = handed_at_work a tag w table mid_table old mid at journal commands few proper hands in
      crash_of w mid_table mid there left
      (crashes there.slot there.other there.handed w.world.stored there.writes left
      (subst (λ (j : SlotJournal D G). G.left_since (sides_of new.journal).a (G.moment (sides_of j).a) left.a) (sym journal) first)
      (subst (λ (j : SlotJournal D G). G.left_since (sides_of new.journal).b (G.moment (sides_of j).b) left.b) (sym journal) second))

-- ---- within an opening
module _ {F L : Type 0} (a : Analysis F L) (tag : ℕ) {D : Type 0} (G : Ghosts D) (first second : D) (after : Sides D) where
  pub opening_crashes : StopsAnywhere G first second after → CrashesOpening a tag G first second after
  opening_crashes stops w reached on left one two =
      let may = stops left one two in
      within_opening
      ((tt, ((λ no. cc (no)), subst (λ (d : Sides DiskState). StopsTwo d (settled_both left)) (sym on) may)), ((tt, (refl, refl)), tt))

  pub opening_stops : StopsTwo (states_of G first second) (states_of G after.a after.b) → StopsOpening a tag G first second after
  opening_stops stops w reached on mode stopped =
      (tt, (stopped, subst (λ (d : Sides DiskState). StopsTwo d (states_of G after.a after.b)) (sym on) stops))

-- an opening that was done may be taken for one that stopped
module _ (disks : Sides DiskState) where
  settled_within : (disk : DiskState) → CrashLeaves disk disk.now → (left : List ℕ) → CrashLeaves (settled disk.now) left → CrashLeaves disk left
  settled_within disk possible left leaves = subst (CrashLeaves disk) (sym leaves) possible

  pub done_stops : (work : SlotWriter) (after : Sides DiskState) → OpensTwo disks work after → CrashLeaves disks.a disks.a.now
      → CrashLeaves disks.b disks.b.now → StopsTwo disks after
  done_stops work after opens first second = by work.side refl
    where
      cut : Side → Sides DiskState
      cut side = two_sides side (settled (opens.front ++ 0 ∷ [])) (settled (off side disks).now)

      there : (side : Side) → work.side ≡ side → after ≡ cut side
      there side is = opens.disks_are ∙ ap cut is

      by : (side : Side) → work.side ≡ side → StopsTwo disks after
      by First is = inr (record {
        side = First;
        slot = opens.slot;
        front = opens.front;
        whole = opens.whole;
        chosen = subst (λ (s : Side). IsChosen s (reads_two disks)) is opens.chosen;
        closed = subst (λ (s : Side). IsBefore opens.front (on s disks).now) is opens.closed;
        current = λ left leaves. inr (idle_left opens.front left after.a (ap (λ (d : Sides DiskState). d.a) (there First is)) leaves);
        possible = subst (λ (d : Sides DiskState). CrashLeaves d.a d.a.now) (sym (there First is)) refl;
        other = subst (λ (d : Sides DiskState). LeavesNoMoreThan disks.b d.b) (sym (there First is))
            (record { leaves = settled_within disks.b second; possible = refl });
      })
      by Second is = inr (record {
        side = Second;
        slot = opens.slot;
        front = opens.front;
        whole = opens.whole;
        chosen = subst (λ (s : Side). IsChosen s (reads_two disks)) is opens.chosen;
        closed = subst (λ (s : Side). IsBefore opens.front (on s disks).now) is opens.closed;
        current = λ left leaves. inr (idle_left opens.front left after.b (ap (λ (d : Sides DiskState). d.b) (there Second is)) leaves);
        possible = subst (λ (d : Sides DiskState). CrashLeaves d.b d.b.now) (sym (there Second is)) refl;
        other = subst (λ (d : Sides DiskState). LeavesNoMoreThan disks.a d.a) (sym (there Second is))
            (record { leaves = settled_within disks.a first; possible = refl });
      })

-- what the disks of a journal hold, as A and B
pub held_by : {D : Type 0} (G : Ghosts D) (side : Side) (current other : D)
    → states_of G (two_sides side current other).a (two_sides side current other).b ≡ two_sides side (G.state current) (G.state other)
held_by G First current other = refl
held_by G Second current other = refl

-- ---- why there is no half over the records
module _ {F L : Type 0} (a : Analysis F L) {D : Type 0} {G : Ghosts D} (writer : SlotWriterHalf D G) where
  pub no_fold_of : {T : Type 0} (result : Result T Refused) (version : Version) (entries given : List Entry) (sealed : ℕ) → entries ≡ given
      → version ≡ writer.journal.version → sealed ≡ records_stored writer.journal → IfErr result (IsOpenStop a version entries sealed)
      → IfErr result (IsTableStop a writer given)
  no_fold_of (Ok table) version entries given sealed same same_version same_count stop = tt
  no_fold_of (Err refused) version entries given sealed same same_version same_count stop =
      no_fold
      (subst (λ (v : Version). IsOpenStop a v given (records_stored writer.journal) refused) same_version
      (subst (λ (n : ℕ). IsOpenStop a version given n refused) same_count
      (subst (λ (xs : List Entry). IsOpenStop a version xs sealed refused) same stop)))

  pub table_not_disk : (given : List Entry) (refused : Refused) → IsTableStop a writer given refused → refused ≡ Disk → ⊥
  table_not_disk given refused (no_fold stop) is = half_not_disk a writer.journal.version given (records_stored writer.journal) refused stop is
  table_not_disk given _ no_room is = cc (is)
