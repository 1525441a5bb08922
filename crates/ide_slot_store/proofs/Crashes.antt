-- What a crash within a call of a journal leaves, one behind a call that failed may leave.
use Rattle.std.proofs.Common.{◌∷◌, ℕ, List, length, refl, subst, sym, inl}
use Rattle.ide_disk.specs.Disk.{CrashLeaves, Cut, DiskState, LeftOf, Wrote, settled}
use Rattle.ide_journal.specs.Format.{Entry}
use Rattle.ide_slots.specs.DiskCalls.{Cuts, DiskCall, FailsSo, LeavesWithin, Syncs, Writes}
use Rattle.ide_slots.specs.Filling.{fill_call}
use Rattle.ide_slots.specs.Sides.{Sides, off, on, two_sides}
use Rattle.ide_slots.specs.Slot.{Slot}
use Rattle.ide_slots.specs.Two.{LeavesTwo, SlotWriter}
use Rattle.ide_slots.specs.TwoCalls.{CrashesInCheckpoint, CrashesInRecord, due_call}
use Rattle.ide_slots.specs.declared.side.Side.{Side}
use Rattle.ide_slots.specs.declared.side.Side.TheVariants.{First, Second}
use Rattle.ide_slots.proofs.Writers.{off_two, on_two}
use Rattle.ide_store.specs.TwoDisks.{AtCheckpoint, AtRecord, IsNextBehind}
use Rattle.ide_store.specs.Versioned.{VersionedEntry}
use Rattle.ide_slot_store.specs.Half.{MayLeave, behind_failure}
use Rattle.ide_slot_store.specs.Writing.{BeginsFirst}

-- a call that failed may have left just what a crash within it leaves
fails_so : (call : DiskCall) (disk : DiskState) (left : List ℕ) → LeavesWithin call disk left → FailsSo call disk (settled left)
fails_so (Writes at bytes) disk left within = record {
  leaves = λ other is. subst (λ (xs : List ℕ). LeftOf disk.synced (Wrote at (length bytes) ∷ disk.changes) xs) (sym is) within;
  possible = refl;
}
fails_so (Cuts len) disk left within = record {
  leaves = λ other is. subst (λ (xs : List ℕ). LeftOf disk.synced (Cut len ∷ disk.changes) xs) (sym is) within;
  possible = refl;
}
fails_so Syncs disk left within = record {
  leaves = λ other is. subst (λ (xs : List ℕ). CrashLeaves disk xs) (sym is) within;
  possible = refl;
}

leaves_by : (side : Side) (one other : DiskState) (left : Sides (List ℕ)) → CrashLeaves one (on side left) → CrashLeaves other (off side left)
    → LeavesTwo (two_sides side one other) left
leaves_by First one other left leaves leaves' = (leaves, leaves')
leaves_by Second one other left leaves leaves' = (leaves', leaves)

module _ (records : List VersionedEntry) (stored : ℕ) (work : SlotWriter) (disks : Sides DiskState) (left : Sides (List ℕ)) where
  -- within a call for the next record
  pub in_record : (slot : Slot) (entry : Entry) → IsNextBehind records stored work.version slot entry → CrashesInRecord slot entry work disks left
      → MayLeave records stored work disks left
  in_record slot entry next crash =
      let call = due_call slot entry work crash.phase in
      let called = settled (on work.side left) in
      let still = off work.side disks in
      behind_failure work (two_sides work.side called still) (inl refl)
      (AtRecord slot entry next (record {
        phase = crash.phase;
        due = crash.due;
        fails = subst (λ (d : DiskState). FailsSo call (on work.side disks) d) (sym (on_two work.side called still))
            (fails_so call (on work.side disks) (on work.side left) crash.within);
        same = off_two work.side called still;
      }))
      (leaves_by work.side called still left refl crash.other)

  -- within one of a checkpoint, which has begun its calls
  pub in_checkpoint : (mid : SlotWriter) → BeginsFirst records stored work disks mid → CrashesInCheckpoint mid disks left
      → MayLeave records stored work disks left
  in_checkpoint mid first crash =
      let call = fill_call crash.next crash.fill in
      let called = settled (off mid.side left) in
      let still = on mid.side disks in
      behind_failure mid (two_sides mid.side still called) first
      (AtCheckpoint (record {
        next = crash.next;
        fill = crash.fill;
        under_way = crash.under_way;
        fails = subst (λ (d : DiskState). FailsSo call (off mid.side disks) d) (sym (off_two mid.side still called))
            (fails_so call (off mid.side disks) (off mid.side left) crash.within);
        same = on_two mid.side still called;
      }))
      (leaves_by mid.side still called left crash.current refl)
