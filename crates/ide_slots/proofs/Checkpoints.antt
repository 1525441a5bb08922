-- Calls of a checkpoint leave the writer standing, and after the last one on the other side.
use Rattle.std.specs.Prelude.{◌≡◌, ℕ, ◌<◌, Bool, true, false, List, [], ◌∷◌, ◌++◌, Option, length, refl}
use Rattle.std.proofs.Common.{arith, sym, ap, subst, ◌∙◌, inl, inr}
use Rattle.std.proofs.lemmas.List.{length-append}
use Rattle.ide_disk.specs.Disk.{CrashLeaves, DiskState, settled, synced_now}
use Rattle.ide_journal.specs.Format.{Entry}
use Rattle.ide_journal.specs.declared.stage.Stage.{Stage}
use Rattle.ide_journal.specs.declared.stage.Stage.TheVariants.{Idle}
use Rattle.ide_slots.specs.DiskCalls.{after_disk_call}
use Rattle.ide_slots.specs.Filling.{AtFilling, Closes, IsSettledWith, Lasts, fill_call, fill_next, filled_by}
use Rattle.ide_slots.specs.Sides.{First, IsBehind, IsLesserSlot, Second, Side, Sides, across, off, on, two_sides}
use Rattle.ide_slots.specs.Slot.{IsClosedSlot, IsFront, Slot, records_of, slot_count, slot_head, slot_header}
use Rattle.ide_slots.specs.Two.{Beside, Checkpoint, IsMade, IsNextSlot, IsSafeTwo, IsUpTo, KnowsNext, CanBeNext, Planned, ShowsOne, SlotWriter, StandsTwo, UnderWay}
use Rattle.ide_slots.specs.TwoCalls.{BeginsCheckpoint, CallsCheckpoint, CrashesInCheckpoint, EndsCheckpoint, FailsCheckpoint, PlansCheckpoint, TellsClosed}
use Rattle.ide_slots.specs.TwoLaws.{CheckpointsKeepStanding}
use Rattle.ide_slots.proofs.Disks.{after_failed, failed_possible}
use Rattle.ide_slots.proofs.Fillings.{fillings_go_on}
use Rattle.ide_slots.proofs.Fronts.{next_some, some_records}
use Rattle.ide_slots.proofs.Gates.{open_front}
use Rattle.ide_slots.proofs.Heads.{length-slot_header}
use Rattle.ide_slots.proofs.Standing.{at_idle, idle_left, leaves_on, made_shows, made_some, next_possible, reads_possible}
use Rattle.ide_slots.proofs.Whole.{makes_front}
use Rattle.ide_slots.proofs.Writers.{knows_idle, off_two, on_two}

-- the writer stands on the same front, with another checkpoint beside it
moved : (slot : Slot) (next : Option Entry) (work : SlotWriter) (checkpoint : Checkpoint) (disks after : Sides DiskState) → StandsTwo slot next work disks
    → on work.side after ≡ on work.side disks → Beside work.side slot work.stage checkpoint (off work.side after)
    → StandsTwo slot next (record work { checkpoint = checkpoint }) after
moved slot next work checkpoint disks after stands same beside = record {
  front = stands.front;
  whole = stands.whole;
  version = stands.version;
  generation = stands.generation;
  gate = stands.gate;
  knows = subst (λ (d : DiskState). KnowsNext work.stage stands.front (slot_count slot) next d) (sym same) stands.knows;
  fits = stands.fits;
  beside = beside;
}

planned : (slot : Slot) (next : Option Entry) (work new : SlotWriter) (disks : Sides DiskState)
    → StandsTwo slot next work disks → PlansCheckpoint slot work new → StandsTwo slot next new disks
planned slot next work new disks stands plans =
    rw plans.work_is
    (moved slot next work (Planned plans.next) disks disks stands refl
    (subst (λ (c : Checkpoint). Beside work.side slot work.stage c (off work.side disks)) plans.none stands.beside, plans.planned))

-- once the records below the base are stored, none is under way
none_under_way : (count base : ℕ) (stage : Stage) → IsUpTo count base stage → count ≡ base → stage ≡ Idle
none_under_way count base stage (inl below) same = absurd (omega (arith, below, same))
none_under_way count base stage (inr both) same = both.1

begins_so : (closed : Bool) (side : Side) (slot next : Slot) (disk : DiskState) → 0 < length (records_of slot) → IsSettledWith (IsBehind side slot) disk
    → TellsClosed closed disk.now → AtFilling side slot.generation next (Closes closed) disk
begins_so true side slot next disk some beside tells = record { bytes = disk.now; holds = tells; settled_disk = beside.settled_disk ∙ ap settled (sym (ap (λ (d : DiskState). d.now) beside.settled_disk)) }
begins_so false side slot next disk some beside tells =
    let now : disk.now ≡ beside.bytes = ap (λ (d : DiskState). d.now) beside.settled_disk in
    let opened : IsClosedSlot beside.bytes → ⊥ = λ closed. tells (subst IsClosedSlot (sym now) closed) in
    record {
      bytes = beside.bytes;
      holds = elim beside.holds [
        | inl first ↦ absurd (opened first.1)
        | inr other ↦ elim other.1 [
          | inl closed ↦ absurd (opened closed)
          | inr lesser ↦ lesser
        ]
      ];
      settled_disk = beside.settled_disk;
    }

begun : (slot : Slot) (next : Option Entry) (work new : SlotWriter) (disks : Sides DiskState)
    → StandsTwo slot next work disks → BeginsCheckpoint slot work disks new → StandsTwo slot next new disks
begun slot next work new disks stands begins =
    let disk = off work.side disks in
    let beside : Beside work.side slot work.stage (Planned begins.next) disk =
    subst (λ (c : Checkpoint). Beside work.side slot work.stage c disk) begins.planned stands.beside in
    let some = some_stored slot begins.next stands.front stands.whole beside.1.follows begins.stored in
    rw begins.work_is
    (moved slot next work (UnderWay begins.next (Closes begins.closed)) disks disks stands refl (record {
      follows = beside.1.follows;
      stored = begins.stored;
      idle = none_under_way (slot_count slot) begins.next.base work.stage beside.1.up_to begins.stored;
      filling = begins_so begins.closed work.side slot begins.next disk some beside.0 begins.tells;
    }))
  where
    some_stored : (slot next : Slot) (front : List ℕ) → IsFront slot front → IsNextSlot slot next → slot_count slot ≡ next.base → 0 < length (records_of slot)
    some_stored slot next front whole follows stored =
        some_records slot whole.proper (let base = (next_some slot next follows).1 in omega (arith, stored, base))

called : (slot : Slot) (next : Option Entry) (work new : SlotWriter) (disks after : Sides DiskState)
    → StandsTwo slot next work disks → CallsCheckpoint work disks new after → StandsTwo slot next new after
called slot next work new disks after stands calls =
    let disk = off work.side disks in
    let now = after_disk_call (fill_call calls.next calls.fill) disk in
    let made : IsMade work.side slot calls.next work.stage calls.fill disk =
    subst (λ (c : Checkpoint). Beside work.side slot work.stage c disk) calls.under_way stands.beside in
    rw (calls.work_is, calls.disks_are)
    (moved slot next work (UnderWay calls.next (fill_next calls.next calls.fill)) disks (two_sides work.side (on work.side disks) now) stands
    (on_two work.side (on work.side disks) now)
    (record {
      follows = made.follows;
      stored = made.stored;
      idle = made.idle;
      filling = subst (λ (d : DiskState). AtFilling work.side slot.generation calls.next (fill_next calls.next calls.fill) d)
          (sym (off_two work.side (on work.side disks) now))
          (fillings_go_on work.side slot.generation calls.next calls.fill disk calls.more made.filling);
    }))

on_across : {X : Type 0} (side : Side) (x y : X) → on (across side) (two_sides side x y) ≡ y
on_across First x y = refl
on_across Second x y = refl

off_across : {X : Type 0} (side : Side) (x y : X) → off (across side) (two_sides side x y) ≡ x
off_across First x y = refl
off_across Second x y = refl

-- the slot before is of lesser generation
left_behind : (side : Side) (slot next : Slot) (front : List ℕ) → 0 < length (records_of slot) → IsFront slot front → IsNextSlot slot next
    → IsLesserSlot (across side) next.generation (front ++ 0 ∷ [])
left_behind First slot next front some whole follows =
    let opened = open_front slot front [] (front ++ 0 ∷ []) some whole refl in
    record { lesser = slot.generation; less = omega (arith, follows.generation); opened = opened.0; more = opened.1 }
left_behind Second slot next front some whole follows =
    let opened = open_front slot front [] (front ++ 0 ∷ []) some whole refl in
    record { lesser = slot.generation; less = omega (arith, follows.generation); opened = opened.0; more = opened.1 }

ended : (slot other : Slot) (next : Option Entry) (work new : SlotWriter) (disks after : Sides DiskState)
    → StandsTwo slot next work disks → EndsCheckpoint work disks new other after → StandsTwo other next new after
ended slot other next work new disks after stands ends =
    let disk = off work.side disks in
    let current = on work.side disks in
    let made : IsMade work.side slot other work.stage Lasts disk =
    subst (λ (c : Checkpoint). Beside work.side slot work.stage c disk) ends.under_way stands.beside in
    let some = made_some work.side slot other work.stage Lasts disk stands.front stands.whole made in
    let front = makes_front other 1 made.follows.proper (next_some slot other made.follows).0 (λ same. absurd (omega (arith, same))) in
    let now_is : synced_now disk ≡ settled (front.front ++ 0 ∷ []) = ap synced_now made.filling ∙ ap settled front.split in
    let old_is : current ≡ settled (stands.front ++ 0 ∷ []) = at_idle work.stage stands.front (slot_count slot) next current made.idle stands.knows in
    let count : slot_count slot ≡ slot_count other = made.stored ∙ omega (arith, ap length made.follows.bare) in
    rw (ends.work_is, ends.disks_are) (record {
      front = front.front;
      whole = front.whole;
      version = refl;
      generation = refl;
      gate = omega (
        arith,
        ap length front.split,
        length-append (slot_header (slot_head other)) (1 ∷ filled_by other),
        length-append front.front (0 ∷ []),
        length-slot_header (slot_head other),
      );
      knows = knows_idle front.front (slot_count other) next (on (across work.side) (two_sides work.side current (synced_now disk)))
          (on_across work.side current (synced_now disk) ∙ now_is);
      fits = subst (λ (n : ℕ). CanBeNext n next) count stands.fits;
      beside = record {
        bytes = stands.front ++ 0 ∷ [];
        holds = inr ((next_some slot other made.follows).0, inr (left_behind work.side slot other stands.front some stands.whole made.follows));
        settled_disk = off_across work.side current (synced_now disk) ∙ old_is;
      };
    })

within : (slot : Slot) (next : Option Entry) (work : SlotWriter) (disks : Sides DiskState) (left : Sides (List ℕ))
    → StandsTwo slot next work disks → CrashesInCheckpoint work disks left → ShowsOne slot next work.checkpoint left
within slot next work disks left stands crashes =
    let disk = off work.side disks in
    let made : IsMade work.side slot crashes.next work.stage crashes.fill disk =
    subst (λ (c : Checkpoint). Beside work.side slot work.stage c disk) crashes.under_way stands.beside in
    let before = idle_left stands.front (on work.side left) (on work.side disks)
    (at_idle work.stage stands.front (slot_count slot) next (on work.side disks) made.idle stands.knows) crashes.current in
    subst (λ (c : Checkpoint). ShowsOne slot next c left) (sym crashes.under_way)
    (made_shows work.side slot next crashes.next work.stage crashes.fill disk stands.front left stands.whole before made crashes.within)

failed : (slot : Slot) (next : Option Entry) (work : SlotWriter) (disks after : Sides DiskState)
    → StandsTwo slot next work disks → FailsCheckpoint work disks after → IsSafeTwo slot next work.checkpoint after
failed slot next work disks after stands fails = record {
  each = λ left leaves.
      let both = leaves_on work.side after left leaves in
      within slot next work disks left stands (record {
        next = fails.next;
        fill = fails.fill;
        under_way = fails.under_way;
        within = after_failed (fill_call fails.next fails.fill) (off work.side disks) (off work.side after) (off work.side left) fails.fails both.1;
        current = subst (λ (d : DiskState). CrashLeaves d (on work.side left)) fails.same both.0;
      });
  possible = reads_possible work.side after
      (subst (λ (d : DiskState). CrashLeaves d d.now) (sym fails.same)
      (next_possible work.stage stands.front (slot_count slot) next (on work.side disks) stands.knows))
      (failed_possible (fill_call fails.next fails.fill) (off work.side disks) (off work.side after) fails.fails);
}

pub checkpoints_keep_standing : CheckpointsKeepStanding
checkpoints_keep_standing = record { planned = planned; begun = begun; called = called; ended = ended; failed = failed; within = within }
