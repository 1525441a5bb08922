-- Calls for the next record leave the writer standing.
use Rattle.std.specs.Prelude.{◌≡◌, ◌≢◌, ℕ, ◌+◌, ◌<◌, List, [], ◌∷◌, ◌++◌, Option, Some, None, length, refl}
use Rattle.std.proofs.Common.{arith, sym, ap, subst, ◌∙◌, inl, inr}
use Rattle.std.proofs.lemmas.Bool.{cases_lt}
use Rattle.std.proofs.lemmas.List.{append_assoc, length-append}
use Rattle.ide_disk.specs.Disk.{CrashLeaves, DiskState, LeftOf, Wrote, put_at, settled, synced_now, written}
use Rattle.ide_journal.specs.Bytes.{IsBeforeOrAfter, Knows}
use Rattle.ide_journal.specs.Format.{Entry, after_gate}
use Rattle.ide_journal.specs.Phases.{stage_after, stage_before}
use Rattle.ide_journal.specs.declared.stage.Phase.{Phase}
use Rattle.ide_journal.specs.declared.stage.Phase.TheVariants as phases
use Rattle.ide_journal.specs.declared.stage.Stage.{Stage}
use Rattle.ide_journal.specs.declared.stage.Stage.TheVariants.{Idle, Begun, Written, GateWritten, Failed}
use Rattle.ide_journal.proofs.Left.{gate_written, left_at_gate, left_behind_gate, left_in}
use Rattle.ide_slots.specs.DiskCalls.{LeavesWithin, after_disk_call}
use Rattle.ide_slots.specs.Filling.{with_gate}
use Rattle.ide_slots.specs.Sides.{First, IsBehind, Second, Side, Sides, off, on, two_sides}
use Rattle.ide_slots.specs.Slot.{Slot, slot_count, with_more}
use Rattle.ide_slots.specs.Two.{Beside, Checkpoint, IsSafeTwo, KnowsNext, CanBeNext, NotBegun, Planned, ShowsOne, SlotWriter, StandsTwo, UnderWay}
use Rattle.ide_slots.specs.TwoCalls.{CallsRecord, CrashesInRecord, FailsRecord, IsReadyFor, IsRecordsTurn, StoresRecord, due_call, record_call}
use Rattle.ide_slots.specs.TwoLaws.{RecordsKeepStanding}
use Rattle.ide_slots.proofs.Disks.{after_failed, failed_possible, put_end}
use Rattle.ide_slots.proofs.Fronts.{behind_more, front_more}
use Rattle.ide_slots.proofs.Standing.{beside_possible, either, leaves_on, reads_possible, settled_behind, shows_left}

pub on_two : {X : Type 0} (side : Side) (x y : X) → on side (two_sides side x y) ≡ x
on_two First x y = refl
on_two Second x y = refl

pub off_two : {X : Type 0} (side : Side) (x y : X) → off side (two_sides side x y) ≡ y
off_two First x y = refl
off_two Second x y = refl

-- a record waits
waits : (slot : Slot) (next : Option Entry) (work : SlotWriter) (disks : Sides DiskState) → StandsTwo slot None work disks
    → CanBeNext (slot_count slot) next → StandsTwo slot next work disks
waits slot next work disks stands fits = record {
  front = stands.front;
  whole = stands.whole;
  version = stands.version;
  generation = stands.generation;
  gate = stands.gate;
  knows = go next;
  fits = fits;
  beside = stands.beside;
}
  where
    go : (next : Option Entry) → KnowsNext work.stage stands.front (slot_count slot) next (on work.side disks)
    go None = stands.knows
    go (Some entry) = (
      λ failed. let no : Idle ≡ Failed = sym stands.knows.0 ∙ failed in cc,
      subst (λ (s : Stage). Knows s stands.front (with_gate 0 (slot_count slot, entry)) (on work.side disks)) (sym stands.knows.0) stands.knows.1,
    )

-- while records are stored, what is known of the other disk does not hang on the stage
beside_moves : (checkpoint : Checkpoint) (side : Side) (slot : Slot) (stage new : Stage) (disk : DiskState) → IsRecordsTurn (slot_count slot) checkpoint
    → Beside side slot stage checkpoint disk → Beside side slot new checkpoint disk
beside_moves NotBegun side slot stage new disk turn beside = beside
beside_moves (Planned next) side slot stage new disk turn beside = (beside.0, record { follows = beside.1.follows; up_to = inl turn })
beside_moves (UnderWay next fill) side slot stage new disk turn beside = absurd turn

begun : (slot : Slot) (entry : Entry) (work : SlotWriter) (disks : Sides DiskState) → StandsTwo slot (Some entry) work disks
    → IsRecordsTurn (slot_count slot) work.checkpoint → work.stage ≡ Idle
    → StandsTwo slot (Some entry) (record work { stage = Begun }) disks
begun slot entry work disks stands turn idle = record {
  front = stands.front;
  whole = stands.whole;
  version = stands.version;
  generation = stands.generation;
  gate = stands.gate;
  knows = (
    λ failed. let no : Begun ≡ Failed = failed in cc,
    subst (λ (s : Stage). Knows s stands.front (with_gate 0 (slot_count slot, entry)) (on work.side disks)) idle stands.knows.1,
  );
  fits = stands.fits;
  beside = beside_moves work.checkpoint work.side slot work.stage Begun (off work.side disks) turn stands.beside;
}

-- the record is due: before its body is written, no record is under way
ready_knows : (stage : Stage) (phase : Phase) (front tail : List ℕ) (disk : DiskState) → IsReadyFor stage phase → Knows stage front tail disk
    → Knows (stage_before phase) front tail disk
ready_knows stage phase front tail disk (inl is) knows = subst (λ (s : Stage). Knows s front tail disk) is knows
ready_knows stage phase front tail disk (inr (idle, first)) knows =
    subst (λ (p : Phase). Knows (stage_before p) front tail disk) (sym first) (subst (λ (s : Stage). Knows s front tail disk) idle knows)

put_behind : (front tail : List ℕ) → put_at (length front + 1) tail (front ++ 0 ∷ []) ≡ front ++ 0 ∷ tail
put_behind front tail =
    ap (λ (n : ℕ). put_at n tail (front ++ 0 ∷ [])) (let size = length-append front (0 ∷ []) in omega (arith, size))
    ∙ put_end (front ++ 0 ∷ []) tail ∙ append_assoc front (0 ∷ []) tail

phase_knows : (phase : Phase) (front tail : List ℕ) (disk : DiskState) → phase ≢ phases.Stored → Knows (stage_before phase) front tail disk
    → Knows (stage_after phase) front tail (after_disk_call (record_call phase (length front) tail) disk)
phase_knows phases.Written front tail disk more knows =
    ap (written (length front + 1) tail) knows
    ∙ ap (λ (now : List ℕ). record { synced = front ++ 0 ∷ []; changes = Wrote (length front + 1) (length tail) ∷ []; now = now }) (put_behind front tail)
phase_knows phases.BodySynced front tail disk more knows = ap synced_now knows
phase_knows phases.GateWritten front tail disk more knows = gate_written front tail disk (written (length front) (1 ∷ []) disk) knows refl
phase_knows phases.Stored front tail disk more knows = absurd (more refl)

not_failed : (phase : Phase) → stage_after phase ≢ Failed
not_failed phases.Written = λ same. cc
not_failed phases.BodySynced = λ same. cc
not_failed phases.GateWritten = λ same. cc
not_failed phases.Stored = λ same. cc

called : (slot : Slot) (entry : Entry) (work new : SlotWriter) (disks after : Sides DiskState)
    → StandsTwo slot (Some entry) work disks → CallsRecord slot entry work disks new after → StandsTwo slot (Some entry) new after
called slot entry work new disks after stands calls =
    let tail : List ℕ = with_gate 0 (slot_count slot, entry) in
    let disk : DiskState = on work.side disks in
    let now : DiskState = after_disk_call (due_call slot entry work calls.phase) disk in
    let knows : Knows (stage_after calls.phase) stands.front tail now =
    subst (λ (n : ℕ). Knows (stage_after calls.phase) stands.front tail (after_disk_call (record_call calls.phase n tail) disk)) (sym stands.gate)
    (phase_knows calls.phase stands.front tail disk calls.more (ready_knows work.stage calls.phase stands.front tail disk calls.due.ready stands.knows.1)) in
    rw (calls.work_is, calls.disks_are) (record {
      front = stands.front;
      whole = stands.whole;
      version = stands.version;
      generation = stands.generation;
      gate = stands.gate;
      knows = (not_failed calls.phase, subst (λ (d : DiskState). Knows (stage_after calls.phase) stands.front tail d) (sym (on_two work.side now (off work.side disks))) knows);
      fits = stands.fits;
      beside = subst (λ (d : DiskState). Beside work.side slot (stage_after calls.phase) work.checkpoint d) (sym (off_two work.side now (off work.side disks)))
          (beside_moves work.checkpoint work.side slot work.stage (stage_after calls.phase) (off work.side disks) calls.due.turn stands.beside);
    })

-- one record more is stored
beside_stored : (checkpoint : Checkpoint) (side : Side) (slot : Slot) (entry : Entry) (stage : Stage) (disk : DiskState) → IsRecordsTurn (slot_count slot) checkpoint
    → Beside side slot stage checkpoint disk → Beside side (with_more slot entry) Idle checkpoint disk
beside_stored NotBegun side slot entry stage disk turn beside =
    record { bytes = beside.bytes; holds = behind_more side slot entry beside.bytes beside.holds; settled_disk = beside.settled_disk }
beside_stored (Planned next) side slot entry stage disk turn beside =
    let count : slot_count (with_more slot entry) ≡ slot_count slot + 1 = omega (arith, length-append slot.rest (entry ∷ [])) in (
      record { bytes = beside.0.bytes; holds = behind_more side slot entry beside.0.bytes beside.0.holds; settled_disk = beside.0.settled_disk },
      record {
        follows = record {
          proper = beside.1.follows.proper;
          head = beside.1.follows.head;
          generation = beside.1.follows.generation;
          bare = beside.1.follows.bare;
        };
        up_to = elim (cases_lt (slot_count (with_more slot entry)) next.base) [
          | inl below ↦ inl below
          | inr above ↦ inr (omega (arith, above, count, turn), refl)
        ];
      },
    )
beside_stored (UnderWay next fill) side slot entry stage disk turn beside = absurd turn

pub knows_idle : (front : List ℕ) (number : ℕ) (next : Option Entry) (disk : DiskState) → disk ≡ settled (front ++ 0 ∷ []) → KnowsNext Idle front number next disk
knows_idle front number None disk is = (refl, is)
knows_idle front number (Some entry) disk is = (λ failed. cc, is)

stored : (slot : Slot) (entry : Entry) (next : Option Entry) (work new : SlotWriter) (disks after : Sides DiskState)
    → StandsTwo slot (Some entry) work disks → StoresRecord slot entry work disks new after
    → CanBeNext (slot_count (with_more slot entry)) next → StandsTwo (with_more slot entry) next new after
stored slot entry next work new disks after stands stores fits =
    let behind : List ℕ = after_gate (slot_count slot) entry in
    let tail : List ℕ = with_gate 0 (slot_count slot, entry) in
    let front : List ℕ = stands.front ++ 1 ∷ behind in
    let disk : DiskState = on work.side disks in
    let knows : disk ≡ _ = ready_knows work.stage phases.Stored stands.front tail disk stores.due.ready stands.knows.1 in
    let now_is : settled disk.now ≡ settled (front ++ 0 ∷ []) =
    ap (λ (d : DiskState). settled d.now) knows ∙ ap settled (sym (append_assoc stands.front (1 ∷ behind) (0 ∷ []))) in
    let now : DiskState = settled disk.now in
    rw (stores.work_is, stores.disks_are) (record {
      front = front;
      whole = front_more slot entry stands.front 1 stands.whole stands.fits.0 stands.fits.1 (λ same. absurd (omega (arith, same)));
      version = stands.version;
      generation = stands.generation;
      gate = omega (arith, stands.gate, length-append behind (0 ∷ []), length-append stands.front (1 ∷ behind));
      knows = knows_idle front (slot_count (with_more slot entry)) next (on work.side (two_sides work.side now (off work.side disks)))
          (on_two work.side now (off work.side disks) ∙ now_is);
      fits = fits;
      beside = subst (λ (d : DiskState). Beside work.side (with_more slot entry) Idle work.checkpoint d) (sym (off_two work.side now (off work.side disks)))
          (beside_stored work.checkpoint work.side slot entry work.stage (off work.side disks) stores.due.turn stands.beside);
    })

-- within a call
within_phase : (phase : Phase) (front tail left : List ℕ) (disk : DiskState) → 0 < length tail → Knows (stage_before phase) front tail disk
    → LeavesWithin (record_call phase (length front) tail) disk left → IsBeforeOrAfter front tail left
within_phase phases.Written front tail left disk some knows within =
    inl (left_behind_gate front left (length tail)
    (subst (λ (d : DiskState). LeftOf d.synced (Wrote (length front + 1) (length tail) ∷ d.changes) left) knows within))
within_phase phases.BodySynced front tail left disk some knows within = left_in Written front tail disk some knows left within
within_phase phases.GateWritten front tail left disk some knows within =
    left_at_gate front tail left some (subst (λ (d : DiskState). LeftOf d.synced (Wrote (length front) 1 ∷ d.changes) left) knows within)
within_phase phases.Stored front tail left disk some knows within = left_in GateWritten front tail disk some knows left within

beside_behind : (checkpoint : Checkpoint) (side : Side) (slot : Slot) (stage : Stage) (disk : DiskState) (left : List ℕ) → IsRecordsTurn (slot_count slot) checkpoint
    → Beside side slot stage checkpoint disk → CrashLeaves disk left → IsBehind side slot left
beside_behind NotBegun side slot stage disk left turn beside leaves = settled_behind (IsBehind side slot) disk left beside leaves
beside_behind (Planned next) side slot stage disk left turn beside leaves = settled_behind (IsBehind side slot) disk left beside.0 leaves
beside_behind (UnderWay next fill) side slot stage disk left turn beside leaves = absurd turn

pub within : (slot : Slot) (entry : Entry) (work : SlotWriter) (disks : Sides DiskState) (left : Sides (List ℕ))
    → StandsTwo slot (Some entry) work disks → CrashesInRecord slot entry work disks left
    → ShowsOne slot (Some entry) work.checkpoint left
within slot entry work disks left stands crashes =
    let tail : List ℕ = with_gate 0 (slot_count slot, entry) in
    let some : 0 < length tail = omega (arith, length-append (after_gate (slot_count slot) entry) (0 ∷ [])) in
    let knows = ready_knows work.stage crashes.phase stands.front tail (on work.side disks) crashes.due.ready stands.knows.1 in
    let here = subst (λ (n : ℕ). LeavesWithin (record_call crashes.phase n tail) (on work.side disks) (on work.side left)) stands.gate crashes.within in
    shows_left work.side slot (Some entry) work.checkpoint stands.front left stands.whole stands.fits
    (either entry refl (within_phase crashes.phase stands.front tail (on work.side left) (on work.side disks) some knows here))
    (beside_behind work.checkpoint work.side slot work.stage (off work.side disks) (off work.side left) crashes.due.turn stands.beside crashes.other)

failed : (slot : Slot) (entry : Entry) (work : SlotWriter) (disks after : Sides DiskState)
    → StandsTwo slot (Some entry) work disks → FailsRecord slot entry work disks after
    → IsSafeTwo slot (Some entry) work.checkpoint after
failed slot entry work disks after stands fails = record {
  each = λ left leaves.
      let both = leaves_on work.side after left leaves in
      within slot entry work disks left stands (record {
        phase = fails.phase;
        due = fails.due;
        within = after_failed (due_call slot entry work fails.phase) (on work.side disks) (on work.side after) (on work.side left) fails.fails both.0;
        other = subst (λ (d : DiskState). CrashLeaves d (off work.side left)) fails.same both.1;
      });
  possible = reads_possible work.side after
      (failed_possible (due_call slot entry work fails.phase) (on work.side disks) (on work.side after) fails.fails)
      (subst (λ (d : DiskState). CrashLeaves d d.now) (sym fails.same)
      (beside_possible work.side slot work.stage work.checkpoint (off work.side disks) stands.beside));
}

pub records_keep_standing : RecordsKeepStanding
records_keep_standing = record { waits = waits; begun = begun; called = called; stored = stored; failed = failed; within = within }
