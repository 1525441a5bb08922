-- A call for the next record is the step that it should be.
use Rattle.std.specs.Prelude.{◌≡◌, ◌≢◌, ℕ, ◌+◌, List, [], ◌∷◌, Some, None, Ok, Err, length, refl}
use Rattle.std.proofs.Common.{arith, sym, ap, subst, ◌∙◌, inl, inr}
use Rattle.std.proofs.lemmas.List.{length-append}
use Rattle.ide_disk.specs.Disk.{CrashLeaves, DiskState}
use Rattle.ide_disk.specs.Time.{Elapses}
use Rattle.ide_disk.specs.declared.disk.Disk.{Ghosts}
use Rattle.ide_journal.specs.Bytes.{EndsAt}
use Rattle.ide_journal.specs.Format.{Entry}
use Rattle.ide_journal.specs.Phases.{stage_after}
use Rattle.ide_journal.specs.declared.stage.Phase.{Phase}
use Rattle.ide_journal.specs.declared.stage.Phase.TheVariants as phases
use Rattle.ide_journal.specs.declared.stage.Stage.TheVariants as journal
use Rattle.ide_slots.specs.DiskCalls.{DiskCall, FailsSo, after_disk_call}
use Rattle.ide_slots.specs.Filling.{Filling, with_gate}
use Rattle.ide_slots.specs.Sides.{Sides, two_sides}
use Rattle.ide_slots.specs.declared.side.Side.{Side}
use Rattle.ide_slots.specs.Slot.{Slot, slot_count, with_more}
use Rattle.ide_slots.specs.TwoCalls.{CallsRecord, CrashesInRecord, FailsRecord, IsDue, IsReadyFor, IsRecordsTurn, StoresRecord, due_call, on_current, record_call}
use Rattle.ide_slots.proofs.Writers.{records_keep_standing}
use Rattle.ide_wire.specs.declared.refused.Refused.TheVariants as refusals
use Rattle.ide_slot_journal.specs.Moments.{LeavesInCall, LeavesOnlyTwo, before_call, within_call}
use Rattle.ide_slot_journal.specs.Records.{KeepsOther, ReachesPhase, RecordStep, record_called, record_failed, record_stored}
use Rattle.ide_slot_journal.specs.Stages.{IsTurnAt, checkpoint_at, once_stored, phase_from, record_stage, stage_of}
use Rattle.ide_slot_journal.specs.Stands.{FillsWith, IsTurn, KnowsClosed, StandsOn, checkpoint_of, disks_of, sides_of, slot_writer}
use Rattle.ide_slot_journal.specs.declared.filler.Filler.{Filler}
use Rattle.ide_slot_journal.specs.declared.journal.SlotJournal.{SlotJournal}
use Rattle.ide_slot_journal.specs.declared.stage.FillStage.{FillStage}
use Rattle.ide_slot_journal.specs.declared.stage.FillStage.TheVariants as fills
use Rattle.ide_slot_journal.specs.declared.stage.RecordStage.{RecordStage}
use Rattle.ide_slot_journal.specs.declared.stage.RecordStage.TheVariants as stages
use Rattle.ide_slot_journal.proofs.Both.{called_two, failed_two, same_two, since_current}

turn_at : (stage : FillStage) (other : Slot) (fill : Filling) (base count number : ℕ) → count ≡ number
    → (stage ≢ fills.Rests → base ≡ other.base) → IsTurnAt stage base count → IsRecordsTurn number (checkpoint_at stage other fill)
turn_at fills.Rests other fill base count number same base_is turn = tt
turn_at fills.Waits other fill base count number same base_is turn = let is : base ≡ other.base = base_is (λ no. cc) in omega (arith, turn, same, is)
turn_at fills.Settles other fill base count number same base_is turn = absurd turn
turn_at fills.Trims other fill base count number same base_is turn = absurd turn
turn_at fills.Heads other fill base count number same base_is turn = absurd turn
turn_at fills.Fills other fill base count number same base_is turn = absurd turn
turn_at fills.OpensGate other fill base count number same base_is turn = absurd turn
turn_at fills.Lasts other fill base count number same base_is turn = absurd turn

ready_from : (stage : RecordStage) → stage ≢ stages.Idle → stage ≢ stages.Failed → IsReadyFor (stage_of stage) (phase_from stage)
ready_from stages.Idle busy whole = absurd (busy refl)
ready_from stages.Waits busy whole = inr (refl, refl)
ready_from stages.Written busy whole = inl refl
ready_from stages.BodySynced busy whole = inl refl
ready_from stages.GateWritten busy whole = inl refl
ready_from stages.Failed busy whole = absurd (whole refl)

-- the call of its stage is due
due : {D : Type 0} {G : Ghosts D} (slot : Slot) (entry : Entry) (other : Slot) (old : SlotJournal D G) → StandsOn slot (Some entry) other old
    → old.stage ≢ stages.Failed → IsTurn old → IsDue slot (slot_writer other old) (phase_from old.stage)
due slot entry other old stands whole turn = record {
  turn = turn_at old.filler.stage other _ old.filler.base old.count (slot_count slot) stands.count (λ some. (stands.fills_with some).base) turn;
  ready = ready_from old.stage stands.has_next.0 whole;
}

-- the call that is made is the one that is due
due_is : {D : Type 0} {G : Ghosts D} (slot : Slot) (entry : Entry) (other : Slot) (old : SlotJournal D G) → StandsOn slot (Some entry) other old
    → (phase : Phase) → record_call phase old.gate old.tail.items ≡ due_call slot entry (slot_writer other old) phase
due_is slot entry other old stands phase = ap (λ (tail : List ℕ). record_call phase old.gate tail) stands.has_next.2

-- both disks after a good call
disks_are : {D : Type 0} {G : Ghosts D} (slot : Slot) (entry : Entry) (other : Slot) (old new : SlotJournal D G) (phase : Phase)
    → StandsOn slot (Some entry) other old → KeepsOther old new
    → G.state new.current ≡ after_disk_call (record_call phase old.gate old.tail.items) (G.state old.current)
    → disks_of new ≡ on_current (slot_writer other old) (due_call slot entry (slot_writer other old) phase) (disks_of old)
disks_are {D} {G} slot entry other old new phase stands keeps good =
    let here : disks_of new ≡ two_sides old.side (G.state new.current) (G.state old.other) =
    λ i. two_sides (keeps.side i) (G.state new.current) (G.state (keeps.other i)) in
    here ∙ called_two old.side (due_call slot entry (slot_writer other old) phase) (G.state old.current) (G.state new.current) (G.state old.other)
    (good ∙ ap (λ (call : DiskCall). after_disk_call call (G.state old.current)) (due_is slot entry other old stands phase))

before_stored : (phase : Phase) → phase ≢ phases.Stored → (before after : ℕ) → once_stored phase before after ≡ before
before_stored phases.Written more before after = refl
before_stored phases.BodySynced more before after = refl
before_stored phases.GateWritten more before after = refl
before_stored phases.Stored more before after = absurd (more refl)

stage_is : (phase : Phase) → stage_of (record_stage phase) ≡ stage_after phase
stage_is phases.Written = refl
stage_is phases.BodySynced = refl
stage_is phases.GateWritten = refl
stage_is phases.Stored = refl

busy_still : (phase : Phase) → phase ≢ phases.Stored → record_stage phase ≢ stages.Idle
busy_still phases.Written more = λ same. cc
busy_still phases.BodySynced more = λ same. cc
busy_still phases.GateWritten more = λ same. cc
busy_still phases.Stored more = absurd (more refl)

-- a call that does not store the record
called : {D : Type 0} {G : Ghosts D} (slot : Slot) (entry : Entry) (other : Slot) (old new : SlotJournal D G) (phase : Phase)
    → StandsOn slot (Some entry) other old → IsDue slot (slot_writer other old) phase → phase ≢ phases.Stored
    → ReachesPhase phase old new → KeepsOther old new
    → G.state new.current ≡ after_disk_call (record_call phase old.gate old.tail.items) (G.state old.current)
    → EndsAt (stage_of new.stage) new.end (new.gate + length new.tail.items)
    → RecordStep slot entry other old new (Ok phase)
called {D} {G} slot entry other old new phase stands is_due more reaches keeps good end =
    let gate : new.gate ≡ old.gate = reaches.gate ∙ before_stored phase more old.gate old.end in
    let stage : stage_of new.stage ≡ stage_after phase = ap stage_of reaches.stage ∙ stage_is phase in
    let work : slot_writer other new ≡ record (slot_writer other old) { stage = stage_after phase } =
    λ i. record {
      side = keeps.side i;
      version = keeps.version i;
      generation = keeps.generation i;
      gate = gate i;
      stage = stage i;
      checkpoint = checkpoint_of other (keeps.filler i);
    } in
    let calls : CallsRecord slot entry (slot_writer other old) (disks_of old) (slot_writer other new) (disks_of new) = record {
      phase = phase;
      due = is_due;
      more = more;
      work_is = work;
      disks_are = disks_are slot entry other old new phase stands keeps good;
    } in
    record_called calls (record {
      two = records_keep_standing.called slot entry (slot_writer other old) (slot_writer other new) (disks_of old) (disks_of new) stands.two calls;
      version = keeps.version ∙ stands.version;
      tag = keeps.tag ∙ stands.tag;
      base = keeps.base ∙ stands.base;
      count = reaches.count ∙ before_stored phase more old.count old.next ∙ stands.count;
      has_next = (
        λ idle. busy_still phase more (sym reaches.stage ∙ idle),
        reaches.next ∙ stands.has_next.1,
        reaches.tail ∙ stands.has_next.2,
      );
      end = end;
      fills_with = subst (λ (f : Filler). f.stage ≢ fills.Rests → FillsWith other f) (sym keeps.filler) stands.fills_with;
      knows_closed = subst (λ (f : Filler). KnowsClosed f.stage f.closed (G.state new.other).now) (sym keeps.filler)
          (subst (λ (d : D). KnowsClosed old.filler.stage old.filler.closed (G.state d).now) (sym keeps.other) stands.knows_closed);
    })

-- the call that stores it
stored : {D : Type 0} {G : Ghosts D} (slot : Slot) (entry : Entry) (other : Slot) (old new : SlotJournal D G)
    → StandsOn slot (Some entry) other old → IsDue slot (slot_writer other old) phases.Stored
    → ReachesPhase phases.Stored old new → KeepsOther old new
    → G.state new.current ≡ after_disk_call (record_call phases.Stored old.gate old.tail.items) (G.state old.current)
    → old.end ≡ old.gate + length old.tail.items
    → RecordStep slot entry other old new (Ok phases.Stored)
stored {D} {G} slot entry other old new stands is_due reaches keeps good end =
    let gate : new.gate ≡ old.gate + length (with_gate 0 (slot_count slot, entry)) =
    reaches.gate ∙ end ∙ ap (λ (tail : List ℕ). old.gate + length tail) stands.has_next.2 in
    let work : slot_writer other new ≡ record (slot_writer other old) {
      stage = journal.Idle;
      gate = old.gate + length (with_gate 0 (slot_count slot, entry));
    } =
    λ i. record {
      side = keeps.side i;
      version = keeps.version i;
      generation = keeps.generation i;
      gate = gate i;
      stage = stage_of (reaches.stage i);
      checkpoint = checkpoint_of other (keeps.filler i);
    } in
    let stores : StoresRecord slot entry (slot_writer other old) (disks_of old) (slot_writer other new) (disks_of new) = record {
      due = is_due;
      work_is = work;
      disks_are = disks_are slot entry other old new phases.Stored stands keeps good;
    } in
    let count : new.count ≡ slot_count (with_more slot entry) =
    omega (arith, reaches.count, stands.has_next.1, length-append slot.rest (entry ∷ [])) in
    record_stored stores (record {
      two = records_keep_standing.stored slot entry None (slot_writer other old) (slot_writer other new) (disks_of old) (disks_of new) stands.two stores tt;
      version = keeps.version ∙ stands.version;
      tag = keeps.tag ∙ stands.tag;
      base = keeps.base ∙ stands.base;
      count = count;
      has_next = (reaches.stage, reaches.next ∙ sym reaches.count ∙ count);
      end = subst (λ (s : RecordStage). EndsAt (stage_of s) new.end (new.gate + length new.tail.items)) (sym reaches.stage) tt;
      fills_with = subst (λ (f : Filler). f.stage ≢ fills.Rests → FillsWith other f) (sym keeps.filler) stands.fills_with;
      knows_closed = subst (λ (f : Filler). KnowsClosed f.stage f.closed (G.state new.other).now) (sym keeps.filler)
          (subst (λ (d : D). KnowsClosed old.filler.stage old.filler.closed (G.state d).now) (sym keeps.other) stands.knows_closed);
    })

-- where the record ends, once it is written
end_at : {D : Type 0} {G : Ghosts D} (old : SlotJournal D G) (stage : RecordStage) → old.stage ≡ stage
    → EndsAt (stage_of old.stage) old.end (old.gate + length old.tail.items)
    → EndsAt (stage_of stage) old.end (old.gate + length old.tail.items)
end_at old stage is end = subst (λ (s : RecordStage). EndsAt (stage_of s) old.end (old.gate + length old.tail.items)) is end

good_from : {D : Type 0} {G : Ghosts D} (slot : Slot) (entry : Entry) (other : Slot) (old new : SlotJournal D G) (stage : RecordStage)
    → old.stage ≡ stage → stage ≢ stages.Failed
    → StandsOn slot (Some entry) other old → IsDue slot (slot_writer other old) (phase_from stage)
    → ReachesPhase (phase_from stage) old new → KeepsOther old new
    → G.state new.current ≡ after_disk_call (record_call (phase_from stage) old.gate old.tail.items) (G.state old.current)
    → RecordStep slot entry other old new (Ok (phase_from stage))
good_from slot entry other old new stages.Idle is whole stands is_due reaches keeps good = absurd (stands.has_next.0 is)
good_from slot entry other old new stages.Waits is whole stands is_due reaches keeps good =
    called slot entry other old new phases.Written stands is_due (λ no. cc) reaches keeps good
    (subst (λ (s : RecordStage). EndsAt (stage_of s) new.end (new.gate + length new.tail.items)) (sym reaches.stage)
    (omega (arith, reaches.end, reaches.gate, ap length reaches.tail)))
good_from slot entry other old new stages.Written is whole stands is_due reaches keeps good =
    called slot entry other old new phases.BodySynced stands is_due (λ no. cc) reaches keeps good
    (subst (λ (s : RecordStage). EndsAt (stage_of s) new.end (new.gate + length new.tail.items)) (sym reaches.stage)
    (omega (arith, reaches.end, reaches.gate, ap length reaches.tail, end_at old stages.Written is stands.end)))
good_from slot entry other old new stages.BodySynced is whole stands is_due reaches keeps good =
    called slot entry other old new phases.GateWritten stands is_due (λ no. cc) reaches keeps good
    (subst (λ (s : RecordStage). EndsAt (stage_of s) new.end (new.gate + length new.tail.items)) (sym reaches.stage)
    (omega (arith, reaches.end, reaches.gate, ap length reaches.tail, end_at old stages.BodySynced is stands.end)))
good_from slot entry other old new stages.GateWritten is whole stands is_due reaches keeps good =
    stored slot entry other old new stands is_due reaches keeps good (end_at old stages.GateWritten is stands.end)
good_from slot entry other old new stages.Failed is whole stands is_due reaches keeps good = absurd (whole refl)

-- a good call
pub good_step : {D : Type 0} {G : Ghosts D} (slot : Slot) (entry : Entry) (other : Slot) (old new : SlotJournal D G) (phase : Phase)
    → old.stage ≢ stages.Failed → IsTurn old
    → ReachesPhase phase old new → KeepsOther old new
    → G.state new.current ≡ after_disk_call (record_call (phase_from old.stage) old.gate old.tail.items) (G.state old.current)
    → StandsOn slot (Some entry) other old → RecordStep slot entry other old new (Ok phase)
good_step {D} {G} slot entry other old new phase whole turn reaches keeps good stands =
    subst (λ (p : Phase). RecordStep slot entry other old new (Ok p)) (sym reaches.is)
    (good_from slot entry other old new old.stage refl whole stands (due slot entry other old stands whole turn)
    (subst (λ (p : Phase). ReachesPhase p old new) reaches.is reaches) keeps good)

-- a failed one
pub failed_step : {D : Type 0} {G : Ghosts D} (slot : Slot) (entry : Entry) (other : Slot) (old new : SlotJournal D G)
    → old.stage ≢ stages.Failed → IsTurn old → new.side ≡ old.side → new.other ≡ old.other
    → FailsSo (record_call (phase_from old.stage) old.gate old.tail.items) (G.state old.current) (G.state new.current)
    → StandsOn slot (Some entry) other old → RecordStep slot entry other old new (Err refusals.Disk)
failed_step {D} {G} slot entry other old new whole turn side same fails stands =
    let call : DiskCall = due_call slot entry (slot_writer other old) (phase_from old.stage) in
    let here : two_sides old.side (G.state new.current) (G.state old.other) ≡ disks_of new =
    λ i. two_sides (sym side i) (G.state new.current) (G.state (sym same i)) in
    record_failed (subst (λ (disks : Sides DiskState). FailsRecord slot entry (slot_writer other old) (disks_of old) disks) here (record {
      phase = phase_from old.stage;
      due = due slot entry other old stands whole turn;
      fails = failed_two old.side call (G.state old.current) (G.state new.current) (G.state old.other)
          (subst (λ (c : DiskCall). FailsSo c (G.state old.current) (G.state new.current)) (due_is slot entry other old stands (phase_from old.stage)) fails);
      same = same_two old.side (G.state old.current) (G.state new.current) (G.state old.other);
    }))

-- what a crash leaves since it began
pub left_in_step : {D : Type 0} {G : Ghosts D} (slot : Slot) (entry : Entry) (other : Slot) (old : SlotJournal D G) (side : Side) (current beside : D)
    → old.stage ≢ stages.Failed → IsTurn old → side ≡ old.side → beside ≡ old.other
    → ((bytes : List ℕ) → G.left_since old.current (G.moment old.current) bytes → CrashLeaves (G.state old.current) bytes)
    → ((bytes : List ℕ) → G.left_since old.other (G.moment old.other) bytes → CrashLeaves (G.state old.other) bytes)
    → Elapses G.moment G.left_since G.state old.current current
    → FailsSo (record_call (phase_from old.stage) old.gate old.tail.items) (G.state old.current) (G.state current)
    → StandsOn slot (Some entry) other old
    → LeavesOnlyTwo G (sides_of old) (two_sides side current beside)
    (LeavesInCall (disks_of old) (CrashesInRecord slot entry (slot_writer other old) (disks_of old)))
left_in_step {D} {G} slot entry other old side current beside whole turn same_side same only_now other_now time fails stands left a b =
    let call : DiskCall = due_call slot entry (slot_writer other old) (phase_from old.stage) in
    let here : two_sides side current beside ≡ two_sides old.side current old.other = λ i. two_sides (same_side i) current (same i) in
    let since = since_current G old.side call old.current current old.other left only_now other_now time
    (subst (λ (c : DiskCall). FailsSo c (G.state old.current) (G.state current)) (due_is slot entry other old stands (phase_from old.stage)) fails)
    (subst (λ (s : Sides D). G.left_since s.a (G.moment (sides_of old).a) left.a) here a)
    (subst (λ (s : Sides D). G.left_since s.b (G.moment (sides_of old).b) left.b) here b) in
    elim since [
      | inl before ↦ before_call before
      | inr crash ↦ within_call (record {
        phase = phase_from old.stage;
        due = due slot entry other old stands whole turn;
        within = crash.within;
        other = crash.other;
      })
    ]
