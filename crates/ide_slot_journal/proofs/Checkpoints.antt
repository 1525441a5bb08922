-- A call of a checkpoint is the step that it should be.
use Rattle.std.specs.Prelude.{◌≡◌, ◌≢◌, ℕ, ◌+◌, ◌<◌, ◌≤◌, Bool, true, false, List, [], ◌∷◌, ◌++◌, Option, Some, None, Ok, Err, length, refl}
use Rattle.std.specs.Global.{Vec}
use Rattle.std.proofs.Common.{arith, sym, ap, subst, ◌∙◌, inl, inr}
use Rattle.ide_disk.specs.Disk.{CrashLeaves, DiskState, settled}
use Rattle.ide_disk.specs.Time.{Elapses}
use Rattle.ide_disk.specs.declared.disk.Disk.{Ghosts}
use Rattle.ide_journal.specs.Bytes.{EndsAt}
use Rattle.ide_journal.specs.Format.{Entry, Head}
use Rattle.ide_journal.specs.declared.stage.Stage.{Stage}
use Rattle.ide_journal.specs.declared.stage.Stage.TheVariants as journal
use Rattle.ide_slots.specs.DiskCalls.{DiskCall, FailsSo, Syncs, after_disk_call}
use Rattle.ide_slots.specs.Filling.{Closes, Filling, Lasts, fill_call, fill_next, filled_by}
use Rattle.ide_slots.specs.Sides.{Sides, across, off, on, two_sides}
use Rattle.ide_slots.specs.Slot.{IsClosedSlot, Slot, records_of, slot_count}
use Rattle.ide_slots.specs.Two.{Beside, Checkpoint, IsMade, IsUpTo, NotBegun, Planned, StandsTwo, UnderWay}
use Rattle.ide_slots.specs.TwoCalls.{CallsCheckpoint, CrashesInCheckpoint, EndsCheckpoint, FailsCheckpoint, TellsClosed, turned_to}
use Rattle.ide_slots.proofs.Checkpoints.{checkpoints_keep_standing}
use Rattle.ide_slots.proofs.Fronts.{held_before, next_some, some_records}
use Rattle.ide_slots.proofs.Gates.{not_both, open_held}
use Rattle.ide_slots.proofs.Standing.{at_idle}
use Rattle.ide_slots.proofs.Writers.{off_two, on_two}
use Rattle.ide_wire.specs.declared.refused.Refused.TheVariants as refusals
use Rattle.ide_slot_journal.specs.Checkpoints.{BeginsIfWaiting, CheckpointStep, FillsOn, FillsOrTurns, KeepsNext, TurnsOver, called_disk, checkpoint_called, checkpoint_ended, checkpoint_failed, filling_writer}
use Rattle.ide_slot_journal.specs.Fillers.{HasMovedOn, call_of}
use Rattle.ide_slot_journal.specs.Moments.{LeavesInCall, LeavesOnlyTwo, before_call, within_call}
use Rattle.ide_slot_journal.specs.Stages.{IsFillingAt, checkpoint_at, fill_stage_after, filling_at, place_after, stage_of}
use Rattle.ide_slot_journal.specs.Stands.{FillsWith, HasSpelledNext, HasTodo, IsFilling, KnowsClosed, StandsOn, checkpoint_of, disks_of, filling_of, sides_of, todo_of, slot_writer}
use Rattle.ide_slot_journal.specs.declared.filler.Filler.{Filler}
use Rattle.ide_slot_journal.specs.declared.journal.SlotJournal.{SlotJournal}
use Rattle.ide_slot_journal.specs.declared.stage.FillStage.{FillStage}
use Rattle.ide_slot_journal.specs.declared.stage.FillStage.TheVariants as fills
use Rattle.ide_slot_journal.specs.declared.stage.RecordStage.{RecordStage}
use Rattle.ide_slot_journal.proofs.Both.{called_other, failed_other, same_other, since_other, turned_two}
use Rattle.ide_slot_journal.proofs.Fillings.{call_fills, makes_calls, next_filling, next_todo, not_last}

-- there is a checkpoint
pub some_checkpoint : (stage : FillStage) (base count : ℕ) → IsFillingAt stage base count → stage ≢ fills.Rests
some_checkpoint fills.Rests base count turn = absurd turn
some_checkpoint fills.Waits base count turn = λ same. cc
some_checkpoint fills.Settles base count turn = λ same. cc
some_checkpoint fills.Trims base count turn = λ same. cc
some_checkpoint fills.Heads base count turn = λ same. cc
some_checkpoint fills.Fills base count turn = λ same. cc
some_checkpoint fills.OpensGate base count turn = λ same. cc
some_checkpoint fills.Lasts base count turn = λ same. cc

-- where all records below the base are stored, there are as many
all_stored : (count base : ℕ) (stage : Stage) → IsUpTo count base stage → base ≤ count → count ≡ base
all_stored count base stage (inl below) turn = absurd (omega (arith, below, turn))
all_stored count base stage (inr both) turn = both.0

-- one that waits begins its calls
pub begins : {D : Type 0} {G : Ghosts D} (slot : Slot) (next : Option Entry) (other : Slot) (old : SlotJournal D G) → StandsOn slot next other old
    → IsFilling old → BeginsIfWaiting slot other old
begins {D} {G} slot next other old stands turn waits =
    let filler = old.filler in
    let some = some_checkpoint filler.stage filler.base old.count turn in
    let planned : checkpoint_of other filler ≡ Planned other = ap (λ (s : FillStage). checkpoint_at s other (filling_of filler)) waits in
    let beside : Beside old.side slot (stage_of old.stage) (Planned other) (off old.side (disks_of old)) =
    subst (λ (c : Checkpoint). Beside old.side slot (stage_of old.stage) c (off old.side (disks_of old))) planned stands.two.beside in
    let due : filler.base ≤ old.count = subst (λ (s : FillStage). IsFillingAt s filler.base old.count) waits turn in
    let base : filler.base ≡ other.base = (stands.fills_with some).base in
    let count : old.count ≡ slot_count slot = stands.count in
    let tells : TellsClosed filler.closed (G.state old.other).now =
    subst (λ (s : FillStage). KnowsClosed s filler.closed (G.state old.other).now) waits stands.knows_closed in
    let fill : filling_of filler ≡ Closes filler.closed = ap (λ (s : FillStage). filling_at s filler.closed filler.at (todo_of filler)) waits in
    record {
      next = other;
      planned = planned;
      stored = all_stored (slot_count slot) other.base (stage_of old.stage) beside.1.up_to (omega (arith, due, base, count));
      closed = filler.closed;
      tells = subst (λ (d : DiskState). TellsClosed filler.closed d.now) (sym (off_two old.side (G.state old.current) (G.state old.other))) tells;
      work_is = ap (λ (f : Filling). record (slot_writer other old) { checkpoint = UnderWay other f }) fill;
    }

-- the writer stands with the checkpoint that makes its calls
filling_stands : {D : Type 0} {G : Ghosts D} (slot : Slot) (next : Option Entry) (other : Slot) (old : SlotJournal D G) (stage : FillStage)
    → old.filler.stage ≡ stage → StandsOn slot next other old → IsFilling old
    → StandsTwo slot next (filling_writer other old) (disks_of old)
filling_stands slot next other old fills.Rests is stands turn =
    absurd (some_checkpoint old.filler.stage old.filler.base old.count turn is)
filling_stands slot next other old fills.Waits is stands turn =
    checkpoints_keep_standing.begun slot next (slot_writer other old) (filling_writer other old) (disks_of old) stands.two (begins slot next other old stands turn is)
filling_stands slot next other old fills.Settles is stands turn =
    subst (λ (s : FillStage). StandsTwo slot next (record (slot_writer other old) { checkpoint = checkpoint_at s other (filling_of old.filler) }) (disks_of old)) is stands.two
filling_stands slot next other old fills.Trims is stands turn =
    subst (λ (s : FillStage). StandsTwo slot next (record (slot_writer other old) { checkpoint = checkpoint_at s other (filling_of old.filler) }) (disks_of old)) is stands.two
filling_stands slot next other old fills.Heads is stands turn =
    subst (λ (s : FillStage). StandsTwo slot next (record (slot_writer other old) { checkpoint = checkpoint_at s other (filling_of old.filler) }) (disks_of old)) is stands.two
filling_stands slot next other old fills.Fills is stands turn =
    subst (λ (s : FillStage). StandsTwo slot next (record (slot_writer other old) { checkpoint = checkpoint_at s other (filling_of old.filler) }) (disks_of old)) is stands.two
filling_stands slot next other old fills.OpensGate is stands turn =
    subst (λ (s : FillStage). StandsTwo slot next (record (slot_writer other old) { checkpoint = checkpoint_at s other (filling_of old.filler) }) (disks_of old)) is stands.two
filling_stands slot next other old fills.Lasts is stands turn =
    subst (λ (s : FillStage). StandsTwo slot next (record (slot_writer other old) { checkpoint = checkpoint_at s other (filling_of old.filler) }) (disks_of old)) is stands.two

-- the call that is made is that of the filling
call_is_fill : {D : Type 0} {G : Ghosts D} (slot : Slot) (next : Option Entry) (other : Slot) (old : SlotJournal D G) → StandsOn slot next other old
    → IsFilling old → call_of old.filler ≡ fill_call other (filling_of old.filler)
call_is_fill slot next other old stands turn =
    let some = some_checkpoint old.filler.stage old.filler.base old.count turn in
    call_fills old.filler.stage old.filler.closed old.filler.at old.filler.page.items (todo_of old.filler) other some (stands.fills_with some).page

-- the next record is the same
pub same_next : {D : Type 0} {G : Ghosts D} (number : ℕ) (next : Option Entry) (old new : SlotJournal D G) → new.stage ≡ old.stage → new.next ≡ old.next
    → new.tail.items ≡ old.tail.items → HasSpelledNext number next old → HasSpelledNext number next new
same_next number None old new stage next_is tail has = (stage ∙ has.0, next_is ∙ has.1)
same_next number (Some entry) old new stage next_is tail has = (λ idle. has.0 (sym stage ∙ idle), next_is ∙ has.1, tail ∙ has.2)

-- a good call that is not the last
filled_step : {D : Type 0} {G : Ghosts D} (slot : Slot) (next : Option Entry) (other : Slot) (old new : SlotJournal D G)
    → IsFilling old → FillsOn old new → KeepsNext old new
    → G.state new.other ≡ after_disk_call (call_of old.filler) (G.state old.other)
    → StandsOn slot next other old → CheckpointStep slot next other old new (Ok false)
filled_step {D} {G} slot next other old new turn moves keeps good stands =
    let filler = old.filler in
    let more = moves.more in
    let m = moves.filler in
    let some = some_checkpoint filler.stage filler.base old.count turn in
    let with : FillsWith other filler = stands.fills_with some in
    let fill : Filling = filling_of filler in
    let two = filling_stands slot next other old filler.stage refl stands turn in
    let made : IsMade old.side slot other (stage_of old.stage) fill (off old.side (disks_of old)) = two.beside in
    let checkpoint : checkpoint_of other new.filler ≡ UnderWay other (fill_next other fill) =
    (λ i. checkpoint_at (m.stage i) other (filling_at (m.stage i) (m.closed i) (m.place i) (m.todo i)))
    ∙ next_filling filler.stage filler.closed filler.at (todo_of filler) other some more with.todo in
    let work : slot_writer other new ≡ record (filling_writer other old) { checkpoint = UnderWay other (fill_next other fill) } =
    λ i. record {
      side = moves.side i;
      version = moves.version i;
      generation = moves.generation i;
      gate = moves.gate i;
      stage = stage_of (moves.stage i);
      checkpoint = checkpoint i;
    } in
    let here : disks_of new ≡ two_sides old.side (G.state old.current) (G.state new.other) =
    λ i. two_sides (moves.side i) (G.state (moves.current i)) (G.state new.other) in
    let calls : CallsCheckpoint (filling_writer other old) (disks_of old) (slot_writer other new) (disks_of new) = record {
      next = other;
      fill = fill;
      under_way = refl;
      more = not_last filler.stage filler.closed filler.at (todo_of filler) more;
      work_is = work;
      disks_are = here ∙ called_other old.side (fill_call other fill) (G.state old.current) (G.state old.other) (G.state new.other)
          (good ∙ ap (λ (call : DiskCall). after_disk_call call (G.state old.other)) (call_is_fill slot next other old stands turn));
    } in
    checkpoint_called calls (record {
      two = checkpoints_keep_standing.called slot next (filling_writer other old) (slot_writer other new) (disks_of old) (disks_of new) two calls;
      version = moves.version ∙ stands.version;
      tag = keeps.tag ∙ stands.tag;
      base = moves.base ∙ stands.base;
      count = keeps.count ∙ stands.count;
      has_next = same_next (slot_count slot) next old new moves.stage keeps.next (ap (λ (v : Vec ℕ). v.items) keeps.tail) stands.has_next;
      end = subst (λ (s : RecordStage). EndsAt (stage_of s) new.end (new.gate + length new.tail.items)) (sym moves.stage)
          (subst (λ (v : Vec ℕ). EndsAt (stage_of old.stage) new.end (new.gate + length v.items)) (sym keeps.tail)
          (subst (λ (n : ℕ). EndsAt (stage_of old.stage) n (new.gate + length old.tail.items)) (sym moves.end)
          (subst (λ (n : ℕ). EndsAt (stage_of old.stage) old.end (n + length old.tail.items)) (sym moves.gate) stands.end)));
      fills_with = λ still. record {
        generation = m.generation ∙ with.generation;
        base = m.base ∙ with.base;
        page = ap (λ (v : Vec ℕ). v.items) m.page ∙ with.page;
        todo = subst (λ (s : FillStage). HasTodo s other new.filler.at (todo_of new.filler)) (sym m.stage)
            (subst (λ (n : ℕ). HasTodo (fill_stage_after filler.stage (todo_of filler)) other n (todo_of new.filler)) (sym m.place)
            (subst (λ (todo : List (List ℕ)). HasTodo (fill_stage_after filler.stage (todo_of filler)) other (place_after filler.stage filler.at (todo_of filler)) todo) (sym m.todo)
            (next_todo filler.stage filler.closed filler.at (todo_of filler) other old.side slot.generation (off old.side (disks_of old)) some with.todo made.filling)));
      };
      knows_closed = subst (λ (s : FillStage). KnowsClosed s new.filler.closed (G.state new.other).now) (sym m.stage)
          (makes_calls filler.stage (todo_of filler) new.filler.closed (G.state new.other).now some);
    })

-- the last one
turned_step : {D : Type 0} {G : Ghosts D} (slot : Slot) (next : Option Entry) (other : Slot) (old new : SlotJournal D G)
    → IsFilling old → TurnsOver old new → KeepsNext old new
    → G.state new.current ≡ after_disk_call (call_of old.filler) (G.state old.other)
    → StandsOn slot next other old → CheckpointStep slot next other old new (Ok true)
turned_step {D} {G} slot next other old new turn turns keeps good stands =
    let filler = old.filler in
    let some = some_checkpoint filler.stage filler.base old.count turn in
    let with : FillsWith other filler = stands.fills_with some in
    let fill : filling_of filler ≡ Lasts = ap (λ (s : FillStage). filling_at s filler.closed filler.at (todo_of filler)) turns.last in
    let two = filling_stands slot next other old filler.stage refl stands turn in
    let made : IsMade old.side slot other (stage_of old.stage) (filling_of filler) (off old.side (disks_of old)) = two.beside in
    let follows = made.follows in
    let place : filler.at ≡ 4097 + length (filled_by other) =
    subst (λ (s : FillStage). HasTodo s other filler.at (todo_of filler)) turns.last with.todo in
    let gate : new.gate ≡ 4096 + length (filled_by other) = omega (arith, turns.gate, place) in
    let idle : stage_of new.stage ≡ journal.Idle = ap stage_of turns.stage ∙ made.idle in
    let generation : new.generation ≡ other.generation = turns.generation ∙ with.generation in
    let version : new.version ≡ other.head.version = turns.version ∙ sym (ap (λ (h : Head). h.version) follows.head) in
    let checkpoint : checkpoint_of other new.filler ≡ NotBegun = ap (λ (s : FillStage). checkpoint_at s other (filling_of new.filler)) turns.rests in
    let work : slot_writer other new ≡ turned_to (filling_writer other old) other =
    λ i. record {
      side = turns.side i;
      version = version i;
      generation = generation i;
      gate = gate i;
      stage = idle i;
      checkpoint = checkpoint i;
    } in
    let here : disks_of new ≡ two_sides (across old.side) (G.state new.current) (G.state old.current) =
    λ i. two_sides (turns.side i) (G.state new.current) (G.state (turns.other i)) in
    let call : call_of filler ≡ Syncs = call_is_fill slot next other old stands turn ∙ ap (λ (f : Filling). fill_call other f) fill in
    let ends : EndsCheckpoint (filling_writer other old) (disks_of old) (slot_writer other new) other (disks_of new) = record {
      under_way = ap (λ (f : Filling). UnderWay other f) fill;
      work_is = work;
      disks_are = here ∙ turned_two old.side (G.state old.current) (G.state new.current)
          ∙ called_other old.side Syncs (G.state old.current) (G.state old.other) (G.state new.current)
          (good ∙ ap (λ (c : DiskCall). after_disk_call c (G.state old.other)) call);
    } in
    let count : slot_count slot ≡ slot_count other = made.stored ∙ omega (arith, ap length follows.bare) in
    let some_before : 0 < length (records_of slot) =
    some_records slot two.whole.proper (let base = (next_some slot other follows).1 in omega (arith, made.stored, base)) in
    let current : G.state old.current ≡ settled (two.front ++ 0 ∷ []) =
    sym (on_two old.side (G.state old.current) (G.state old.other))
    ∙ at_idle (stage_of old.stage) two.front (slot_count slot) next (on old.side (disks_of old)) made.idle two.knows in
    let opened = open_held slot (two.front ++ 0 ∷ []) some_before (held_before slot two.front (two.front ++ 0 ∷ []) two.whole (record { rest = []; split = refl })) in
    let other_is : G.state new.other ≡ settled (two.front ++ 0 ∷ []) = ap G.state turns.other ∙ current in
    checkpoint_ended ends (record {
      two = checkpoints_keep_standing.ended slot other next (filling_writer other old) (slot_writer other new) (disks_of old) (disks_of new) two ends;
      version = version;
      tag = keeps.tag ∙ stands.tag ∙ sym (ap (λ (h : Head). h.tag) follows.head);
      base = turns.base ∙ with.base;
      count = keeps.count ∙ stands.count ∙ count;
      has_next = subst (λ (n : ℕ). HasSpelledNext n next new) count
          (same_next (slot_count slot) next old new turns.stage keeps.next (ap (λ (v : Vec ℕ). v.items) keeps.tail) stands.has_next);
      end = subst (λ (s : Stage). EndsAt s new.end (new.gate + length new.tail.items)) (sym idle) tt;
      fills_with = λ some_still. absurd (some_still turns.rests);
      knows_closed = subst (λ (s : FillStage). KnowsClosed s new.filler.closed (G.state new.other).now) (sym turns.rests)
          (subst (λ (b : Bool). TellsClosed b (G.state new.other).now) (sym turns.closed)
          (λ closed. not_both slot.generation (two.front ++ 0 ∷ []) (subst (λ (d : DiskState). IsClosedSlot d.now) other_is closed) opened.0));
    })

-- what moves on does so from the disks before the call as well
pub moves_from : {D : Type 0} {G : Ghosts D} (old mid new : SlotJournal D G) (ended : Bool) → mid.filler ≡ old.filler → mid.current ≡ old.current
    → mid.side ≡ old.side → mid.version ≡ old.version → mid.generation ≡ old.generation → mid.base ≡ old.base → mid.gate ≡ old.gate → mid.end ≡ old.end
    → mid.stage ≡ old.stage → FillsOrTurns mid new ended → FillsOrTurns old new ended
moves_from old mid new false filler current side version generation base gate end stage moves = record {
  more = subst (λ (f : Filler). f.stage ≢ fills.Lasts) filler moves.more;
  filler = subst (λ (f : Filler). HasMovedOn f new.filler) filler moves.filler;
  current = moves.current ∙ current;
  side = moves.side ∙ side;
  version = moves.version ∙ version;
  generation = moves.generation ∙ generation;
  base = moves.base ∙ base;
  gate = moves.gate ∙ gate;
  end = moves.end ∙ end;
  stage = moves.stage ∙ stage;
}
moves_from old mid new true filler current side version generation base gate end stage moves = record {
  last = subst (λ (f : Filler). f.stage ≡ fills.Lasts) filler moves.last;
  rests = moves.rests;
  closed = moves.closed;
  other = moves.other ∙ current;
  side = moves.side ∙ ap across side;
  version = moves.version;
  generation = moves.generation ∙ ap (λ (f : Filler). f.generation) filler;
  base = moves.base ∙ ap (λ (f : Filler). f.base) filler;
  gate = moves.gate ∙ ap (λ (f : Filler). f.at) filler;
  stage = moves.stage ∙ stage;
}

-- a good call
good_at : {D : Type 0} {G : Ghosts D} (slot : Slot) (next : Option Entry) (other : Slot) (old new : SlotJournal D G) (ended : Bool)
    → IsFilling old → FillsOrTurns old new ended → KeepsNext old new
    → G.state (called_disk new (Ok ended)) ≡ after_disk_call (call_of old.filler) (G.state old.other)
    → StandsOn slot next other old → CheckpointStep slot next other old new (Ok ended)
good_at slot next other old new false turn moves keeps good stands = filled_step slot next other old new turn moves keeps good stands
good_at slot next other old new true turn moves keeps good stands = turned_step slot next other old new turn moves keeps good stands

pub good_fill : {D : Type 0} {G : Ghosts D} (slot : Slot) (next : Option Entry) (other : Slot) (old new : SlotJournal D G) (ended : Bool)
    → IsFilling old → FillsOrTurns old new ended → KeepsNext old new
    → G.state (called_disk new (Ok ended)) ≡ after_disk_call (call_of old.filler) (G.state old.other)
    → StandsOn slot next other old → BeginsIfWaiting slot other old × CheckpointStep slot next other old new (Ok ended)
good_fill slot next other old new ended turn moves keeps good stands =
    (begins slot next other old stands turn, good_at slot next other old new ended turn moves keeps good stands)

-- a failed one
pub failed_fill : {D : Type 0} {G : Ghosts D} (slot : Slot) (next : Option Entry) (other : Slot) (old new : SlotJournal D G)
    → IsFilling old → new.side ≡ old.side → new.current ≡ old.current
    → FailsSo (call_of old.filler) (G.state old.other) (G.state new.other)
    → StandsOn slot next other old → BeginsIfWaiting slot other old × CheckpointStep slot next other old new (Err refusals.Disk)
failed_fill {D} {G} slot next other old new turn side same fails stands =
    let call : DiskCall = fill_call other (filling_of old.filler) in
    let here : two_sides old.side (G.state old.current) (G.state new.other) ≡ disks_of new =
    λ i. two_sides (sym side i) (G.state (sym same i)) (G.state new.other) in (
      begins slot next other old stands turn,
      checkpoint_failed (subst (λ (disks : Sides DiskState). FailsCheckpoint (filling_writer other old) (disks_of old) disks) here (record {
        next = other;
        fill = filling_of old.filler;
        under_way = refl;
        fails = failed_other old.side call (G.state old.current) (G.state old.other) (G.state new.other)
            (subst (λ (c : DiskCall). FailsSo c (G.state old.other) (G.state new.other)) (call_is_fill slot next other old stands turn) fails);
        same = same_other old.side (G.state old.current) (G.state old.other) (G.state new.other);
      })),
    )

-- both disks after a good call
pub sides_after : {D : Type 0} {G : Ghosts D} (old new : SlotJournal D G) (ended : Bool) → FillsOrTurns old new ended
    → sides_of new ≡ two_sides old.side old.current (called_disk new (Ok ended))
sides_after old new false moves = λ i. two_sides (moves.side i) (moves.current i) new.other
sides_after old new true moves =
    (λ i. two_sides (moves.side i) new.current (moves.other i)) ∙ turned_two old.side old.current new.current

-- what a crash leaves since it began
pub left_in_fill : {D : Type 0} {G : Ghosts D} (slot : Slot) (next : Option Entry) (other : Slot) (old : SlotJournal D G) (called : D) (after : Sides D)
    → IsFilling old → after ≡ two_sides old.side old.current called
    → ((bytes : List ℕ) → G.left_since old.current (G.moment old.current) bytes → CrashLeaves (G.state old.current) bytes)
    → ((bytes : List ℕ) → G.left_since old.other (G.moment old.other) bytes → CrashLeaves (G.state old.other) bytes)
    → Elapses G.moment G.left_since G.state old.other called
    → FailsSo (call_of old.filler) (G.state old.other) (G.state called)
    → StandsOn slot next other old
    → LeavesOnlyTwo G (sides_of old) after (LeavesInCall (disks_of old) (CrashesInCheckpoint (filling_writer other old) (disks_of old)))
left_in_fill {D} {G} slot next other old called after turn here current_now only_now time fails stands left a b =
    let call : DiskCall = fill_call other (filling_of old.filler) in
    let since = since_other G old.side call old.current old.other called left current_now only_now time
    (subst (λ (c : DiskCall). FailsSo c (G.state old.other) (G.state called)) (call_is_fill slot next other old stands turn) fails)
    (subst (λ (s : Sides D). G.left_since s.a (G.moment (sides_of old).a) left.a) here a)
    (subst (λ (s : Sides D). G.left_since s.b (G.moment (sides_of old).b) left.b) here b) in
    elim since [
      | inl before ↦ before_call before
      | inr crash ↦ within_call (record {
        next = other;
        fill = filling_of old.filler;
        under_way = refl;
        within = crash.within;
        current = crash.current;
      })
    ]
