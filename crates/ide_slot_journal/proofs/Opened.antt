-- What an opening gives.
use Rattle.std.specs.Prelude.{◌≡◌, ℕ, ◌+◌, Bool, IfErr, IfOk, List, ◌∷◌, ◌++◌, None, OnErr, Result, Ok, Err, drop, length, take, refl}
use Rattle.std.specs.Global.{Vec}
use Rattle.std.proofs.Common.{sym, ap, subst, ◌∙◌, inl, inr}
use Rattle.std.proofs.lemmas.List.{append_assoc}
use Rattle.ide_disk.specs.Disk.{CrashLeaves, DiskState, settled}
use Rattle.ide_disk.specs.declared.disk.Disk.{Ghosts}
use Rattle.ide_journal.specs.Bytes.{EndsAt, IsBefore}
use Rattle.ide_journal.specs.Moments.{LeavesNoMore, LeavesOnly}
use Rattle.ide_journal.proofs.Moments.{goes_on, weaker}
use Rattle.ide_slots.specs.Current.{IsCurrent}
use Rattle.ide_slots.specs.DiskCalls.{LeavesNoMoreThan}
use Rattle.ide_slots.specs.Loading.{slot_of}
use Rattle.ide_slots.specs.Reading.{Tells}
use Rattle.ide_slots.specs.Sides.{IsChosen, Sides, off, on, two_sides}
use Rattle.ide_slots.specs.Slot.{HoldsSlot, Slot, SlotHead, slot_count, slot_head, slot_header}
use Rattle.ide_slots.specs.Two.{reads_two}
use Rattle.ide_slots.specs.TwoCalls.{OpensTwo, StopsInCut, StopsTwo, TellsClosed}
use Rattle.ide_slots.specs.declared.reading.LoadedSlot.{LoadedSlot}
use Rattle.ide_slots.specs.declared.record.NumberedRecord.{NumberedRecord}
use Rattle.ide_slots.specs.declared.side.Side.{Side}
use Rattle.ide_slots.specs.declared.side.Side.TheVariants.{First, Second}
use Rattle.ide_slots.proofs.OneCurrent.{one_told}
use Rattle.ide_slots.proofs.Openings.{openings_find}
use Rattle.ide_slots.proofs.Writers.{off_two, on_two}
use Rattle.ide_wire.specs.declared.refused.Refused.{Refused}
use Rattle.ide_slot_journal.specs.Moments.{LeavesOnlyTwo}
use Rattle.ide_slot_journal.specs.Opened.{IsFresh, IsOpeningRefusal, OpensOn, ResumesSlot, disk_sides, opening_choice, opening_device, opening_slot, settled_both, sides_left, states_of}
use Rattle.ide_slot_journal.specs.Opening.{IsChoosingRefusal, IsChosenWith, IsCutSlot, IsReadRefusal, IsRecoveredSlot, IsWholeSlot, LeftOrCut, RefusesRead, StopsCutting, StopsOne, choosing_device, choosing_slot, read_device, read_file}
use Rattle.ide_slot_journal.specs.Stages.{checkpoint_at, stage_of}
use Rattle.ide_slot_journal.specs.Stands.{KnowsClosed, disks_of, filling_of, slot_writer}
use Rattle.ide_slot_journal.specs.declared.journal.SlotJournal.{SlotJournal}
use Rattle.ide_slot_journal.specs.declared.stage.FillStage.{FillStage}
use Rattle.ide_slot_journal.specs.declared.stage.RecordStage.{RecordStage}
use Rattle.ide_slot_journal.proofs.Openings.{gate_place, split_gate}

-- the slot that was read is all that the disk has
pub resumed : {D : Type 0} {G : Ghosts D} (current : D) (journal : SlotJournal D G) (loaded : LoadedSlot) → IsWholeSlot loaded
    → IsRecoveredSlot G current journal.current loaded → journal.gate ≡ loaded.gate → journal.generation ≡ loaded.head.generation → journal.base ≡ loaded.head.base
    → journal.version ≡ loaded.head.head.version → journal.tag ≡ loaded.head.head.tag → journal.count ≡ slot_count (slot_of loaded)
    → ResumesSlot current journal loaded.records.items
resumed {D} {G} current journal loaded whole is gate generation base version tag count =
    let bytes = (G.state current).now in
    let closes = is.read.closes in record {
      slot = slot_of loaded;
      front = take loaded.gate bytes;
      held = is.read.held;
      records = whole.records.records;
      whole = closes.front;
      was = record { rest = drop (loaded.gate + 1) bytes; split = split_gate bytes loaded.gate closes.inside closes.gate };
      disk = is.after;
      gate = gate ∙ gate_place bytes loaded.gate closes.inside;
      generation = generation;
      base = base;
      version = version;
      tag = tag;
      count = count;
    }

reads_by : (side : Side) (x y : DiskState) → reads_two (two_sides side x y) ≡ two_sides side x.now y.now
reads_by First x y = refl
reads_by Second x y = refl

-- a file tells its slot
tells_slot : (slot : Slot) (bytes : List ℕ) → HoldsSlot slot bytes → Tells (slot_head slot) bytes
tells_slot slot bytes holds = record {
  valid = holds.whole.proper.valid;
  rest = holds.whole.pages ++ 0 ∷ holds.closed.rest;
  split = holds.closed.split ∙ ap (λ (xs : List ℕ). xs ++ 0 ∷ holds.closed.rest) holds.whole.split
      ∙ append_assoc (slot_header (slot_head slot)) holds.whole.pages (0 ∷ holds.closed.rest);
}

-- the journal opened the current slot
opens_on : {D : Type 0} {G : Ghosts D} (side : Side) (tag : ℕ) (current other current' other' : D) (closed : Bool) (journal : SlotJournal D G) (found : List NumberedRecord)
    → IsChosenWith tag (two_sides side (G.state current).now (G.state other).now) side closed
    → G.state current' ≡ settled (G.state current).now → G.state other' ≡ settled (G.state other).now
    → ResumesSlot current' journal found → IsFresh side closed other' journal
    → OpensOn tag (two_sides side (G.state current) (G.state other)) journal found
opens_on {D} {G} side tag current other current' other' closed journal found chosen synced synced' r f =
    let x : DiskState = G.state current in
    let y : DiskState = G.state other in
    let disks : Sides DiskState = two_sides side x y in
    let now : (G.state current').now ≡ x.now = ap (λ (d : DiskState). d.now) synced in
    let here : on journal.side disks ≡ x = ap (λ (s : Side). on s disks) f.side_is ∙ on_two side x y in
    let there : off journal.side disks ≡ y = ap (λ (s : Side). off s disks) f.side_is ∙ off_two side x y in
    let held : HoldsSlot r.slot x.now = subst (λ (xs : List ℕ). HoldsSlot r.slot xs) now r.held in
    let tells : Tells chosen.told x.now = subst (λ (xs : List ℕ). Tells chosen.told xs) (on_two side x.now y.now) chosen.current.tells in
    let told : chosen.told ≡ slot_head r.slot = one_told chosen.told (slot_head r.slot) x.now tells (tells_slot r.slot x.now held) in
    let reads : IsChosen journal.side (reads_two disks) =
    subst (λ (s : Side). IsChosen s (reads_two disks)) (sym f.side_is)
    (subst (λ (l : Sides (List ℕ)). IsChosen side l) (sym (reads_by side x y)) chosen.current.chosen) in
    let before : IsBefore r.front (on journal.side disks).now =
    subst (λ (d : DiskState). IsBefore r.front d.now) (sym here) (subst (λ (xs : List ℕ). IsBefore r.front xs) now r.was) in
    let opens : (any : Slot) → OpensTwo disks (slot_writer any journal) (disks_of journal) = λ any. record {
      slot = r.slot;
      front = r.front;
      whole = r.whole;
      chosen = reads;
      closed = before;
      work_is = λ i. record {
        side = journal.side;
        version = r.version i;
        generation = r.generation i;
        gate = r.gate i;
        stage = stage_of (f.stage i);
        checkpoint = checkpoint_at (f.rests i) any (filling_of journal.filler);
      };
      disks_are = λ i. two_sides journal.side (r.disk i) ((ap G.state f.other_is ∙ synced' ∙ ap (λ (d : DiskState). settled d.now) (sym there)) i);
    } in
    record {
      slot = r.slot;
      records = r.records;
      held = subst (λ (d : DiskState). HoldsSlot r.slot d.now) (sym here) held;
      tag_is = sym (ap (λ (t : SlotHead). t.head.tag) told) ∙ chosen.tag_is;
      opens = opens;
      is = λ any. refl;
      stands = λ shows any. record {
        two = (openings_find.opened r.slot disks shows (slot_writer any journal) (disks_of journal) (opens any)).stands None tt;
        version = r.version;
        tag = r.tag;
        base = r.base;
        count = r.count;
        has_next = (f.stage, f.next ∙ r.count);
        end = subst (λ (s : RecordStage). EndsAt (stage_of s) journal.end (journal.gate + length journal.tail.items)) (sym f.stage) tt;
        fills_with = λ still. absurd (still f.rests);
        knows_closed = subst (λ (s : FillStage). KnowsClosed s journal.filler.closed (G.state journal.other).now) (sym f.rests)
            (subst (λ (b : Bool). TellsClosed b (G.state journal.other).now) (sym f.closed_is)
            (subst (λ (d : DiskState). TellsClosed closed d.now) (sym (ap G.state f.other_is ∙ synced'))
            (subst (λ (xs : List ℕ). TellsClosed closed xs) (off_two side x.now y.now) chosen.tells)));
      };
    }

pub opened_on : {D : Type 0} {G : Ghosts D} (side : Side) (tag : ℕ) (current other current' other' : D) (closed : Bool)
    (result : Result (SlotJournal D G × Vec NumberedRecord) (Refused × D × D))
    → IsChosenWith tag (two_sides side (G.state current).now (G.state other).now) side closed
    → G.state current' ≡ settled (G.state current).now → G.state other' ≡ settled (G.state other).now
    → IfOk result (λ pair. ResumesSlot current' pair.0 pair.1.items) → IfOk result (λ pair. IsFresh side closed other' pair.0)
    → IfOk result (λ pair. OpensOn tag (two_sides side (G.state current) (G.state other)) pair.0 pair.1.items)
opened_on side tag current other current' other' closed (Ok (journal, found)) chosen synced synced' r f =
    opens_on side tag current other current' other' closed journal found.items chosen synced synced' r f
opened_on side tag current other current' other' closed (Err all) chosen synced synced' r f = tt

-- what a crash may leave is what is left of a disk with just these bytes
no_more : (disk : DiskState) (left : List ℕ) → CrashLeaves disk left → LeavesNoMoreThan disk (settled left)
no_more disk left leaves = record {
  leaves = λ bytes is. subst (λ (xs : List ℕ). CrashLeaves disk xs) (sym is) leaves;
  possible = refl;
}

stops_early : (side : Side) (x y : DiskState) (left : Sides (List ℕ)) → CrashLeaves x (on side left) → CrashLeaves y (off side left)
    → StopsTwo (two_sides side x y) (settled_both left)
stops_early First x y left one other = inl (no_more x left.a one, no_more y left.b other)
stops_early Second x y left one other = inl (no_more y left.a other, no_more x left.b one)

on_settled : (side : Side) (left : Sides (List ℕ)) → on side (settled_both left) ≡ settled (on side left)
on_settled First left = refl
on_settled Second left = refl

off_settled : (side : Side) (left : Sides (List ℕ)) → off side (settled_both left) ≡ settled (off side left)
off_settled First left = refl
off_settled Second left = refl

stops_late : (side : Side) (x y : DiskState) (left : Sides (List ℕ)) → IsChosen side (two_sides side x.now y.now) → IsCutSlot x.now (on side left)
    → CrashLeaves y (off side left) → StopsInCut (two_sides side x y) (settled_both left)
stops_late side x y left chosen cut other = record {
  side = side;
  slot = cut.slot;
  front = cut.front;
  whole = cut.whole;
  chosen = subst (λ (l : Sides (List ℕ)). IsChosen side l) (sym (reads_by side x y)) chosen;
  closed = subst (λ (d : DiskState). IsBefore cut.front d.now) (sym (on_two side x y)) cut.was;
  current = λ bytes leaves. inr (subst (λ (xs : List ℕ). IsBefore cut.front xs)
      (sym (subst (λ (d : DiskState). CrashLeaves d bytes) (on_settled side left) leaves)) cut.is);
  possible = subst (λ (d : DiskState). CrashLeaves d d.now) (sym (on_settled side left)) refl;
  other = subst (λ (d : DiskState). LeavesNoMoreThan d (off side (settled_both left))) (sym (off_two side x y))
      (subst (λ (d : DiskState). LeavesNoMoreThan y d) (sym (off_settled side left)) (no_more y (off side left) other));
}

-- at every moment it may have stopped
pub stops_anywhere : {D : Type 0} (G : Ghosts D) (side : Side) (current other current' other' : D) (after : Sides D)
    → IsChosen side (two_sides side (G.state current).now (G.state other).now)
    → CrashLeaves (G.state current) (G.state current).now → G.state current' ≡ settled (G.state current).now
    → LeavesNoMore G current current' → LeavesOnly G current' (on side after) (LeftOrCut (G.state current'))
    → LeavesNoMore G other other' → off side after ≡ other'
    → LeavesOnlyTwo G (two_sides side current other) after (λ left. StopsTwo (two_sides side (G.state current) (G.state other)) (settled_both left))
stops_anywhere {D} G side current other current' other' after chosen possible synced first second third same left a b =
    let x : DiskState = G.state current in
    let now : (G.state current').now ≡ x.now = ap (λ (d : DiskState). d.now) synced in
    let all : LeavesOnly G current (on side after) (LeftOrCut x) =
    goes_on G current current' (on side after) (LeftOrCut x)
    (weaker G current current' (CrashLeaves x) (LeftOrCut x) (λ bytes leaves. inl leaves) first)
    (weaker G current' (on side after) (LeftOrCut (G.state current')) (LeftOrCut x)
    (λ bytes leaves. elim leaves [
      | inl crash ↦ inl (subst (λ (xs : List ℕ). CrashLeaves x xs) (sym (subst (λ (d : DiskState). CrashLeaves d bytes) synced crash)) possible)
      | inr cut ↦ inr (subst (λ (xs : List ℕ). IsCutSlot xs bytes) now cut)
    ]) second) in
    let both = by_side G side current other after left a b in
    let other_left = third.each (off side left) (subst (λ (d : D). G.left_since d (G.moment other) (off side left)) same both.1) in
    elim (all.each (on side left) both.0) [
      | inl early ↦ stops_early side x (G.state other) left early other_left
      | inr cut ↦ inr (stops_late side x (G.state other) left chosen cut other_left)
    ]
  where
    by_side : {D : Type 0} (G : Ghosts D) (side : Side) (current other : D) (after : Sides D) (left : Sides (List ℕ))
        → G.left_since after.a (G.moment (two_sides side current other).a) left.a
        → G.left_since after.b (G.moment (two_sides side current other).b) left.b
        → G.left_since (on side after) (G.moment current) (on side left) × G.left_since (off side after) (G.moment other) (off side left)
    by_side G First current other after left a b = (a, b)
    by_side G Second current other after left a b = (b, a)

-- an opening that stopped once the disk was synced has stopped over the disk as it was before
stops_since : (disk synced after : DiskState) → CrashLeaves disk disk.now → synced ≡ settled disk.now → StopsOne synced after → StopsOne disk after
stops_since disk synced after possible is stops = elim (subst (λ (d : DiskState). StopsOne d after) is stops) [
  | inl early ↦ inl (record {
    leaves = λ left now. subst (λ (xs : List ℕ). CrashLeaves disk xs) (sym (early.leaves left now)) possible;
    possible = early.possible;
  })
  | inr cut ↦ inr (record { slot = cut.slot; front = cut.front; whole = cut.whole; was = cut.was; is = cut.is; possible = cut.possible })
]

-- both disks, where it stopped while it cut the chosen slot
stops_cutting : (side : Side) (x x' y y' : DiskState) → IsChosen side (two_sides side x.now y.now) → StopsCutting x x' → LeavesNoMoreThan y y'
    → StopsInCut (two_sides side x y) (two_sides side x' y')
stops_cutting side x x' y y' chosen cut other = record {
  side = side;
  slot = cut.slot;
  front = cut.front;
  whole = cut.whole;
  chosen = subst (λ (l : Sides (List ℕ)). IsChosen side l) (sym (reads_by side x y)) chosen;
  closed = subst (λ (d : DiskState). IsBefore cut.front d.now) (sym (on_two side x y)) cut.was;
  current = λ left leaves. inr (cut.is left (subst (λ (d : DiskState). CrashLeaves d left) (on_two side x' y') leaves));
  possible = subst (λ (d : DiskState). CrashLeaves d d.now) (sym (on_two side x' y')) cut.possible;
  other = subst (λ (d : DiskState). LeavesNoMoreThan d (off side (two_sides side x' y'))) (sym (off_two side x y))
      (subst (λ (d : DiskState). LeavesNoMoreThan y d) (sym (off_two side x' y')) other);
}

-- and where it stopped before that
stops_before : (side : Side) (x x' y y' : DiskState) → LeavesNoMoreThan x x' → LeavesNoMoreThan y y' → StopsTwo (two_sides side x y) (two_sides side x' y')
stops_before First x x' y y' one other = inl (one, other)
stops_before Second x x' y y' one other = inl (other, one)

states_by : {D : Type 0} (G : Ghosts D) (side : Side) (sides : Sides D) → two_sides side (G.state (on side sides)) (G.state (off side sides)) ≡ states_of G sides.a sides.b
states_by G First sides = refl
states_by G Second sides = refl

-- an opening that is refused behind the choice of a slot has stopped
pub stops_behind : {R D : Type 0} (G : Ghosts D) (side : Side) (current other current' other' : D) (result : Result (SlotJournal D G × R) (Refused × D × D))
    → IsChosen side (two_sides side (G.state current).now (G.state other).now)
    → CrashLeaves (G.state current) (G.state current).now → G.state current' ≡ settled (G.state current).now
    → OnErr result (StopsOne (G.state current') (G.state (on side (sides_left result))))
    → LeavesNoMoreThan (G.state other) (G.state other') → off side (sides_left result) ≡ other'
    → IfErr result (λ all. StopsTwo (two_sides side (G.state current) (G.state other)) (states_of G all.1 all.2))
stops_behind G side current other current' other' (Ok pair) chosen possible synced stops beside same = tt
stops_behind G side current other current' other' (Err all) chosen possible synced stops beside same =
    let left = disk_sides all.1 all.2 in
    let x = G.state current in
    let x' = G.state (on side left) in
    let y = G.state other in
    let y' = G.state (off side left) in
    let still : LeavesNoMoreThan y y' = subst (λ d. LeavesNoMoreThan y (G.state d)) (sym same) beside in
    subst (λ (s : Sides DiskState). StopsTwo (two_sides side x y) s) (states_by G side left)
    (elim (stops_since x (G.state current') x' possible synced stops) [
      | inl early ↦ stops_before side x x' y y' early still
      | inr cut ↦ inr (stops_cutting side x x' y y' chosen cut still)
    ])

-- a disk on which all is synced holds what a read gives
pub still_settled : (disk : DiskState) (bytes : List ℕ) → disk ≡ settled bytes → disk ≡ settled disk.now
still_settled disk bytes is = is ∙ ap settled (sym (ap (λ (d : DiskState). d.now) is))

-- why no slot was chosen, and why the chosen one was not read
pub refused_choice : (tag : ℕ) (left : Sides (List ℕ)) (refused : Refused) → IsChoosingRefusal tag left refused → IsOpeningRefusal tag left refused
refused_choice tag left refused choosing_device = opening_device
refused_choice tag left refused (choosing_slot cause) = opening_choice cause

refused_slot : (tag : ℕ) (left : Sides (List ℕ)) (side : Side) (told : SlotHead) (refused : Refused) → IsCurrent side told left
    → IsReadRefusal told (on side left) refused → IsOpeningRefusal tag left refused
refused_slot tag left side told refused current read_device = opening_device
refused_slot tag left side told refused current (read_file cause) = opening_slot side told current cause

pub refused_on : {R D : Type 0} (result : Result R (Refused × D × D)) (tag : ℕ) (left : Sides (List ℕ)) (side : Side) (closed : Bool) (bytes : List ℕ)
    → bytes ≡ on side left → IsChosenWith tag left side closed → IfErr result (λ all. RefusesRead bytes all.0)
    → IfErr result (λ all. IsOpeningRefusal tag left all.0)
refused_on (Ok pair) tag left side closed bytes same chosen refuses = tt
refused_on (Err all) tag left side closed bytes same chosen refuses =
    refused_slot tag left side chosen.told all.0 chosen.current
    (subst (λ (xs : List ℕ). RefusesRead xs all.0) same refuses chosen.told (record { tells = chosen.current.tells; long = chosen.current.gate }))
