-- What an opening finds.
use Rattle.std.specs.Prelude.{◌≡◌, ◌⊎◌, ℕ, ◌+◌, ◌<◌, ◌≤◌, Bool, true, false, nat_eq, suc, IfErr, IfOk, List, ◌∷◌, ◌++◌, Result, Ok, Err, drop, length, take, slice_index, slice_index_or, refl}
use Rattle.std.proofs.Common.{arith, drop-cons, sym, ap, subst, ◌∙◌, inl, inr}
use Rattle.std.proofs.lemmas.Bool.{eq-eqb, eqb-true}
use Rattle.std.proofs.lemmas.List.{get_or-take, length-append, length-take, take-append-drop}
use Rattle.ide_disk.specs.Disk.{CrashLeaves, settled}
use Rattle.ide_disk.specs.declared.disk.Disk.{Ghosts}
use Rattle.ide_journal.specs.Bytes.{IsBefore}
use Rattle.ide_journal.specs.Moments.{LeavesNoMore, LeavesOnly}
use Rattle.ide_journal.specs.Opening.{CutsBehind, LeavesFront}
use Rattle.ide_journal.proofs.Moments.{goes_on, weaker}
use Rattle.ide_slots.specs.Current.{HasNoCurrent, IsCurrent, IsFoundIn, ends_early, files, no_slot}
use Rattle.ide_slots.specs.DiskCalls.{LeavesNoMoreThan}
use Rattle.ide_slots.specs.Loading.{ClosesIn, HasRecords, slot_of}
use Rattle.ide_slots.specs.Reading.{Tells, TellsNothing}
use Rattle.ide_slots.specs.Refusals.{IsChoiceRefusal, IsSlotRefusal, slot_memory, no_current, other_tag}
use Rattle.ide_slots.specs.Sides.{IsChosen, Sides, on}
use Rattle.ide_slots.specs.Slot.{IsClosedSlot, SlotHead, slot_head, slot_header}
use Rattle.ide_slots.specs.TwoCalls.{TellsClosed}
use Rattle.ide_slots.specs.declared.current.Current.{Current}
use Rattle.ide_slots.specs.declared.reading.LoadedSlot.{LoadedSlot}
use Rattle.ide_slots.specs.declared.side.Side.{Side}
use Rattle.ide_slots.specs.declared.side.Side.TheVariants.{First, Second}
use Rattle.ide_slots.proofs.FrontsTell.{fronts_tell_current}
use Rattle.ide_slots.proofs.Gates.{closed_by_gate, gate_closed, gate_open}
use Rattle.ide_slots.proofs.Heads.{length-slot_header}
use Rattle.ide_slots.proofs.OneCurrent.{one_told}
use Rattle.ide_wire.specs.declared.refused.Refused.{Refused}
use Rattle.ide_wire.specs.declared.refused.Refused.TheVariants as refusals
use Rattle.ide_slot_journal.specs.Opening.{IsChoosingRefusal, IsChosenWith, IsCurrentTag, IsLookRefusal, IsReadFrom, IsReadRefusal, IsRecoveredSlot, IsTagRefusal, IsWholeSlot, LeftOrCut, RefusesRead, StopsOne, choosing_device, choosing_slot, look_device, look_short, read_device, read_file, tag_device, tag_none}

-- a disk that cannot be read, or is too short for a slot
pub not_looked : (tag : ℕ) (left : Sides (List ℕ)) (side : Side) (refused : Refused) → IsLookRefusal (on side left) refused
    → IsChoosingRefusal tag left refused
not_looked tag left side refused look_device = choosing_device
not_looked tag left side refused (look_short short) = choosing_slot (no_current (no_slot side (ends_early short)))

-- no slot is current by what the files begin with
not_chosen_by : (tag : ℕ) (left : Sides (List ℕ)) (refused : Refused) → IsChoiceRefusal tag (files (take 4097 left.a) (take 4097 left.b)) refused
    → IsChoosingRefusal tag left refused
not_chosen_by tag left refused (no_current none) = choosing_slot (no_current (fronts_tell_current.none left none))
not_chosen_by tag left refused (other_tag side told current tag_is) =
    choosing_slot (other_tag side told (fronts_tell_current.current side told left current) tag_is)

pub not_chosen : (tag : ℕ) (left : Sides (List ℕ)) (first second : List ℕ) (refused : Refused) → first ≡ take 4097 left.a → second ≡ take 4097 left.b
    → IsChoiceRefusal tag (files first second) refused → IsChoosingRefusal tag left refused
not_chosen tag left first second refused a b cause =
    not_chosen_by tag left refused (subst (λ (s : Sides (List ℕ)). IsChoiceRefusal tag s refused) (λ i. files (a i) (b i)) cause)

-- the byte behind the first page tells whether a slot is closed
tells_by : (bytes : List ℕ) (gate : ℕ) (b : Bool) → b ≡ nat_eq gate 0 → 4096 < length bytes → slice_index bytes 4096 ≡ gate → TellsClosed b bytes
tells_by bytes gate true is inside gate_is = closed_by_gate bytes inside (gate_is ∙ eqb-true gate 0 (sym is))
tells_by bytes gate false is inside gate_is = λ closed.
    let zero_gate : gate ≡ 0 = sym gate_is ∙ (gate_closed bytes closed).1 in
    let no : false ≡ true = is ∙ eq-eqb gate 0 zero_gate in cc

tells_front : (bytes front : List ℕ) → 4096 < length bytes → front ≡ take 4097 bytes → TellsClosed (nat_eq (slice_index_or front 4096 0) 0) bytes
tells_front bytes front inside is =
    tells_by bytes (slice_index_or front 4096 0) (nat_eq (slice_index_or front 4096 0) 0) refl inside
    (sym (ap (λ (xs : List ℕ). slice_index_or xs 4096 0) is ∙ get_or-take 4097 bytes 4096 0 (omega arith)))

closed_or_open : (bytes : List ℕ) → IsClosedSlot bytes → 4096 < length bytes
closed_or_open bytes closed = (gate_closed bytes closed).0

second_long : (left : Sides (List ℕ)) → IsChosen First left → 4096 < length left.b
second_long left (inl closed) = (gate_closed left.b closed).0
second_long left (inr (g, h, a, b, most)) = (gate_open h left.b b).0

first_long : (left : Sides (List ℕ)) → IsChosen Second left → 4096 < length left.a
first_long left (h, b, inl closed) = (gate_closed left.a closed).0
first_long left (h, b, inr (g, a, less)) = (gate_open g left.a a).0

current_by : (left : Sides (List ℕ)) (first second : List ℕ) (found : Current) → first ≡ take 4097 left.a → second ≡ take 4097 left.b
    → IsFoundIn (files first second) found → IsCurrent found.side found.head left
current_by left first second found a b is =
    fronts_tell_current.current found.side found.head left
    (subst (λ (s : Sides (List ℕ)). IsCurrent found.side found.head s) (λ i. files (a i) (b i)) is)

pub first_chosen : (tag : ℕ) (left : Sides (List ℕ)) (first second : List ℕ) (found : Current) → first ≡ take 4097 left.a → second ≡ take 4097 left.b
    → IsFoundIn (files first second) found → found.head.head.tag ≡ tag → found.side ≡ First
    → IsChosenWith tag left First (nat_eq (slice_index_or second 4096 0) 0)
first_chosen tag left first second found a b is tag_is side =
    let current : IsCurrent First found.head left = subst (λ (s : Side). IsCurrent s found.head left) side (current_by left first second found a b is) in record {
      told = found.head;
      current = current;
      tag_is = tag_is;
      tells = tells_front left.b second (second_long left current.chosen) b;
    }

pub second_chosen : (tag : ℕ) (left : Sides (List ℕ)) (first second : List ℕ) (found : Current) → first ≡ take 4097 left.a → second ≡ take 4097 left.b
    → IsFoundIn (files first second) found → found.head.head.tag ≡ tag → found.side ≡ Second
    → IsChosenWith tag left Second (nat_eq (slice_index_or first 4096 0) 0)
second_chosen tag left first second found a b is tag_is side =
    let current : IsCurrent Second found.head left = subst (λ (s : Side). IsCurrent s found.head left) side (current_by left first second found a b is) in record {
      told = found.head;
      current = current;
      tag_is = tag_is;
      tells = tells_front left.a first (first_long left current.chosen) a;
    }

-- ---- the tag of the current slot
pub tag_not_looked : (left : Sides (List ℕ)) (side : Side) (refused : Refused) → IsLookRefusal (on side left) refused → IsTagRefusal left refused
tag_not_looked left side refused look_device = tag_device
tag_not_looked left side refused (look_short short) = tag_none (no_slot side (ends_early short))

pub tag_told : (left : Sides (List ℕ)) (first second : List ℕ) (found : Current) → first ≡ take 4097 left.a → second ≡ take 4097 left.b
    → IsFoundIn (files first second) found → IsCurrentTag left found.head.head.tag
tag_told left first second found a b is =
    record { side = found.side; told = found.head; current = current_by left first second found a b is; tag_is = refl }

pub tag_not_told : (left : Sides (List ℕ)) (first second : List ℕ) → first ≡ take 4097 left.a → second ≡ take 4097 left.b
    → HasNoCurrent (files first second) → IsTagRefusal left refusals.NotAStore
tag_not_told left first second a b none =
    tag_none (fronts_tell_current.none left (subst HasNoCurrent (λ i. files (a i) (b i)) none))

-- the bytes of a disk were not all read
pub not_read : (told : SlotHead) (bytes : List ℕ) (refused : Refused) → (refused ≡ refusals.NoMemory) ⊎ (refused ≡ refusals.Disk)
    → IsReadRefusal told bytes refused
not_read told bytes refused (inl memory) = subst (λ (r : Refused). IsReadRefusal told bytes r) (sym memory) (read_file slot_memory)
not_read told bytes refused (inr device) = subst (λ (r : Refused). IsReadRefusal told bytes r) (sym device) read_device

-- a first page that was told is told of the same bytes
pub told_still : (told : SlotHead) (read bytes : List ℕ) → read ≡ bytes → TellsNothing read → Tells told bytes → ⊥
told_still told read bytes same nothing tells = nothing told (subst (λ (xs : List ℕ). Tells told xs) (sym same) tells)

-- a slot that was read is whole
whole_at : (loaded : LoadedSlot) (bytes : List ℕ) → HasRecords loaded → ClosesIn bytes loaded → IsWholeSlot loaded
whole_at loaded bytes records closes = record {
  records = records;
  proper = closes.front.proper;
  behind = omega (
    arith,
    ap length closes.front.split,
    length-append (slot_header (slot_head (slot_of loaded))) closes.front.pages,
    length-slot_header (slot_head (slot_of loaded)),
    length-take loaded.gate bytes,
    closes.inside,
  );
}

pub whole_read : {E : Type 0} (result : Result LoadedSlot E) (bytes : List ℕ) → IfOk result HasRecords → IfOk result (ClosesIn bytes)
    → IfOk result IsWholeSlot
whole_read (Ok loaded) bytes records closes = whole_at loaded bytes records closes
whole_read (Err refused) bytes records closes = tt

pub refused_read : {T : Type 0} (result : Result T Refused) (head : SlotHead) (read bytes : List ℕ) → read ≡ bytes → Tells head read
    → IfErr result (IsSlotRefusal head read) → IfErr result (RefusesRead bytes)
refused_read (Ok loaded) head read bytes same tells cause = tt
refused_read (Err refused) head read bytes same tells cause = λ told begins.
    read_file (subst (λ (h : SlotHead). IsSlotRefusal h bytes refused)
    (one_told head told bytes (subst (λ (xs : List ℕ). Tells head xs) same tells) begins.tells)
    (subst (λ (xs : List ℕ). IsSlotRefusal head xs refused) same cause))

-- the closed gate parts what stands before it from what stands behind
pub split_gate : (bytes : List ℕ) (gate : ℕ) → gate < length bytes → slice_index bytes gate ≡ 0 → bytes ≡ take gate bytes ++ 0 ∷ drop (gate + 1) bytes
split_gate bytes gate inside closed =
    sym (take-append-drop gate bytes)
    ∙ ap (λ (xs : List ℕ). take gate bytes ++ xs)
    (drop-cons bytes gate 0 inside ∙ ap (λ (x : ℕ). x ∷ drop (suc gate) bytes) closed
    ∙ ap (λ (n : ℕ). 0 ∷ drop n bytes) (let one_more : suc gate ≡ gate + 1 = omega arith in one_more))

pub gate_place : (bytes : List ℕ) (gate : ℕ) → gate < length bytes → gate ≡ length (take gate bytes)
gate_place bytes gate inside = omega (arith, length-take gate bytes, inside)

-- nothing stays behind the closed gate
pub recovered : {D : Type 0} (G : Ghosts D) (first second third : D) (loaded : LoadedSlot) → IsReadFrom (G.state first).now loaded
    → G.state first ≡ settled (G.state first).now → G.state second ≡ G.state first → CutsBehind loaded.gate (G.state second) (G.state third)
    → IsRecoveredSlot G first third loaded
recovered G first second third loaded read is same cuts =
    let bytes = (G.state first).now in
    let closes = read.closes in record {
      read = read;
      after = cuts (take loaded.gate bytes) (drop (loaded.gate + 1) bytes) (gate_place bytes loaded.gate closes.inside)
          (same ∙ is ∙ ap settled (split_gate bytes loaded.gate closes.inside closes.gate));
    }

pub recovers : {D : Type 0} (G : Ghosts D) (first second third : D) (loaded : LoadedSlot) → IsReadFrom (G.state first).now loaded
    → G.state first ≡ settled (G.state first).now → G.state second ≡ G.state first → LeavesNoMore G first second → LeavesFront G loaded.gate second third
    → LeavesOnly G first third (LeftOrCut (G.state first))
recovers G first second third loaded read is same reading repairing =
    let bytes = (G.state first).now in
    let closes = read.closes in
    let rest = drop (loaded.gate + 1) bytes in
    let split = split_gate bytes loaded.gate closes.inside closes.gate in
    goes_on G first second third (LeftOrCut (G.state first))
    (weaker G first second (CrashLeaves (G.state first)) (LeftOrCut (G.state first)) (λ left leaves. inl leaves) reading)
    (weaker G second third (IsBefore (take loaded.gate bytes)) (LeftOrCut (G.state first))
    (λ left before. inr (record {
      slot = slot_of loaded;
      front = take loaded.gate bytes;
      whole = closes.front;
      was = record { rest = rest; split = split };
      is = before;
    }))
    (repairing (take loaded.gate bytes) rest (gate_place bytes loaded.gate closes.inside) (same ∙ is ∙ ap settled split)))

module _ {D : Type 0} (G : Ghosts D)
    (counts_now : (disk : D) (t : ℕ) (left : List ℕ) → G.honest disk → t ≤ G.moment disk → CrashLeaves (G.state disk) left → G.left_since disk t left)
    (possible : (disk : D) → G.honest disk → CrashLeaves (G.state disk) (G.state disk).now) where
  -- what is left at every moment is left at the last one
  pub no_more_now : (old new : D) → G.honest new → LeavesNoMore G old new → LeavesNoMoreThan (G.state old) (G.state new)
  no_more_now old new honest leaves = record {
    leaves = λ left now. leaves.each left (counts_now new (G.moment old) left honest leaves.later now);
    possible = possible new honest;
  }

  -- it stopped while it cut
  pub cut_stops : (first second third : D) (loaded : LoadedSlot) → G.honest third → IsReadFrom (G.state first).now loaded
      → G.state first ≡ settled (G.state first).now → G.state second ≡ G.state first → LeavesFront G loaded.gate second third
      → StopsOne (G.state first) (G.state third)
  cut_stops first second third loaded honest read is same repairing =
      let bytes = (G.state first).now in
      let closes = read.closes in
      let rest = drop (loaded.gate + 1) bytes in
      let split = split_gate bytes loaded.gate closes.inside closes.gate in
      let leaves = repairing (take loaded.gate bytes) rest (gate_place bytes loaded.gate closes.inside) (same ∙ is ∙ ap settled split) in
      inr (record {
        slot = slot_of loaded;
        front = take loaded.gate bytes;
        whole = closes.front;
        was = record { rest = rest; split = split };
        is = λ left now. leaves.each left (counts_now third (G.moment second) left honest leaves.later now);
        possible = possible third honest;
      })
