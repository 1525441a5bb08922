-- An opening finds the slot that is shown, and one that stops loses nothing.
use Rattle.std.specs.Prelude.{◌≡◌, ℕ, List, [], ◌∷◌, ◌++◌, Option, length, refl}
use Rattle.std.proofs.Common.{arith, sym, ap, subst, ◌∙◌, inl, inr}
use Rattle.std.proofs.lemmas.Bool.{cases_lt}
use Rattle.std.proofs.lemmas.List.{append-nil, nil_from_length}
use Rattle.ide_disk.specs.Disk.{CrashLeaves, DiskState, settled}
use Rattle.ide_journal.specs.Bytes.{IsBefore}
use Rattle.ide_journal.specs.Format.{Entry}
use Rattle.ide_journal.specs.declared.stage.Stage.TheVariants.{Idle}
use Rattle.ide_slots.specs.Sides.{First, IsBehind, IsLesser, IsLesserSlot, Second, Shows, Side, Sides, off, on, two_sides}
use Rattle.ide_slots.specs.Slot.{HavePages, HoldsSlot, IsClosedSlot, IsFront, NumberedEntry, Slot, records_of, slot_count, slot_head, slot_header}
use Rattle.ide_slots.specs.Two.{Checkpoint, IsSafeTwo, LeavesTwo, NotBegun, SlotWriter, StandsTwo, reads_two}
use Rattle.ide_slots.specs.TwoCalls.{OpensTwo, StopsInCut, StopsTwo}
use Rattle.ide_slots.specs.TwoLaws.{FindsSlot, OpeningsFind}
use Rattle.ide_slots.proofs.Chosen.{one_side, shown}
use Rattle.ide_slots.proofs.Gates.{not_both, one_generation, open_front}
use Rattle.ide_slots.proofs.Heads.{length-slot_header}
use Rattle.ide_slots.proofs.OneSlot.{holds_one_slot}
use Rattle.ide_slots.proofs.Standing.{leaves_on, reads_possible}
use Rattle.ide_slots.proofs.Writers.{knows_idle, off_two, on_two}

reads_on : (side : Side) (disks : Sides DiskState) → on side (reads_two disks) ≡ (on side disks).now
reads_on First disks = refl
reads_on Second disks = refl

reads_off : (side : Side) (disks : Sides DiskState) → off side (reads_two disks) ≡ (off side disks).now
reads_off First disks = refl
reads_off Second disks = refl

opened : (slot : Slot) (disks : Sides DiskState) (shows : Shows slot (reads_two disks)) (work : SlotWriter) (after : Sides DiskState)
    (opens : OpensTwo disks work after) → FindsSlot slot disks shows work after opens
opened slot disks shows work after opens =
    let sides : work.side ≡ shows.side = one_side work.side shows.side (reads_two disks) opens.chosen (shown slot (reads_two disks) shows) in
    let holds : HoldsSlot slot (on work.side disks).now =
    subst (HoldsSlot slot) (reads_on work.side disks)
    (subst (λ (s : Side). HoldsSlot slot (on s (reads_two disks))) (sym sides) shows.holds) in
    let behind : IsBehind work.side slot (off work.side disks).now =
    subst (IsBehind work.side slot) (reads_off work.side disks)
    (subst (λ (s : Side). IsBehind s slot (off s (reads_two disks))) (sym sides) shows.behind) in
    let same : opens.slot ≡ slot = holds_one_slot opens.slot slot (on work.side disks).now
    (record { front = opens.front; whole = opens.whole; closed = opens.closed }) holds in
    let one : DiskState = settled (opens.front ++ 0 ∷ []) in
    let other : DiskState = settled (off work.side disks).now in
    record {
      found = same;
      side = sides;
      stands = λ next fits. subst (λ (w : SlotWriter). StandsTwo slot next w after) (sym opens.work_is) (rw opens.disks_are (record {
        front = opens.front;
        whole = subst (λ (s : Slot). IsFront s opens.front) same opens.whole;
        version = ap (λ (s : Slot). s.head.version) same;
        generation = ap (λ (s : Slot). s.generation) same;
        gate = refl;
        knows = knows_idle opens.front (slot_count slot) next (on work.side (two_sides work.side one other)) (on_two work.side one other);
        fits = fits;
        beside = record { bytes = (off work.side disks).now; holds = behind; settled_disk = off_two work.side one other };
      }));
    }

can_open : (slot : Slot) (disks : Sides DiskState) → Shows slot (reads_two disks) → (work : SlotWriter) × (after : Sides DiskState) × OpensTwo disks work after
can_open slot disks shows =
    let holds : HoldsSlot slot (on shows.side disks).now = subst (HoldsSlot slot) (reads_on shows.side disks) shows.holds in (
      record {
        side = shows.side;
        version = slot.head.version;
        generation = slot.generation;
        gate = length holds.front;
        stage = Idle;
        checkpoint = NotBegun;
      },
      two_sides shows.side (settled (holds.front ++ 0 ∷ [])) (settled (off shows.side disks).now),
      record {
        slot = slot;
        front = holds.front;
        whole = holds.whole;
        chosen = shown slot (reads_two disks) shows;
        closed = holds.closed;
        work_is = refl;
        disks_are = refl;
      },
    )

-- two files with one front are both closed, or both open and of one generation
empty_closed : (slot : Slot) (front left : List ℕ) → IsFront slot front → records_of slot ≡ [] → IsBefore front left → IsClosedSlot left
empty_closed slot front left whole none before =
    let pages : whole.pages ≡ [] = subst (λ (rs : List NumberedEntry). HavePages rs whole.pages) none whole.whole in
    let page = slot_header (slot_head slot) in
    let front_is : front ≡ page = whole.split ∙ ap (λ (xs : List ℕ). page ++ xs) pages ∙ append-nil page in
    record { page = front; long = ap length front_is ∙ length-slot_header (slot_head slot); closed = before }

closed_too : (slot : Slot) (front now left : List ℕ) → IsFront slot front → IsBefore front now → IsBefore front left → IsClosedSlot now → IsClosedSlot left
closed_too slot front now left whole now_is left_is closed =
    elim (cases_lt 0 (length (records_of slot))) [
      | inl some ↦ absurd (not_both slot.generation now closed (open_front slot front now_is.rest now some whole now_is.split).0)
      | inr none ↦ empty_closed slot front left whole (nil_from_length (records_of slot) (omega (arith, none))) left_is
    ]

lesser_too : (side : Side) (generation : ℕ) (slot : Slot) (front now left : List ℕ) → IsFront slot front → IsBefore front now → IsBefore front left
    → IsLesserSlot side generation now → IsLesserSlot side generation left
lesser_too side generation slot front now left whole now_is left_is lesser =
    elim (cases_lt 0 (length (records_of slot))) [
      | inl some ↦
          let old = open_front slot front now_is.rest now some whole now_is.split in
          let new = open_front slot front left_is.rest left some whole left_is.split in
          let same = one_generation lesser.lesser slot.generation now lesser.opened old.0 in
          record { lesser = slot.generation; less = subst (λ (n : ℕ). IsLesser side n generation) same lesser.less; opened = new.0; more = new.1 }
      | inr none ↦ absurd (not_both lesser.lesser now
          (empty_closed slot front now whole (nil_from_length (records_of slot) (omega (arith, none))) now_is) lesser.opened)
    ]

behind_too : (side : Side) (found slot : Slot) (front now left : List ℕ) → IsFront slot front → IsBefore front now → IsBefore front left
    → IsBehind side found now → IsBehind side found left
behind_too side found slot front now left whole now_is left_is behind =
    elim behind [
      | inl first ↦ inl (first.0, closed_too slot front now left whole now_is left_is first.1)
      | inr other ↦ elim other.1 [
        | inl closed ↦ inr (other.0, inl (closed_too slot front now left whole now_is left_is closed))
        | inr lesser ↦ inr (other.0, inr (lesser_too side found.generation slot front now left whole now_is left_is lesser))
      ]
    ]

held_too : (found slot : Slot) (front now left : List ℕ) → IsFront slot front → IsBefore front now → IsBefore front left → HoldsSlot found now → HoldsSlot found left
held_too found slot front now left whole now_is left_is holds =
    subst (λ (s : Slot). HoldsSlot s left) (holds_one_slot slot found now (record { front = front; whole = whole; closed = now_is }) holds)
    (record { front = front; whole = whole; closed = left_is })

-- what is shown with the one file is shown with another of the same front
shows_too : (side : Side) (found slot : Slot) (front other now left : List ℕ) → IsFront slot front → IsBefore front now → IsBefore front left
    → (shows : Shows found (two_sides side now other)) → Shows found (two_sides side left other)
shows_too side found slot front other now left whole now_is left_is shows = go side shows.side shows.holds shows.behind
  where
    go : (side shown : Side) → HoldsSlot found (on shown (two_sides side now other)) → IsBehind shown found (off shown (two_sides side now other))
        → Shows found (two_sides side left other)
    go First First holds behind = record { side = First; holds = held_too found slot front now left whole now_is left_is holds; behind = behind }
    go First Second holds behind = record { side = Second; holds = holds; behind = behind_too Second found slot front now left whole now_is left_is behind }
    go Second First holds behind = record { side = First; holds = holds; behind = behind_too First found slot front now left whole now_is left_is behind }
    go Second Second holds behind = record { side = Second; holds = held_too found slot front now left whole now_is left_is holds; behind = behind }

leaves_two : (side : Side) (disks : Sides DiskState) (one other : List ℕ) → CrashLeaves (on side disks) one → CrashLeaves (off side disks) other
    → LeavesTwo disks (two_sides side one other)
leaves_two First disks one other leaves leaves' = (leaves, leaves')
leaves_two Second disks one other leaves leaves' = (leaves', leaves)

both_sides : (side : Side) (left : Sides (List ℕ)) → two_sides side (on side left) (off side left) ≡ left
both_sides First left = refl
both_sides Second left = refl

-- something that a crash could leave before shows no slot that this does not
pub record IsShownBefore (disks : Sides DiskState) (left : Sides (List ℕ)) : Type 0 where
  pub before : Sides (List ℕ)
  pub could : LeavesTwo disks before
  pub shows : (found : Slot) → Shows found before → Shows found left

-- while the chosen slot is cut
in_cut : (disks after : Sides DiskState) (left : Sides (List ℕ)) → LeavesTwo disks (reads_two disks) → StopsInCut disks after
    → LeavesTwo after left → IsShownBefore disks left
in_cut disks after left read stops leaves =
    let both = leaves_on stops.side after left leaves in
    let other = stops.other.leaves (off stops.side left) both.1 in
    subst (λ (l : Sides (List ℕ)). IsShownBefore disks l) (both_sides stops.side left)
    (elim (stops.current (on stops.side left) both.0) [
      | inl before ↦ record {
        before = two_sides stops.side (on stops.side left) (off stops.side left);
        could = leaves_two stops.side disks (on stops.side left) (off stops.side left) before other;
        shows = λ found shows. shows;
      }
      | inr cut ↦
          let now = (on stops.side disks).now in
          let possible = (leaves_on stops.side disks (reads_two disks) read).0 in
          let this = subst (λ (xs : List ℕ). CrashLeaves (on stops.side disks) xs) (reads_on stops.side disks) possible in
          record {
            before = two_sides stops.side now (off stops.side left);
            could = leaves_two stops.side disks now (off stops.side left) this other;
            shows = λ found shows.
                shows_too stops.side found stops.slot stops.front (off stops.side left) now (on stops.side left) stops.whole stops.closed cut shows;
          }
    ])

-- what a crash leaves after an opening that stopped
pub stopped_shows : (disks after : Sides DiskState) (left : Sides (List ℕ)) → LeavesTwo disks (reads_two disks) → StopsTwo disks after
    → LeavesTwo after left → IsShownBefore disks left
stopped_shows disks after left read stops leaves =
    elim stops [
      | inl early ↦ record {
        before = left;
        could = (early.0.leaves left.a leaves.0, early.1.leaves left.b leaves.1);
        shows = λ found shows. shows;
      }
      | inr late ↦ in_cut disks after left read late leaves
    ]

pub stopped_possible : (disks after : Sides DiskState) → StopsTwo disks after → LeavesTwo after (reads_two after)
stopped_possible disks after stops =
    elim stops [
      | inl early ↦ (early.0.possible, early.1.possible)
      | inr late ↦ reads_possible late.side after late.possible late.other.possible
    ]

stopped : (slot : Slot) (next : Option Entry) (checkpoint : Checkpoint) (disks after : Sides DiskState)
    → IsSafeTwo slot next checkpoint disks → StopsTwo disks after → IsSafeTwo slot next checkpoint after
stopped slot next checkpoint disks after safe stops = record {
  each = λ left leaves.
      let was = stopped_shows disks after left safe.possible stops leaves in
      let one = safe.each was.before was.could in
      record { found = one.found; may = one.may; shows = was.shows one.found one.shows };
  possible = stopped_possible disks after stops;
}

pub openings_find : OpeningsFind
openings_find = record { opened = opened; can_open = can_open; stopped = stopped }
