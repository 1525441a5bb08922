-- Where the writer stands, whatever a crash leaves shows one of the slots that may be found.
use Rattle.std.specs.Prelude.{◌≡◌, ◌≢◌, ◌⊎◌, ℕ, ◌+◌, ◌<◌, true, false, List, [], ◌∷◌, ◌++◌, Option, Some, None, length, refl}
use Rattle.std.proofs.Common.{arith, sym, subst, inl, inr}
use Rattle.std.proofs.lemmas.List.{append_assoc, length-append}
use Rattle.ide_disk.specs.Disk.{CrashLeaves, DiskState, Keeps, Wrote, settled}
use Rattle.ide_disk.specs.Kept.{keeps_left, keeps_more, keeps_pad, keeps_put}
use Rattle.ide_journal.specs.Bytes.{IsBefore, IsBeforeOrAfter, Knows}
use Rattle.ide_journal.specs.Format.{Entry, after_gate}
use Rattle.ide_journal.specs.declared.stage.Stage.{Stage}
use Rattle.ide_journal.specs.declared.stage.Stage.TheVariants.{Idle, Begun, Written, BodySynced, GateWritten, Failed}
use Rattle.ide_journal.proofs.Left.{left_in}
use Rattle.ide_slots.specs.DiskCalls.{LeavesWithin}
use Rattle.ide_slots.specs.Filling.{AtFilling, Closes, Filling, Fills, Heads, IsLate, IsSettledWith, Lasts, OpensGate, Settles, Trims, fill_call, with_gate}
use Rattle.ide_slots.specs.Sides.{First, IsBehind, Second, Shows, Side, Sides, off, on}
use Rattle.ide_slots.specs.Slot.{HoldsSlot, IsFront, Slot, slot_count, records_of, with_more}
use Rattle.ide_slots.specs.Two.{Beside, Checkpoint, IsMade, IsNextSlot, KnowsNext, LeavesTwo, CanBeNext, NotBegun, Planned, ShowsOne, UnderWay, reads_two}
use Rattle.ide_slots.specs.TwoLaws.{StandingIsSafe}
use Rattle.ide_slots.proofs.Disks.{before_call, put_gate}
use Rattle.ide_slots.proofs.Fillings.{fillings_stay_behind}
use Rattle.ide_slots.proofs.Fronts.{behind_more, held_after, held_before, next_some, some_records}
use Rattle.ide_slots.proofs.Gates.{open_held}
use Rattle.ide_slots.proofs.Whole.{fillings_end_whole}

pub leaves_on : (side : Side) (disks : Sides DiskState) (left : Sides (List ℕ)) → LeavesTwo disks left
    → CrashLeaves (on side disks) (on side left) × CrashLeaves (off side disks) (off side left)
leaves_on First disks left leaves = (leaves.0, leaves.1)
leaves_on Second disks left leaves = (leaves.1, leaves.0)

pub reads_possible : (side : Side) (disks : Sides DiskState) → CrashLeaves (on side disks) (on side disks).now
    → CrashLeaves (off side disks) (off side disks).now → LeavesTwo disks (reads_two disks)
reads_possible First disks one other = (one, other)
reads_possible Second disks one other = (other, one)

some_tail : (r : ℕ × Entry) → 0 < length (with_gate 0 r)
some_tail r = omega (arith, length-append (after_gate r.0 r.1) (0 ∷ []))

-- what is left of the current disk stands before the gate of the next record, or behind it too
pub data IsLeftOf (front : List ℕ) (number : ℕ) (next : Option Entry) (left : List ℕ) : Type 0 where
  only_before : IsBefore front left → IsLeftOf front number next left
  either : (entry : Entry) → next ≡ Some entry → IsBeforeOrAfter front (with_gate 0 (number, entry)) left → IsLeftOf front number next left

pub knows_left : (stage : Stage) (front : List ℕ) (number : ℕ) (next : Option Entry) (disk : DiskState) (left : List ℕ)
    → KnowsNext stage front number next disk → CrashLeaves disk left → IsLeftOf front number next left
knows_left stage front number None disk left knows leaves =
    only_before (record { rest = []; split = subst (λ (d : DiskState). CrashLeaves d left) knows.1 leaves })
knows_left stage front number (Some entry) disk left knows leaves =
    either entry refl (left_in stage front (with_gate 0 (number, entry)) disk (some_tail (number, entry)) knows.1 left leaves)

-- with no record under way it stands before the gate
pub idle_disk : (front : List ℕ) (number : ℕ) (next : Option Entry) (disk : DiskState) → KnowsNext Idle front number next disk → disk ≡ settled (front ++ 0 ∷ [])
idle_disk front number None disk knows = knows.1
idle_disk front number (Some entry) disk knows = knows.1

pub at_idle : (stage : Stage) (front : List ℕ) (number : ℕ) (next : Option Entry) (disk : DiskState) → stage ≡ Idle
    → KnowsNext stage front number next disk → disk ≡ settled (front ++ 0 ∷ [])
at_idle stage front number next disk idle knows =
    idle_disk front number next disk (subst (λ (s : Stage). KnowsNext s front number next disk) idle knows)

pub idle_left : (front left : List ℕ) (disk : DiskState) → disk ≡ settled (front ++ 0 ∷ []) → CrashLeaves disk left → IsBefore front left
idle_left front left disk is leaves = record { rest = []; split = subst (λ (d : DiskState). CrashLeaves d left) is leaves }

-- which slots are found
pub shows_slot : (side : Side) (slot : Slot) (next : Option Entry) (checkpoint : Checkpoint) (left : Sides (List ℕ))
    → HoldsSlot slot (on side left) → IsBehind side slot (off side left) → ShowsOne slot next checkpoint left
shows_slot side slot next checkpoint left holds behind = record {
  found = slot;
  may = inl refl;
  shows = record { side = side; holds = holds; behind = behind };
}

pub shows_left : (side : Side) (slot : Slot) (next : Option Entry) (checkpoint : Checkpoint) (front : List ℕ) (left : Sides (List ℕ)) → IsFront slot front
    → CanBeNext (slot_count slot) next → IsLeftOf front (slot_count slot) next (on side left) → IsBehind side slot (off side left)
    → ShowsOne slot next checkpoint left
shows_left side slot next checkpoint front left whole fits is behind =
    elim is [
      | only_before before ↦ shows_slot side slot next checkpoint left (held_before slot front (on side left) whole before) behind
      | either entry next_is both ↦ elim both [
        | inl before ↦ shows_slot side slot next checkpoint left (held_before slot front (on side left) whole before) behind
        | inr after ↦
            let fit = subst (λ (o : Option Entry). CanBeNext (slot_count slot) o) next_is fits in
            record {
              found = with_more slot entry;
              may = inr (inl (record { entry = entry; next_is = next_is; is = refl }));
              shows = record {
                side = side;
                holds = held_after slot entry front (on side left) whole fit.0 fit.1 after;
                behind = behind_more side slot entry (off side left) behind;
              };
            }
      ]
    ]

-- beside the slot of a checkpoint, the slot before is of lesser generation
pub shows_next : (side : Side) (slot next : Slot) (left : Sides (List ℕ)) → 0 < length (records_of slot) → IsNextSlot slot next
    → HoldsSlot slot (on side left) → HoldsSlot next (off side left) → Shows next left
shows_next First slot next left some follows holds other =
    let opened = open_held slot left.a some holds in
    record {
      side = Second;
      holds = other;
      behind = inr (
        (next_some slot next follows).0,
        inr (record {
          lesser = slot.generation;
          less = omega (arith, follows.generation);
          opened = opened.0;
          more = opened.1;
        }),
      );
    }
shows_next Second slot next left some follows holds other =
    let opened = open_held slot left.b some holds in
    record {
      side = First;
      holds = other;
      behind = inr (
        (next_some slot next follows).0,
        inr (record {
          lesser = slot.generation;
          less = omega (arith, follows.generation);
          opened = opened.0;
          more = opened.1;
        }),
      );
    }

late_or_not : (fill : Filling) → IsLate fill ⊎ (IsLate fill → ⊥)
late_or_not (Closes closed) = inr (λ late. late)
late_or_not Settles = inr (λ late. late)
late_or_not Trims = inr (λ late. late)
late_or_not Heads = inr (λ late. late)
late_or_not (Fills at todo) = inr (λ late. late)
late_or_not OpensGate = inl tt
late_or_not Lasts = inl tt

-- where a checkpoint makes its calls, the current slot has a record
pub made_some : (side : Side) (slot next : Slot) (stage : Stage) (fill : Filling) (disk : DiskState) (front : List ℕ) → IsFront slot front
    → IsMade side slot next stage fill disk → 0 < length (records_of slot)
made_some side slot next stage fill disk front whole made =
    some_records slot whole.proper (omega (arith, made.stored, (next_some slot next made.follows).1))

-- within its calls
pub made_shows : (side : Side) (slot : Slot) (waits : Option Entry) (next : Slot) (stage : Stage) (fill : Filling) (disk : DiskState) (front : List ℕ) (left : Sides (List ℕ))
    → IsFront slot front → IsBefore front (on side left) → IsMade side slot next stage fill disk
    → LeavesWithin (fill_call next fill) disk (off side left) → ShowsOne slot waits (UnderWay next fill) left
made_shows side slot waits next stage fill disk front left whole before made within =
    let some = made_some side slot next stage fill disk front whole made in
    let holds = held_before slot front (on side left) whole before in
    elim (late_or_not fill) [
      | inl late ↦
          elim (fillings_end_whole.late side slot.generation next fill disk (off side left) made.follows.proper (next_some slot next made.follows).0 late made.filling within) [
            | inl closed ↦ shows_slot side slot waits (UnderWay next fill) left holds (inr (some, inl closed))
            | inr whole_next ↦ record {
              found = next;
              may = inr (inr (late, refl));
              shows = shows_next side slot next left some made.follows holds whole_next;
            }
          ]
      | inr early ↦
          shows_slot side slot waits (UnderWay next fill) left holds
          (inr (some, fillings_stay_behind side slot.generation next fill disk (off side left) early made.filling within))
    ]

pub settled_behind : (P : List ℕ → Type 0) (disk : DiskState) (left : List ℕ) → IsSettledWith P disk → CrashLeaves disk left → P left
settled_behind P disk left is leaves = subst P (sym (subst (λ (d : DiskState). CrashLeaves d left) is.settled_disk leaves)) is.holds

stands_show : (checkpoint : Checkpoint) (side : Side) (slot : Slot) (next : Option Entry) (stage : Stage) (front : List ℕ) (disks : Sides DiskState) (left : Sides (List ℕ))
    → IsFront slot front → KnowsNext stage front (slot_count slot) next (on side disks) → CanBeNext (slot_count slot) next
    → Beside side slot stage checkpoint (off side disks) → CrashLeaves (on side disks) (on side left) → CrashLeaves (off side disks) (off side left)
    → ShowsOne slot next checkpoint left
stands_show NotBegun side slot next stage front disks left whole knows fits beside one other =
    shows_left side slot next NotBegun front left whole fits (knows_left stage front (slot_count slot) next (on side disks) (on side left) knows one)
    (settled_behind (IsBehind side slot) (off side disks) (off side left) beside other)
stands_show (Planned after) side slot next stage front disks left whole knows fits beside one other =
    shows_left side slot next (Planned after) front left whole fits (knows_left stage front (slot_count slot) next (on side disks) (on side left) knows one)
    (settled_behind (IsBehind side slot) (off side disks) (off side left) beside.0 other)
stands_show (UnderWay after fill) side slot next stage front disks left whole knows fits made one other =
    made_shows side slot next after stage fill (off side disks) front left whole
    (idle_left front (on side left) (on side disks) (at_idle stage front (slot_count slot) next (on side disks) made.idle knows) one) made
    (before_call (fill_call after fill) (off side disks) (off side left) other)

-- what is read is something that a crash may leave
knows_possible : (stage : Stage) (base tail : List ℕ) (disk : DiskState) → stage ≢ Failed → Knows stage base tail disk → CrashLeaves disk disk.now
knows_possible Idle base tail disk whole knows = subst (λ (d : DiskState). CrashLeaves d d.now) (sym knows) refl
knows_possible Begun base tail disk whole knows = subst (λ (d : DiskState). CrashLeaves d d.now) (sym knows) refl
knows_possible Written base tail disk whole knows =
    let synced : List ℕ = base ++ 0 ∷ [] in
    subst (λ (d : DiskState). CrashLeaves d d.now) (sym knows)
    (subst (λ (xs : List ℕ). Keeps synced (Wrote (length base + 1) (length tail) ∷ []) xs) (append_assoc base (0 ∷ []) tail)
    (keeps_pad synced (Wrote (length base + 1) (length tail) ∷ []) synced tail
    (keeps_more synced (Wrote (length base + 1) (length tail)) [] synced (keeps_left synced [] synced refl))))
knows_possible BodySynced base tail disk whole knows = subst (λ (d : DiskState). CrashLeaves d d.now) (sym knows) refl
knows_possible GateWritten base tail disk whole knows =
    let synced : List ℕ = base ++ 0 ∷ tail in
    subst (λ (d : DiskState). CrashLeaves d d.now) (sym knows)
    (subst (λ (xs : List ℕ). Keeps synced (Wrote (length base) 1 ∷ []) xs) (put_gate base tail 0 1)
    (keeps_put synced [] synced (length base) 1 (1 ∷ []) (omega arith) (keeps_left synced [] synced refl)))
knows_possible Failed base tail disk whole knows = absurd (whole refl)

pub next_possible : (stage : Stage) (front : List ℕ) (number : ℕ) (next : Option Entry) (disk : DiskState) → KnowsNext stage front number next disk → CrashLeaves disk disk.now
next_possible stage front number None disk knows = subst (λ (d : DiskState). CrashLeaves d d.now) (sym knows.1) refl
next_possible stage front number (Some entry) disk knows = knows_possible stage front (with_gate 0 (number, entry)) disk knows.0 knows.1

settled_possible : (P : List ℕ → Type 0) (disk : DiskState) → IsSettledWith P disk → CrashLeaves disk disk.now
settled_possible P disk is = subst (λ (d : DiskState). CrashLeaves d d.now) (sym is.settled_disk) refl

filling_possible : (side : Side) (generation : ℕ) (next : Slot) (fill : Filling) (disk : DiskState) → AtFilling side generation next fill disk → CrashLeaves disk disk.now
filling_possible side generation next (Closes true) disk at = subst (λ (d : DiskState). CrashLeaves d d.now) (sym at.settled_disk) refl
filling_possible side generation next (Closes false) disk at = subst (λ (d : DiskState). CrashLeaves d d.now) (sym at.settled_disk) refl
filling_possible side generation next Settles disk at = at.possible
filling_possible side generation next Trims disk at = subst (λ (d : DiskState). CrashLeaves d d.now) (sym at.settled_disk) refl
filling_possible side generation next Heads disk at = at.so.possible
filling_possible side generation next (Fills place todo) disk at = at.so.possible
filling_possible side generation next OpensGate disk knows = knows_possible BodySynced _ _ disk (λ same. cc) knows
filling_possible side generation next Lasts disk knows = knows_possible GateWritten _ _ disk (λ same. cc) knows

pub beside_possible : (side : Side) (slot : Slot) (stage : Stage) (checkpoint : Checkpoint) (disk : DiskState) → Beside side slot stage checkpoint disk → CrashLeaves disk disk.now
beside_possible side slot stage NotBegun disk beside = settled_possible (IsBehind side slot) disk beside
beside_possible side slot stage (Planned next) disk beside = settled_possible (IsBehind side slot) disk beside.0
beside_possible side slot stage (UnderWay next fill) disk made = filling_possible side slot.generation next fill disk made.filling

pub standing_is_safe : StandingIsSafe
standing_is_safe slot next work disks stands = record {
  each = λ left leaves.
      let both = leaves_on work.side disks left leaves in
      stands_show work.checkpoint work.side slot next work.stage stands.front disks left stands.whole stands.knows stands.fits stands.beside both.0 both.1;
  possible = reads_possible work.side disks (next_possible work.stage stands.front (slot_count slot) next (on work.side disks) stands.knows)
      (beside_possible work.side slot work.stage work.checkpoint (off work.side disks) stands.beside);
}
