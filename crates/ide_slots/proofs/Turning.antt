-- Which side an opening takes, whatever a crash leaves.
use Rattle.std.specs.Prelude.{ℕ, ◌<◌, List, Option, length}
use Rattle.std.proofs.Common.{arith, inl, inr, subst}
use Rattle.ide_disk.specs.Disk.{CrashLeaves, DiskState}
use Rattle.ide_journal.specs.Format.{Entry}
use Rattle.ide_journal.specs.declared.stage.Stage.{Stage}
use Rattle.ide_slots.specs.Filling.{fill_call}
use Rattle.ide_slots.specs.Sides.{First, IsBehind, IsChosen, Second, Side, Sides, across, off, on}
use Rattle.ide_slots.specs.Slot.{HoldsSlot, IsFront, Slot, records_of, slot_count, with_more}
use Rattle.ide_slots.specs.Two.{Beside, Checkpoint, IsNextSlot, IsTurning, KnowsNext, LeavesTwo, CanBeNext, NotBegun, Planned, SlotWriter, StandsTwo, UnderWay}
use Rattle.ide_slots.specs.TwoLaws.{SidesAreChosen}
use Rattle.ide_slots.proofs.Chosen.{shown_on}
use Rattle.ide_slots.proofs.Disks.{before_call}
use Rattle.ide_slots.proofs.Fillings.{fillings_stay_behind}
use Rattle.ide_slots.proofs.Fronts.{behind_more, held_after, held_before, next_some}
use Rattle.ide_slots.proofs.Gates.{open_held}
use Rattle.ide_slots.proofs.Standing.{IsLeftOf, at_idle, either, idle_left, knows_left, leaves_on, made_some, only_before, settled_behind}

left_chosen : (side : Side) (slot : Slot) (next : Option Entry) (front : List ℕ) (left : Sides (List ℕ)) → IsFront slot front
    → CanBeNext (slot_count slot) next → IsLeftOf front (slot_count slot) next (on side left) → IsBehind side slot (off side left) → IsChosen side left
left_chosen side slot next front left whole fits is behind =
    elim is [
      | only_before before ↦ shown_on side slot left (held_before slot front (on side left) whole before) behind
      | either entry next_is both ↦ elim both [
        | inl before ↦ shown_on side slot left (held_before slot front (on side left) whole before) behind
        | inr after ↦
            let fit = subst (λ (o : Option Entry). CanBeNext (slot_count slot) o) next_is fits in
            shown_on side (with_more slot entry) left (held_after slot entry front (on side left) whole fit.0 fit.1 after)
            (behind_more side slot entry (off side left) behind)
      ]
    ]

stands_chosen : (checkpoint : Checkpoint) (side : Side) (slot : Slot) (next : Option Entry) (stage : Stage) (front : List ℕ) (disks : Sides DiskState) (left : Sides (List ℕ))
    → IsFront slot front → KnowsNext stage front (slot_count slot) next (on side disks) → CanBeNext (slot_count slot) next
    → Beside side slot stage checkpoint (off side disks) → CrashLeaves (on side disks) (on side left) → CrashLeaves (off side disks) (off side left)
    → (IsTurning checkpoint → ⊥) → IsChosen side left
stands_chosen NotBegun side slot next stage front disks left whole knows fits beside one other early =
    left_chosen side slot next front left whole fits (knows_left stage front (slot_count slot) next (on side disks) (on side left) knows one)
    (settled_behind (IsBehind side slot) (off side disks) (off side left) beside other)
stands_chosen (Planned after) side slot next stage front disks left whole knows fits beside one other early =
    left_chosen side slot next front left whole fits (knows_left stage front (slot_count slot) next (on side disks) (on side left) knows one)
    (settled_behind (IsBehind side slot) (off side disks) (off side left) beside.0 other)
stands_chosen (UnderWay after fill) side slot next stage front disks left whole knows fits made one other early =
    let before = idle_left front (on side left) (on side disks) (at_idle stage front (slot_count slot) next (on side disks) made.idle knows) one in
    let some = made_some side slot after stage fill (off side disks) front whole made in
    shown_on side slot left (held_before slot front (on side left) whole before)
    (inr (
      some,
      fillings_stay_behind side slot.generation after fill (off side disks) (off side left) early made.filling
          (before_call (fill_call after fill) (off side disks) (off side left) other),
    ))

current : (slot : Slot) (next : Option Entry) (work : SlotWriter) (disks : Sides DiskState) (left : Sides (List ℕ))
    → StandsTwo slot next work disks → (IsTurning work.checkpoint → ⊥) → LeavesTwo disks left → IsChosen work.side left
current slot next work disks left stands early leaves =
    let both = leaves_on work.side disks left leaves in
    stands_chosen work.checkpoint work.side slot next work.stage stands.front disks left stands.whole stands.knows stands.fits stands.beside both.0 both.1 early

turned : (side : Side) (slot next : Slot) (left : Sides (List ℕ)) → 0 < length (records_of slot) → IsNextSlot slot next
    → HoldsSlot slot (on side left) → HoldsSlot next (off side left) → IsChosen (across side) left
turned First slot next left some follows holds other = (
  next.generation,
  (open_held next left.b (next_some slot next follows).0 other).0,
  inr (slot.generation, (open_held slot left.a some holds).0, omega (arith, follows.generation)),
)
turned Second slot next left some follows holds other = inr (
  next.generation,
  slot.generation,
  (open_held next left.a (next_some slot next follows).0 other).0,
  (open_held slot left.b some holds).0,
  omega (arith, follows.generation),
)

pub sides_are_chosen : SidesAreChosen
sides_are_chosen = record { current = current; turned = turned }
