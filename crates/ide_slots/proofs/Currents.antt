-- Which of two slots is current.
use Rattle.std.specs.Prelude.{◌≡◌, ◌≢◌, ◌<◌, ℕ, List, [], ◌∷◌, ◌++◌, length, drop, slice_index, refl}
use Rattle.std.proofs.Common.{sym, ap, ◌∙◌, inl, inr}
use Rattle.std.proofs.lemmas.Bool.{cases_lt}
use Rattle.std.proofs.lemmas.List.{append_assoc, drop_at, drop_more}
use Rattle.ide_slots.specs.Current.{BeginsSo, HasNoCurrent, IsBehindOpen, IsCurrent, both_closed, files}
use Rattle.ide_slots.specs.Reading.{Tells, TellsNothing}
use Rattle.ide_slots.specs.Sides.{First, Second}
use Rattle.ide_slots.specs.Slot.{IsClosedSlot, IsOpenSlot, SlotHead, slot_header}
use Rattle.ide_slots.specs.declared.current.Beginning.{Beginning}
use Rattle.ide_slots.specs.declared.current.Beginning.TheVariants.{Closed, Open}
use Rattle.ide_slots.proofs.Gates.{gate_closed, gate_open}
use Rattle.ide_slots.proofs.Heads.{length-slot_header}

-- a first page and an open gate behind it
pub opened_behind : (told : SlotHead) (bytes : List ℕ) → Tells told bytes → 4096 < length bytes → slice_index bytes 4096 ≢ 0
    → IsOpenSlot told.generation bytes
opened_behind told bytes tells inside gate =
    let page = slot_header told in
    let behind : tells.rest ≡ slice_index bytes 4096 ∷ drop 4097 bytes =
    sym (ap (λ (xs : List ℕ). drop 4096 xs) tells.split ∙ drop_at page tells.rest 4096 (length-slot_header told)) ∙ drop_more bytes 4096 0 inside in
    record {
      told = told;
      valid = tells.valid;
      is = refl;
      opened = record {
        gate = slice_index bytes 4096;
        rest = drop 4097 bytes;
        opened = gate;
        split = tells.split ∙ ap (λ (xs : List ℕ). page ++ xs) behind
            ∙ sym (append_assoc page (slice_index bytes 4096 ∷ []) (drop 4097 bytes));
      };
    }

long_enough : (beginning : Beginning) (bytes : List ℕ) → BeginsSo beginning bytes → 4096 < length bytes
long_enough Closed bytes closed = (gate_closed bytes closed).0
long_enough (Open told) bytes opened = (gate_open told.generation bytes opened.1).0

-- B is closed
pub first_by_closed : (a b : List ℕ) (beginning : Beginning) (told : SlotHead) → BeginsSo beginning a → IsClosedSlot b → Tells told a
    → IsCurrent First told (files a b)
first_by_closed a b beginning told begins closed tells =
    record { chosen = inl closed; tells = tells; gate = long_enough beginning a begins }

-- or A is not behind it
pub first_by_open : (a b : List ℕ) (beginning : Beginning) (other told : SlotHead) → BeginsSo beginning a → BeginsSo (Open other) b
    → (IsBehindOpen beginning other → ⊥) → Tells told a → IsCurrent First told (files a b)
first_by_open a b Closed other told begins opened behind tells = absurd (behind tt)
first_by_open a b (Open own) other told begins opened behind tells = record {
  chosen = inr (
    own.generation,
    other.generation,
    begins.1,
    opened.1,
    elim (cases_lt own.generation other.generation) [
      | inl less ↦ absurd (behind less)
      | inr least ↦ least
    ],
  );
  tells = tells;
  gate = long_enough (Open own) a begins;
}

pub second_by_open : (a b : List ℕ) (beginning : Beginning) (told : SlotHead) → BeginsSo beginning a → BeginsSo (Open told) b
    → IsBehindOpen beginning told → IsCurrent Second told (files a b)
second_by_open a b Closed told begins opened behind =
    record { chosen = (told.generation, opened.1, inl begins); tells = opened.0; gate = long_enough (Open told) b opened }
second_by_open a b (Open own) told begins opened behind = record {
  chosen = (told.generation, opened.1, inr (own.generation, begins.1, behind));
  tells = opened.0;
  gate = long_enough (Open told) b opened;
}

-- A would be taken, and its first page is not valid
pub none_by_closed : (a b : List ℕ) (beginning : Beginning) → BeginsSo beginning a → IsClosedSlot b → TellsNothing a → HasNoCurrent (files a b)
none_by_closed a b Closed begins closed nothing = both_closed begins closed nothing
none_by_closed a b (Open own) begins closed nothing = absurd (nothing own begins.0)

pub none_by_open : (a b : List ℕ) (beginning : Beginning) (other : SlotHead) → BeginsSo beginning a
    → (IsBehindOpen beginning other → ⊥) → TellsNothing a → HasNoCurrent (files a b)
none_by_open a b Closed other begins behind nothing = absurd (behind tt)
none_by_open a b (Open own) other begins behind nothing = absurd (nothing own begins.0)
