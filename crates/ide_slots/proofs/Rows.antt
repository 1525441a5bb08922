-- The worked checkpoint, computed.
use Rattle.std.specs.Prelude.{[], ◌∷◌, refl}
use Rattle.std.proofs.Common.{arith}
use Rattle.ide_journal.specs.Format.{after_gate, padding, zeros}
use Rattle.ide_slots.specs.Slot.{IsPartEntry, IsSlot, slot_header}
use Rattle.ide_slots.specs.Rows.{WorkedRow, worked_slot}
use Rattle.ide_slots.proofs.FirstSlots.{all_more}

worked_proper : IsSlot worked_slot
worked_proper = record {
  valid = record {
    tag = omega arith;
    generation = omega arith;
    base = omega arith;
    commands = omega arith;
    parts = omega arith;
    first = λ is. absurd (omega (arith, is));
    later = λ less. omega arith;
  };
  commands = (
    omega arith,
    omega arith,
    record { some_kind = omega arith; known_kind = omega arith; short = omega arith },
    (omega arith, omega arith, record { some_kind = omega arith; known_kind = omega arith; short = omega arith }, tt),
  );
  parts = all_more IsPartEntry (4, 7 ∷ []) [] (record { kind = refl; short = omega arith }) (λ k d inside. absurd (omega (arith, inside)));
  rest = λ k d inside. absurd (omega (arith, inside));
  few = omega arith;
}

pub worked_row : WorkedRow
unfolding slot_header after_gate padding zeros
worked_row = record { proper = worked_proper; count = refl; header = refl; calls = refl; end = refl }
