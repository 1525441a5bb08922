use Rattle.std.proofs.Common.{arith, ap, length, []}
use Rattle.std.proofs.lemmas.List.Elements.{All-cons, All-nil}
use Rattle.ide_slots.specs.Slot.{IsPartEntry}
use Rattle.ide_slot_journal_tests.proofs.tests.journal.plan.Goals as goal

pub plan-requires-clause-proper : goal.plan-requires-clause-proper
plan-requires-clause-proper g c = record {
  low = omega arith;
  some = omega arith;
  few_commands = omega arith;
  few_parts = omega arith;
  commands = (
    omega arith,
    omega arith,
    record {
      some_kind = omega (arith, c.in_ok-record.ensures.kind);
      known_kind = omega (arith, c.in_ok-record.ensures.kind);
      short = omega (arith, ap length c.in_ok-record.ensures.body);
    },
    (
      omega arith,
      omega arith,
      record {
        some_kind = omega (arith, c.in_ok-record-2.ensures.kind);
        known_kind = omega (arith, c.in_ok-record-2.ensures.kind);
        short = omega (arith, ap length c.in_ok-record-2.ensures.body);
      },
      tt,
    ),
  );
  parts = All-cons IsPartEntry _ []
      (record { kind = c.in_ok-part.ensures.kind; short = omega (arith, ap length c.in_ok-part.ensures.body) })
      (All-nil IsPartEntry);
}
