use Rattle.std.proofs.Common.{◌∙◌, ◌<◌, ◌≤◌, Some, ap, arith}
use Rattle.std.proofs.Math.Logic.{∥∥₁_map}
use Rattle.ide_store.specs.Hands.{Roots}
use Rattle.std.specs.Option.{option_map}
use Rattle.ide_desks.proofs.Works.{root_counted, root_kept, root_spelled, sealed_alone, sealed_first, stayed, still_counted, still_kept}
use Rattle.ide_desks.proofs.table.TableDesk.root.Goals as goal

-- ---- what changed was sealed first
pub note_last_two-requires-clause-room : goal.note_last_two-requires-clause-room
note_last_two-requires-clause-room g c =
    let count = c.args.self.now.counts.count in
    let more = c.if-ticket-before.true in
    let before = c.sealed-before.ensures in
    let number = c.in-Ok.ensures.begins.number_is in
    let few = c.in-Ok.ensures.few in
    omega (arith, count, more, before, number, few)

pub invariant_of-self : goal.invariant_of-self
invariant_of-self g c =
    let old = c.args.self.now in
    let new = c.root.new.self in
    let begins = c.in-Ok.ensures.begins in
    let seat = c.note_last_two.new.seat in
    let by = Some c.args.client.now.number in
    let before = c.sealed-before.ensures in
    let less = c.if-ticket-before.true in
    let more : old.half.sealed < c.in-Ok.ticket.number = omega (arith, before, less) in
    let some = sealed_first old.half new begins.first begins.entry _ begins.sealed begins.number_is more in
    record {
      named = (old.named.0, ap (λ s. s.board) c.note_last_two.ensures.seat ∙ old.named.1);
      switched = old.switched;
      counts = root_counted old.half new old.seat seat old.counts begins.first begins.entry by begins.sealed (λ none. absurd (some none)) (λ _. c.note_last_two.ensures.seat);
      kept = root_kept _ _ old.half new old.seat seat old.counts c.in-Ok.ensures.working begins.first begins.entry by begins.waits
          (λ none. absurd (some none)) (λ _. c.note_last_two.ensures.seat) (λ place. Roots _ (option_map (λ batch. (old.half.version, batch)) begins.first) (old.half.version, begins.entry)) (λ place. tt) begins.act old.kept;
    }

-- ---- nothing was
pub invariant_of-self-in-Ok : goal.invariant_of-self-in-Ok
invariant_of-self-in-Ok g c =
    let old = c.args.self.now in
    let new = c.root.new.self in
    let begins = c.in-Ok.ensures.begins in
    let seat = c.note_last.new.seat in
    let by = Some c.args.client.now.number in
    let before = c.sealed-before.ensures in
    let less = c.if-ticket-before.false in
    let few : c.in-Ok.ticket.number ≤ old.half.sealed = omega (arith, before, less) in
    let none = sealed_alone old.half new begins.first begins.entry _ begins.sealed begins.number_is few in
    record {
      named = (old.named.0, ap (λ s. s.board) c.note_last.ensures.seat ∙ old.named.1);
      switched = old.switched;
      counts = root_counted old.half new old.seat seat old.counts begins.first begins.entry by begins.sealed (λ _. c.note_last.ensures.seat) (λ some. absurd (none some));
      kept = root_kept _ _ old.half new old.seat seat old.counts c.in-Ok.ensures.working begins.first begins.entry by begins.waits
          (λ _. c.note_last.ensures.seat) (λ some. absurd (none some)) (λ place. Roots _ (option_map (λ batch. (old.half.version, batch)) begins.first) (old.half.version, begins.entry)) (λ place. tt) begins.act old.kept;
    }

pub invariant_of-self-in-Err-1 : goal.invariant_of-self-in-Err-1
invariant_of-self-in-Err-1 g c =
    let old = c.args.self.now in
    let same = c.in-Err.ensures.unchanged in
    record {
      named = old.named;
      switched = old.switched;
      counts = still_counted old.half c.root.new.self old.seat same.rest old.counts;
      kept = still_kept _ _ old.half c.root.new.self old.seat same.rest (λ v handed. stayed _ _ v handed old.half c.root.new.self same) old.kept;
    }

-- ---- the record is that of the root
pub returns-then-ticket-before-clause-command : goal.returns-then-ticket-before-clause-command
returns-then-ticket-before-clause-command g c told =
    let old = c.args.self.now in
    ∥∥₁_map (old.kept told) (λ desk. root_spelled _ _ _ _ old.seat _ old.half c.root.new.self _ desk c.in-Ok.ensures.working c.in-Ok.ensures.begins)

pub returns-else-ticket-before-clause-command : goal.returns-else-ticket-before-clause-command
returns-else-ticket-before-clause-command g c told =
    let old = c.args.self.now in
    ∥∥₁_map (old.kept told) (λ desk. root_spelled _ _ _ _ old.seat _ old.half c.root.new.self _ desk c.in-Ok.ensures.working c.in-Ok.ensures.begins)
