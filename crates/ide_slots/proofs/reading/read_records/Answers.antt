use Rattle.std.proofs.Common.{◌≡◌, ℕ, List, [], ◌∷◌, ◌++◌, ◌+◌, length, drop, arith, rules, sym, ap, subst, ◌∙◌}
use Rattle.std.proofs.lemmas.List.{map_push, length-map, take_rest}
use Rattle.ide_slots.specs.Records.{AreReadSo, IsReadRecord, MayStand, NoneStands, all_numbered, broken, end_of_numbers, numbered}
use Rattle.ide_slots.specs.Refusals.{slot_damaged}
use Rattle.ide_slots.specs.Slot.{NumberedEntry}
use Rattle.ide_slots.proofs.Places.{end_push, read_more}
use Rattle.ide_slots.proofs.reading.read_records.Goals as goal

pub loop-gate-preserved : goal.loop-gate-preserved
loop-gate-preserved c =
    let records = c.loop-gate.records.items in
    let found = c.in-Some.found in
    let bytes = c.args.bytes.now in
    let head = c.args.head.now in
    let gate = c.loop-gate.gate in
    let pushed : c.push.new.self.items ≡ records ++ found ∷ [] = search rules in
    let all : all_numbered c.push.new.self.items ≡ all_numbered records ++ numbered found ∷ [] =
    ap all_numbered pushed ∙ map_push numbered records found in
    let place : c.len-place.result ≡ length (all_numbered records) =
    omega (arith, c.len-place.ensures, c.loop-gate.records.ok, length-map records numbered) in
    let whole = rw c.in-Some.is at c.in_ok-found.ensures.whole in
    let stands = rw c.in-Some.is at c.in_ok-found.ensures.place in
    let read = subst (λ (xs : List ℕ). IsReadRecord (numbered found) c.in-Some.size xs) (take_rest bytes (gate + 1)) whole in
    let in_place = subst (λ (p : ℕ). MayStand head (end_of_numbers 0 (all_numbered records)) p (numbered found)) place
    (subst (λ (f : ℕ). MayStand head f c.len-place.result (numbered found)) c.loop-gate.invariant.from stands) in
    let next : gate + 1 + c.in-Some.size ≡ gate + (1 + c.in-Some.size) = omega arith in
    record {
      read = subst (λ (rs : List NumberedEntry). AreReadSo head rs (gate + (1 + c.in-Some.size)) bytes) (sym all)
          (subst (λ (g : ℕ). AreReadSo head (all_numbered records ++ numbered found ∷ []) g bytes) next
          (read_more head (all_numbered records) (numbered found) gate c.in-Some.size bytes c.loop-gate.invariant.read c.loop-gate-test.true read in_place));
      from = ap (λ (n : ℕ). n + 1) c.from-from.ensures
          ∙ sym (ap (end_of_numbers 0) all ∙ end_push 0 (all_numbered records) (numbered found));
    }

pub returns-in-None-clause-refused : goal.returns-in-None-clause-refused
returns-in-None-clause-refused c =
    let records = c.loop-gate.records.items in
    let bytes = c.args.bytes.now in
    let head = c.args.head.now in
    let gate = c.loop-gate.gate in
    let place : c.len-place.result ≡ length (all_numbered records) =
    omega (arith, c.len-place.ensures, c.loop-gate.records.ok, length-map records numbered) in
    let nothing = rw c.in-None.is at c.in_ok-found.ensures.none in
    let here = subst (λ (xs : List ℕ). NoneStands head c.loop-gate.from c.len-place.result xs) (take_rest bytes (gate + 1)) nothing in
    let from_here = subst (λ (f : ℕ). NoneStands head f c.len-place.result (drop (gate + 1) bytes)) c.loop-gate.invariant.from here in
    slot_damaged (record {
      records = all_numbered records;
      gate = gate;
      before = c.loop-gate.invariant.read;
      counted = sym place;
      lacks = broken c.loop-gate-test.true
          (subst (λ (p : ℕ). NoneStands head (end_of_numbers 0 (all_numbered records)) p (drop (gate + 1) bytes)) place from_here);
    })
