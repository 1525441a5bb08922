use Rattle.std.proofs.Common.{◌≡◌, ℕ, List, [], ◌∷◌, ◌++◌, ◌+◌, length, map, drop, arith, rules, sym, ap, subst, ◌∙◌}
use Rattle.std.proofs.lemmas.List.{map_push, length-map, take_rest}
use Rattle.ide_journal.specs.Format.{Entry}
use Rattle.ide_journal.specs.Lists.{entry_of}
use Rattle.ide_journal.specs.Reading.{AreRead, IsDamaged, IsRead}
use Rattle.ide_journal.specs.Refusals.{record_damaged}
use Rattle.ide_journal.proofs.Whole.{read_more}
use Rattle.ide_journal.proofs.reading.read_records.Goals as goal

pub loop-gate-preserved : goal.loop-gate-preserved
loop-gate-preserved c =
    let records = c.loop-gate.records.items in
    let pushed : c.push.new.self.items ≡ records ++ c.in-Some.raw ∷ [] = search rules in
    let bytes = c.args.bytes.now in
    let gate = c.loop-gate.gate in
    let raw = c.in-Some.raw in
    let number : c.len-number.result ≡ length (map entry_of records) = omega (arith, c.len-number.ensures, c.loop-gate.records.ok, length-map records entry_of) in
    let read = rw c.in-Some.is at c.in_ok-raw.ensures.whole in
    let behind = subst (λ (xs : List ℕ). IsRead c.len-number.result (entry_of raw) c.in-Some.size xs) (take_rest bytes (gate + 1)) read in
    let numbered = subst (λ (n : ℕ). IsRead n (entry_of raw) c.in-Some.size (drop (gate + 1) bytes)) number behind in
    let entries : map entry_of c.push.new.self.items ≡ map entry_of records ++ entry_of raw ∷ [] = ap (map entry_of) pushed ∙ map_push entry_of records raw in
    let next : gate + 1 + c.in-Some.size ≡ gate + (1 + c.in-Some.size) = omega arith in
    subst (λ (es : List Entry). AreRead es (gate + (1 + c.in-Some.size)) bytes) (sym entries)
    (subst (λ (g : ℕ). AreRead (map entry_of records ++ entry_of raw ∷ []) g bytes) next
    (read_more (map entry_of records) (entry_of raw) gate c.in-Some.size bytes c.loop-gate.invariant c.loop-gate-test.true numbered))

pub returns-in-None-clause-refused : goal.returns-in-None-clause-refused
returns-in-None-clause-refused c =
    let records = c.loop-gate.records.items in
    let bytes = c.args.bytes.now in
    let gate = c.loop-gate.gate in
    let number : length (map entry_of records) ≡ c.len-number.result = omega (arith, c.len-number.ensures, c.loop-gate.records.ok, length-map records entry_of) in
    let damaged = rw c.in-None.is at c.in_ok-raw.ensures.damaged in
    record_damaged (record {
      entries = map entry_of records;
      gate = gate;
      before = c.loop-gate.invariant;
      counted = number;
      opened = c.loop-gate-test.true;
      damaged = subst (λ (xs : List ℕ). IsDamaged c.len-number.result xs) (take_rest bytes (gate + 1)) damaged;
    })
