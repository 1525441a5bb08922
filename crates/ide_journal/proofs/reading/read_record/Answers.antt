use Rattle.std.proofs.Common.{◌≡◌, ℕ, List, ◌+◌, slice_index, slice_range, rules, sym, subst}
use Rattle.ide_journal.specs.Format.{padding}
use Rattle.ide_journal.specs.Reading.{IsRead}
use Rattle.ide_journal.proofs.Whole.{is_read}
use Rattle.ide_journal.proofs.reading.read_record.Goals as goal

pub returns-in_ok-body-in-Some-clause-whole : goal.returns-in_ok-body-in-Some-clause-whole
returns-in_ok-body-in-Some-clause-whole c =
    let bytes = c.args.bytes.now in
    let count = c.in-Some.count in
    let kind = slice_index bytes 0 in
    let body : c.in_ok-body-in-Some.body.items ≡ slice_range bytes 13 (13 + count) = search rules in
    let read = is_read c.args.number count bytes c.in-Some.ensures.whole in
    subst (λ (n : ℕ). IsRead c.args.number (kind, c.in_ok-body-in-Some.body.items) (13 + count + n) bytes) (sym c.padding.ensures.value)
    (subst (λ (b : List ℕ). IsRead c.args.number (kind, b) (13 + count + padding count) bytes) (sym body) read)
