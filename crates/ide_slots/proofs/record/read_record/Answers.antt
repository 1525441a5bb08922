use Rattle.std.proofs.Common.{◌≡◌, ℕ, List, ◌+◌, slice_index, slice_range, rules, sym, subst, ◌∙◌}
use Rattle.ide_journal.specs.Format.{padding}
use Rattle.ide_slots.specs.Records.{IsReadRecord, MayStand}
use Rattle.ide_slots.specs.Slot.{NumberedEntry}
use Rattle.ide_slots.proofs.Frames.{frame_is}
use Rattle.ide_slots.proofs.Records.{same_record}
use Rattle.ide_slots.proofs.record.read_record.Goals as goal

pub returns-then-not-may_stand-clause-none : goal.returns-then-not-may_stand-clause-none
returns-then-not-may_stand-clause-none c r size read stands =
    let bytes = c.args.bytes.now in
    let count = c.in-Some.count in
    let kind = slice_index bytes 0 in
    let own : NumberedEntry = (c.in-Some.number, (kind, c.in_ok-body.body.items)) in
    let body : c.in_ok-body.body.items ≡ slice_range bytes 13 (13 + count) = search rules in
    let found = subst (λ (b : List ℕ). IsReadRecord (c.in-Some.number, (kind, b)) (13 + count + padding count) bytes) (sym body)
    (frame_is c.in-Some.number count bytes c.in-Some.ensures.whole) in
    let same = same_record r own _ _ (record { low = read.low; short = read.short }) (record { low = found.low; short = found.short })
    (sym read.split ∙ found.split) in
    let told = c.may_stand.ensures.1 (subst (λ (x : NumberedEntry). MayStand c.args.head.now c.args.from c.args.place x) same.0 stands) in
    cc

pub returns-clause-whole : goal.returns-clause-whole
returns-clause-whole c =
    let bytes = c.args.bytes.now in
    let count = c.in-Some.count in
    let kind = slice_index bytes 0 in
    let body : c.in_ok-body.body.items ≡ slice_range bytes 13 (13 + count) = search rules in
    let read = frame_is c.in-Some.number count bytes c.in-Some.ensures.whole in
    subst (λ (n : ℕ). IsReadRecord (c.in-Some.number, (kind, c.in_ok-body.body.items)) (13 + count + n) bytes) (sym c.padding.ensures.value)
    (subst (λ (b : List ℕ). IsReadRecord (c.in-Some.number, (kind, b)) (13 + count + padding count) bytes) (sym body) read)
