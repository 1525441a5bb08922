use Rattle.std.proofs.Common.{arith, refl}
use Rattle.ide_store.proofs.Waiting.{found_is}
use Rattle.ide_slot_store.proofs.Half.{none_writes, put_writes, within_limit}
use Rattle.ide_slot_store.specs.Half.{limit}
use Rattle.ide_slot_store.proofs.writer.SlotWriterHalf.begin_next.Goals as goal

pub returns-then-count-ge-MOST_RECORDS-clause-refused :
    goal.returns-then-count-ge-MOST_RECORDS-clause-refused
returns-then-count-ge-MOST_RECORDS-clause-refused g c = limit (λ slot other records stored writes.
    let old = c.args.self.now in
    let found = found_is old.waiting.items c.in-Some.next.now c.in-Some.ensures.item.0 c.in-Some.ensures.item.1 in
    let less = within_limit old slot other records stored writes c.in-Some.next.now found in
    let most = c.if-count-ge-MOST_RECORDS.true in
    let count = c.count.ensures in
    absurd (omega (arith, less, most, count)))

pub returns-in-Ok-clause-writes : goal.returns-in-Ok-clause-writes
returns-in-Ok-clause-writes g c =
    let old = c.args.self.now in
    let found = found_is old.waiting.items c.in-Some.next.now c.in-Some.ensures.item.0 c.in-Some.ensures.item.1 in
    put_writes old _ c.in-Some.next.now refl c.reserve.ensures.items (c.if-not-is_idle.ensures.0 refl) c.requires found c.in-Ok.ensures.next c.in-Ok.ensures.other.filler

pub returns-in-Err-clause-writes : goal.returns-in-Err-clause-writes
returns-in-Err-clause-writes g c = none_writes c.args.self.now _ refl c.reserve.ensures.items (c.if-not-is_idle.ensures.0 refl) c.in-Err.ensures.none c.in-Err.ensures.other.filler
