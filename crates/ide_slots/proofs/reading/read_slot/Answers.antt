use Rattle.std.proofs.Common.{◌≡◌, length, arith, sym}
use Rattle.std.proofs.lemmas.List.{length-map}
use Rattle.ide_slots.specs.Records.{all_numbered, missing, numbered}
use Rattle.ide_slots.specs.Refusals.{slot_damaged}
use Rattle.ide_slots.proofs.Loaded.{front_read, held_read, make_slot}
use Rattle.ide_slots.proofs.reading.read_slot.Goals as goal

pub returns-then-count-checkpoint_len-clause-refused : goal.returns-then-count-checkpoint_len-clause-refused
returns-then-count-checkpoint_len-clause-refused c =
    let records = c.in_ok-records.records.items in
    let count : c.len-count.result ≡ length (all_numbered records) =
    omega (arith, c.len-count.ensures, c.in_ok-records.records.ok, length-map records numbered) in
    slot_damaged (record {
      records = all_numbered records;
      gate = c.in_ok-records.gate;
      before = c.in_ok-records.ensures.read;
      counted = sym count;
      lacks = missing c.in_ok-records.ensures.closed (omega (arith, count));
    })

pub returns-clause-closed : goal.returns-clause-closed
returns-clause-closed c =
    let records = c.in_ok-records.records.items in
    let read = c.in_ok-records.ensures.read in
    let made = make_slot c.args.head (all_numbered records) c.requires.told.valid read.places
    (omega (arith, c.len-count.ensures, c.in_ok-records.records.ok, length-map records numbered)) in
    record {
      front = front_read c.args.head (all_numbered records) c.in_ok-records.gate c.args.bytes.now c.requires.told read made;
      inside = read.inside;
      gate = c.in_ok-records.ensures.closed;
    }

pub returns-clause-held : goal.returns-clause-held
returns-clause-held c =
    let records = c.in_ok-records.records.items in
    let read = c.in_ok-records.ensures.read in
    let made = make_slot c.args.head (all_numbered records) c.requires.told.valid read.places
    (omega (arith, c.len-count.ensures, c.in_ok-records.records.ok, length-map records numbered)) in
    held_read c.args.head (all_numbered records) c.in_ok-records.gate c.args.bytes.now
    (front_read c.args.head (all_numbered records) c.in_ok-records.gate c.args.bytes.now c.requires.told read made)
    read.inside c.in_ok-records.ensures.closed

pub returns-clause-records : goal.returns-clause-records
returns-clause-records c =
    let records = c.in_ok-records.records.items in
    let made = make_slot c.args.head (all_numbered records) c.requires.told.valid c.in_ok-records.ensures.read.places
    (omega (arith, c.len-count.ensures, c.in_ok-records.records.ok, length-map records numbered)) in
    record { told = made.head; records = made.all }
