use Rattle.std.proofs.Common.{refl}
use Rattle.ide_slot_store.proofs.Half.{filled}
use Rattle.ide_slot_store.proofs.Kept.{room_stays, stage_stays}
use Rattle.ide_slot_store.proofs.writer.SlotWriterHalf.fill.Goals as goal

pub returns-in-Ok-clause-calls : goal.returns-in-Ok-clause-calls
returns-in-Ok-clause-calls g c honest = filled c.args.self.now _ _ refl refl c.requires (c.in-Ok.ensures.steps honest)

pub returns-in-Err-clause-calls : goal.returns-in-Err-clause-calls
returns-in-Err-clause-calls g c honest = filled c.args.self.now _ _ refl refl c.requires (c.in-Err.ensures.steps honest)

pub invariant_of-self-clause-room : goal.invariant_of-self-clause-room
invariant_of-self-clause-room g c =
    let old = c.args.self.now in
    let call = c.advance_checkpoint in
    room_stays old.journal call.new.self _ old.commands call.ensures.next.count
    (stage_stays old.journal call.new.self call.result call.ensures.moves call.ensures.refused call.ensures.same) old.room
