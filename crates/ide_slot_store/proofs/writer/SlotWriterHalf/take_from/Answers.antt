use Rattle.ide_slot_store.proofs.Half.{proper_raws, raws_proper}
use Rattle.ide_slot_store.proofs.Kept.{room_over}
use Rattle.ide_slot_store.proofs.writer.SlotWriterHalf.take_from.Goals as goal

pub hand_over-requires : goal.hand_over-requires
hand_over-requires g c = proper_raws c.args.self.now.waiting.items c.args.self.now.proper

pub invariant_of-self : goal.invariant_of-self
invariant_of-self g c = record {
  proper = raws_proper c.hand_over.new.queue.items c.hand_over.ensures.proper;
  room = room_over _ _ c.args.self.now.journal c.args.self.now.waiting.items c.hand_over.new.queue.items c.args.self.now.commands
      c.hand_over.ensures.hands c.args.self.now.room;
}
