use Rattle.ide_slot_store.proofs.Half.{proper_raws, raws_proper}
use Rattle.ide_slot_store.proofs.Kept.{room_over_all}
use Rattle.ide_slot_store.proofs.writer.SlotWriterHalf.take_all_from.Goals as goal

pub hand_over_all-requires : goal.hand_over_all-requires
hand_over_all-requires g c = proper_raws c.args.self.now.waiting.items c.args.self.now.proper

pub invariant_of-self : goal.invariant_of-self
invariant_of-self g c = record {
  proper = raws_proper c.hand_over_all.new.queue.items c.hand_over_all.ensures.proper;
  room = room_over_all c.hand_over_all.result _ _ c.args.self.now.journal c.args.self.now.waiting.items c.hand_over_all.new.queue.items
      c.args.self.now.commands c.hand_over_all.ensures.hands c.hand_over_all.ensures.queue c.args.self.now.room;
}
