use Rattle.ide_slot_store.proofs.Half.{made}
use Rattle.ide_slot_store.proofs.writer.SlotWriterHalf.create.Goals as goal

pub returns-in-Ok-clause-made : goal.returns-in-Ok-clause-made
returns-in-Ok-clause-made g c first second =
    made c.args.tag _ (c.in-Ok.ensures.stands first second) c.in-Ok.ensures.rests c.new.ensures.items c.new-in-Ok.ensures.items
