use Rattle.std.proofs.Common.{refl}
use Rattle.ide_store.proofs.Waiting.{pushed_items}
use Rattle.ide_slot_store.proofs.Half.{seal_writes}
use Rattle.ide_slot_store.proofs.writer.SlotWriterHalf.seal.Goals as goal

pub returns-clause-sealed : goal.returns-clause-sealed
returns-clause-sealed g c slot other records stored room writes =
    let old = c.args.self.now in
    let items = pushed_items c.push_back.new.self.items old.waiting.items c.args.raw _ c.push_back.ensures.items c.if-is_err.ensures.negation in
    seal_writes old _ c.args.raw slot other records stored refl refl items c.requires room writes
