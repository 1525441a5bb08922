use Rattle.std.proofs.Common.{ap}
use Rattle.std.specs.Prelude.{Ok}
use Rattle.ide_slot_store.proofs.Worked.{seals_rest}
use Rattle.ide_slot_store.proofs.engine.SlotEngine.work_batch.Goals as goal

pub returns-clause-batch : goal.returns-clause-batch
returns-clause-batch g c = record {
  worked = c.fill_batch.new.table;
  fills = c.in_ok-is_quiet.ensures;
  stores = record {
    kept = c.seal.new.self;
    seals = seals_rest _ c.fill_batch.new.table c.seal.new.self c.in_ok-seal.field-0 (λ is. c.in_ok-seal.ensures.nothing (ap (λ s. Ok s) is)) c.in_ok-seal.ensures.seals;
    stores = c.in_ok-store_all.ensures.stored;
  };
}
