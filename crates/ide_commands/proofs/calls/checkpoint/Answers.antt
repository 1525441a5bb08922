use Rattle.ide_commands.proofs.calls.checkpoint.Goals as goal

pub returns : goal.returns
returns g c = record {
  begun = c.in_ok-checkpoint.field-0;
  asked = c.checkpoint.new.self;
  asks = c.in_ok-checkpoint.ensures.asks;
  stores = c.in_ok-store_all.ensures.stored;
  rests = c.in_ok-store_all.ensures.rests;
}
