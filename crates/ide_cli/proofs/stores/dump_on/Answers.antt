use Rattle.std.proofs.lemmas.Result.{IfOk-weaker}
use Rattle.ide_cli.proofs.stores.dump_on.Goals as goal

pub returns-clause-written : goal.returns-clause-written
returns-clause-written g c = IfOk-weaker c.dump_of.result _ _ (λ end writes. (c.in_ok-store.store, writes)) c.dump_of.ensures.written
