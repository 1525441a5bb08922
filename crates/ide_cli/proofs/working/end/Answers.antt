use Rattle.std.proofs.lemmas.Result.{on_ok_weaker}
use Rattle.ide_cli.proofs.working.end.Goals as goal

pub returns-in-Ok : goal.returns-in-Ok
returns-in-Ok g c = on_ok_weaker c.end_work.result (λ ends. (c.end_work.new.engine, ends)) c.end_work.ensures
