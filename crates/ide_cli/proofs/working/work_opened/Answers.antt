use Rattle.std.proofs.Common.{[]}
use Rattle.std.proofs.lemmas.Result.{on_ok_weaker}
use Rattle.ide_commands.specs.declared.stores.Store.TheVariants.{Uninit, Copy, Shift}
use Rattle.ide_cli.proofs.working.work_opened.Goals as goal

pub returns-in-Uninit : goal.returns-in-Uninit
returns-in-Uninit g c = on_ok_weaker c.end-in-Uninit.result (λ ends quiet. (Uninit c.into_engine.result, [], ends)) c.end-in-Uninit.ensures

pub returns-in-Copy : goal.returns-in-Copy
returns-in-Copy g c = on_ok_weaker c.end-in-Copy-2.result (λ ends quiet. (Copy c.into_engine-in-Copy.result, [], ends)) c.end-in-Copy-2.ensures

pub returns-in-Shift : goal.returns-in-Shift
returns-in-Shift g c = on_ok_weaker c.end-in-Shift-2.result (λ ends quiet. (Shift c.into_engine-in-Shift.result, [], ends)) c.end-in-Shift-2.ensures
