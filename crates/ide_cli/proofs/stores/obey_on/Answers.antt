use Rattle.std.proofs.lemmas.Result.{on_ok_weaker}
use Rattle.ide_cli.proofs.stores.obey_on.Goals as goal

pub returns-in-Work : goal.returns-in-Work
returns-in-Work g c = rw c.in-Work.is (on_ok_weaker c.work.result (λ either. either c.in-Work.quiet) c.work.ensures)

pub returns : goal.returns
returns g c = on_ok_weaker c.call_on.result (λ obeyed. (c.in_ok-opened.opened, c.args.text.now, obeyed)) c.call_on.ensures
