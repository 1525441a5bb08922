use Rattle.ide_tasks.proofs.SameSite.{sites_told}
use Rattle.ide_tasks.proofs.task.is_same_site.Goals as goal

pub returns : goal.returns
returns c = sites_told c.eq.result c.args.one.now c.args.other.now c.eq.ensures
