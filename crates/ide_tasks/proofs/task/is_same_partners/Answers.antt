use Rattle.ide_tasks.proofs.Same.{partners_told}
use Rattle.ide_tasks.proofs.task.is_same_partners.Goals as goal

pub returns : goal.returns
returns g c =
    partners_told g.row.F g.F.Eq g.F.Eq-dict g.F.PartialEq g.F.PartialEq-dict g.met.F.EdgeFn.exact g.met.F.Eq.laws c.eq.result c.args.one.now c.args.other.now c.eq.ensures
