use Rattle.std.proofs.Common.{rules}
use Rattle.ide_values.specs.Closed.{FollowFrom}
use Rattle.ide_values.proofs.values.values_from.Goals as goal

pub returns-clause-best : goal.returns-clause-best
returns-clause-best g c =
    let follow : FollowFrom g.P.L.Lattice.algebra g.P.F.EdgeFn.edge g.P.Problem.targets c.in_ok-try_clone.field-0.value.graph c.args.closed.now.tables.table c.in_ok-to_vec.field-0.items c.args.rows.items = search rules in
    c.following_values_are_best.ensures c.in_ok-try_clone.field-0.value.graph c.in_ok-to_vec.field-0.items c.args.closed.now.tables.table c.args.rows.items follow
