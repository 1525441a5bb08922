use Rattle.std.proofs.Common.{arith, rules}
use Rattle.std.proofs.lemmas.Grind.{common_steps}
use Rattle.ide_batch.specs.Items.{functions_by}
use Rattle.ide_batch.proofs.GroupsRead.{no_group_count, nothing, no_groups, grouped_body, nothing_behind}
use Rattle.ide_batch.proofs.groups.read_groups.Goals as goal

pub returns-in_default-clause-none : goal.returns-in_default-clause-none
returns-in_default-clause-none g c =
    no_group_count (functions_by g.F.Wire.proper g.F.Wire.form g.F.PartialEq.eq g.F.EdgeFn.edge.all_top) c.args.body.now c.in_default.ensures.none

pub returns-then-count-eq0-clause-none : goal.returns-then-count-eq0-clause-none
returns-then-count-eq0-clause-none g c =
    nothing (functions_by g.F.Wire.proper g.F.Wire.form g.F.PartialEq.eq g.F.EdgeFn.edge.all_top) c.args.body.now c.in-Some.rest.now c.in-Some.count
    c.in-Some.ensures.proper c.in-Some.ensures.found (omega arith)

pub returns-in_default-2-clause-none : goal.returns-in_default-2-clause-none
returns-in_default-2-clause-none g c =
    no_groups (functions_by g.F.Wire.proper g.F.Wire.form g.F.PartialEq.eq g.F.EdgeFn.edge.all_top) c.args.body.now c.in-Some.rest.now c.in-Some.count
    c.in-Some.ensures.proper c.in-Some.ensures.found (search rules)

pub returns-then-not-is_empty-clause-none : goal.returns-then-not-is_empty-clause-none
returns-then-not-is_empty-clause-none g c =
    nothing_behind (functions_by g.F.Wire.proper g.F.Wire.form g.F.PartialEq.eq g.F.EdgeFn.edge.all_top) c.args.body.now c.in-Some.rest.now c.in-Some.count
    c.in-Some.ensures.proper c.in-Some.ensures.found g.met.F.Wire.prefix_free c.in-Some-2.items.items c.in-Some-2.behind.now (search rules)
    (λ empty. grind (arith, common_steps, empty))

pub returns-clause-items : goal.returns-clause-items
returns-clause-items g c =
    grouped_body (functions_by g.F.Wire.proper g.F.Wire.form g.F.PartialEq.eq g.F.EdgeFn.edge.all_top) c.args.body.now c.in-Some.rest.now c.in-Some.count
    c.in-Some.ensures.proper c.in-Some.ensures.found c.in-Some-2.items.items c.in-Some-2.behind.now (omega arith) (search rules) (grind (arith, common_steps))
