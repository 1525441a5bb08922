use Rattle.std.proofs.Common.{arith, rules, subst, sym}
use Rattle.std.specs.Prelude.{List}
use Rattle.ide_batch.specs.Items.{functions_by, Item}
use Rattle.ide_batch.proofs.GroupsRead.{ReadSoFar, groups_none, groups-push, no_more_groups}
use Rattle.ide_batch.proofs.groups.groups_in_front.Goals as goal

pub loop-taken-init : goal.loop-taken-init
loop-taken-init g c =
    subst (λ (xs : List (Item g.row.F.Denot)). ReadSoFar (functions_by g.F.Wire.proper g.F.Wire.form g.F.PartialEq.eq g.F.EdgeFn.edge.all_top) 0 _ xs c.args.bytes.now c.args.bytes.now)
    (sym c.in_ok-items.ensures.items)
    (groups_none (functions_by g.F.Wire.proper g.F.Wire.form g.F.PartialEq.eq g.F.EdgeFn.edge.all_top) c.args.bytes.now)

pub returns-in_default-clause-none : goal.returns-in_default-clause-none
returns-in_default-clause-none g c =
    no_more_groups (functions_by g.F.Wire.proper g.F.Wire.form g.F.PartialEq.eq g.F.EdgeFn.edge.all_top) g.met.F.Wire.prefix_free
    c.loop-taken._taken c.args.count c.loop-taken.before c.loop-taken.items.items c.args.bytes.now c.loop-taken.rest.now
    (omega arith) c.loop-taken.invariant (search rules)

pub loop-taken-preserved : goal.loop-taken-preserved
loop-taken-preserved g c =
    groups-push (functions_by g.F.Wire.proper g.F.Wire.form g.F.PartialEq.eq g.F.EdgeFn.edge.all_top)
    c.loop-taken._taken c.loop-taken.before c.in-Some.place c.loop-taken.items.items c.group_in_front.new.items.items
    c.args.bytes.now c.loop-taken.rest.now c.in-Some.behind.now c.loop-taken.invariant (search rules)
