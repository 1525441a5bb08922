use Rattle.std.proofs.Common.{arith, rules}
use Rattle.std.proofs.lemmas.Grind.{common_steps}
use Rattle.ide_batch.specs.Items.{functions_by}
use Rattle.ide_batch.proofs.MembersRead.{members_none, members-push, no_more_members, no_member_above}
use Rattle.ide_batch.proofs.groups.members_in_front.Goals as goal

pub loop-taken-init : goal.loop-taken-init
loop-taken-init g c =
    members_none (functions_by g.F.Wire.proper g.F.Wire.form g.F.PartialEq.eq g.F.EdgeFn.edge.all_top) c.args.place c.args.items.now.items c.args.bytes.now

pub returns-in_default-clause-none : goal.returns-in_default-clause-none
returns-in_default-clause-none g c =
    no_more_members (functions_by g.F.Wire.proper g.F.Wire.form g.F.PartialEq.eq g.F.EdgeFn.edge.all_top) c.args.place g.met.F.Wire.prefix_free
    c.loop-taken._taken c.args.count c.loop-taken.before c.args.items.now.items c.loop-taken.items.items c.args.bytes.now c.loop-taken.rest.now
    (omega arith) c.loop-taken.invariant c.in_default.ensures.none

pub returns-then-not-is_above-clause-none : goal.returns-then-not-is_above-clause-none
returns-then-not-is_above-clause-none g c =
    no_member_above (functions_by g.F.Wire.proper g.F.Wire.form g.F.PartialEq.eq g.F.EdgeFn.edge.all_top) c.args.place g.met.F.Wire.prefix_free
    c.loop-taken._taken c.args.count c.loop-taken.before c.args.items.now.items c.loop-taken.items.items c.args.bytes.now c.loop-taken.rest.now
    c.in-Some.behind.now c.in-Some.member c.from.result c.from-in-loop-taken.result
    (omega arith) c.loop-taken.invariant c.in-Some.ensures.proper c.in-Some.ensures.found (search rules) (search rules)
    (λ above. let yes = c.is_above.ensures.1 above in grind (arith, common_steps, yes))

pub loop-taken-preserved : goal.loop-taken-preserved
loop-taken-preserved g c =
    members-push (functions_by g.F.Wire.proper g.F.Wire.form g.F.PartialEq.eq g.F.EdgeFn.edge.all_top) c.args.place
    c.loop-taken._taken c.from.result c.from-in-loop-taken.result c.loop-taken.before c.args.items.now.items c.loop-taken.items.items c.push.new.self.items
    c.args.bytes.now c.loop-taken.rest.now c.in-Some.behind.now c.in-Some.member c.key_at.result
    c.loop-taken.invariant c.in-Some.ensures.proper c.in-Some.ensures.found (search rules) (search rules)
    (c.is_above.ensures.0 (grind (arith, common_steps))) c.key_at.ensures (search rules)
