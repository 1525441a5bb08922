use Rattle.std.specs.Prelude.{◌≤◌, ◌+◌, length}
use Rattle.std.proofs.Common.{arith, rules}
use Rattle.std.proofs.lemmas.Grind.{common_steps}
use Rattle.ide_batch.specs.Items.{functions_by}
use Rattle.ide_batch.proofs.GroupsRead.{no_header, not_above, no_count, too_many, no_members, group_read}
use Rattle.ide_batch.proofs.groups.group_in_front.Goals as goal

pub returns-in_default-clause-none : goal.returns-in_default-clause-none
returns-in_default-clause-none g c =
    no_header (functions_by g.F.Wire.proper g.F.Wire.form g.F.PartialEq.eq g.F.EdgeFn.edge.all_top) c.args.before (length c.args.items.now.items)
    c.args.bytes.now c.in_default.ensures.none

pub returns-then-not-is_above-clause-none : goal.returns-then-not-is_above-clause-none
returns-then-not-is_above-clause-none g c =
    not_above (functions_by g.F.Wire.proper g.F.Wire.form g.F.PartialEq.eq g.F.EdgeFn.edge.all_top) c.args.before c.in-Some.place c.in-Some.members
    c.args.bytes.now c.in-Some.rest.now c.in-Some.ensures.proper c.in-Some.ensures.found (length c.args.items.now.items)
    (λ above. let yes = c.is_above.ensures.1 above in grind (arith, common_steps, yes))

pub returns-then-members-eq0-clause-none : goal.returns-then-members-eq0-clause-none
returns-then-members-eq0-clause-none g c =
    no_count (functions_by g.F.Wire.proper g.F.Wire.form g.F.PartialEq.eq g.F.EdgeFn.edge.all_top) c.args.before c.in-Some.place c.in-Some.members
    c.args.bytes.now c.in-Some.rest.now c.in-Some.ensures.proper c.in-Some.ensures.found (length c.args.items.now.items) (omega arith)

pub returns-then-members-len-clause-none : goal.returns-then-members-len-clause-none
returns-then-members-len-clause-none g c =
    too_many (functions_by g.F.Wire.proper g.F.Wire.form g.F.PartialEq.eq g.F.EdgeFn.edge.all_top) c.args.before c.in-Some.place c.in-Some.members
    c.args.bytes.now c.in-Some.rest.now c.in-Some.ensures.proper c.in-Some.ensures.found (length c.args.items.now.items) (grind (arith, common_steps))

pub returns-in_default-2-clause-none : goal.returns-in_default-2-clause-none
returns-in_default-2-clause-none g c =
    no_members (functions_by g.F.Wire.proper g.F.Wire.form g.F.PartialEq.eq g.F.EdgeFn.edge.all_top) c.args.before c.in-Some.place c.in-Some.members
    c.args.bytes.now c.in-Some.rest.now c.in-Some.ensures.proper c.in-Some.ensures.found (length c.args.items.now.items) (search rules)

pub returns-clause-read : goal.returns-clause-read
returns-clause-read g c =
    let few : length c.args.items.now.items + c.in-Some.members ≤ 65536 = grind (arith, common_steps) in
    group_read (functions_by g.F.Wire.proper g.F.Wire.form g.F.PartialEq.eq g.F.EdgeFn.edge.all_top) c.args.before c.in-Some.place c.in-Some.members
    c.args.bytes.now c.in-Some.rest.now c.in-Some.ensures.proper c.in-Some.ensures.found
    c.args.items.now.items c.members_in_front.new.items.items c.in-Some-2.behind.now (c.is_above.ensures.0 (grind (arith, common_steps))) (omega arith) few (search rules)
