use Rattle.std.specs.Prelude.{List, map}
use Rattle.std.specs.List.Sorted.{IsStrictlySortedBy}
use Rattle.std.proofs.Common.{arith, rules, subst, sym}
use Rattle.ide_wire.specs.KeyOrder.{key_cmp}
use Rattle.std.proofs.lemmas.Grind.{common_steps}
use Rattle.ide_batch.specs.Items.{functions_by, Item}
use Rattle.ide_batch.proofs.ListBody.{no_count, no_list, no_more, none_mixed, list_body}
use Rattle.ide_batch.proofs.items.read_items.Goals as goal

pub returns-in_default-clause-none : goal.returns-in_default-clause-none
returns-in_default-clause-none g c =
    no_count (functions_by g.F.Wire.proper g.F.Wire.form g.F.PartialEq.eq g.F.EdgeFn.edge.all_top) g.met.F.Wire.prefix_free
    c.args.body.now c.in_default.ensures.none

pub returns-in_default-2-clause-none : goal.returns-in_default-2-clause-none
returns-in_default-2-clause-none g c =
    no_list (functions_by g.F.Wire.proper g.F.Wire.form g.F.PartialEq.eq g.F.EdgeFn.edge.all_top) g.met.F.Wire.prefix_free
    c.args.body.now c.in-Some.rest.now c.in-Some.count c.in-Some.ensures.proper c.in-Some.ensures.found (search rules)

pub returns-clause-items : goal.returns-clause-items
returns-clause-items g c =
    list_body (functions_by g.F.Wire.proper g.F.Wire.form g.F.PartialEq.eq g.F.EdgeFn.edge.all_top) g.met.F.Wire.prefix_free
    c.args.body.now c.in-Some.rest.now c.in-Some-2.rest.now c.in-Some.count c.in-Some-2.items.items c.in-Some.ensures.found
    (search rules) (search rules) (search rules) (grind (arith, common_steps)) (omega arith) (grind (arith, common_steps))
    (subst (λ (xs : List (Item g.row.F.Denot)). IsStrictlySortedBy key_cmp (map (λ item. item.0) xs)) c.as_slice.ensures.value (c.are_ascending.ensures.0 (grind (arith, common_steps))))

pub returns-then-not-is_empty-clause-none : goal.returns-then-not-is_empty-clause-none
returns-then-not-is_empty-clause-none g c =
    no_more (functions_by g.F.Wire.proper g.F.Wire.form g.F.PartialEq.eq g.F.EdgeFn.edge.all_top) g.met.F.Wire.prefix_free
    c.args.body.now c.in-Some.rest.now c.in-Some-2.rest.now c.in-Some.count c.in-Some-2.items.items c.in-Some.ensures.proper c.in-Some.ensures.found
    (search rules) (search rules) (search rules) (λ empty. grind (arith, common_steps, empty))

pub returns-then-not-are_ascending-clause-none : goal.returns-then-not-are_ascending-clause-none
returns-then-not-are_ascending-clause-none g c =
    none_mixed (functions_by g.F.Wire.proper g.F.Wire.form g.F.PartialEq.eq g.F.EdgeFn.edge.all_top) g.met.F.Wire.prefix_free
    c.args.body.now c.in-Some.rest.now c.in-Some-2.rest.now c.in-Some.count c.in-Some-2.items.items c.in-Some.ensures.proper c.in-Some.ensures.found
    (search rules) (search rules) (search rules)
    (λ sorted. let yes = c.are_ascending.ensures.1 (subst (λ (xs : List (Item g.row.F.Denot)). IsStrictlySortedBy key_cmp (map (λ item. item.0) xs)) (sym c.as_slice.ensures.value) sorted) in
    grind (arith, common_steps, yes))
