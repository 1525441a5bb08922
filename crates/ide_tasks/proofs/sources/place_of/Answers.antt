use Rattle.std.proofs.Common.{rules, ◌≤◌, length, nat_lt, ap, sym, ◌∙◌, arith}
use Rattle.std.proofs.lemmas.List.{get_or_default}
use Rattle.std.proofs.lemmas.List.Sorted.{IsPartitionedBy-ltb, IsPartitionPoint-from_clause}
use Rattle.ide_graph.specs.declared.site.Caller.{Caller}
use Rattle.ide_tasks.proofs.Runs.{none-there}
use Rattle.ide_tasks.proofs.sources.place_of.Goals as goal

-- the first caller that is not before the call is another
pub returns-in_default-clause-none : goal.returns-in_default-clause-none
returns-in_default-clause-none c = λ up.
    let xs = c.args.callers.now in
    let first = c.partition_point-place.result in
    let begin = IsPartitionPoint-from_clause (λ caller. nat_lt caller.call_node c.args.call) xs first c.partition_point-place.ensures.partitioned
    (IsPartitionedBy-ltb (λ caller. caller.call_node) xs c.args.call up) (λ a r q k. search rules) in
    let found = c.in-Some.ensures.lookup in
    none-there (λ (caller : Caller). caller.call_node) c.args.call xs first up begin.0 begin.1 (λ x within is same.
    c.if-caller-call.false (ap (λ (caller : Caller). caller.call_node) (found.1 ∙ (get_or_default xs first c.in-Some.caller.now x within ∙ sym is)) ∙ same))

-- each caller is before the call
pub returns-in_default-2-clause-none : goal.returns-in_default-2-clause-none
returns-in_default-2-clause-none c = λ up.
    let xs = c.args.callers.now in
    let first = c.partition_point-place.result in
    let begin = IsPartitionPoint-from_clause (λ caller. nat_lt caller.call_node c.args.call) xs first c.partition_point-place.ensures.partitioned
    (IsPartitionedBy-ltb (λ caller. caller.call_node) xs c.args.call up) (λ a r q k. search rules) in
    let past : length xs ≤ first = search rules in
    none-there (λ (caller : Caller). caller.call_node) c.args.call xs first up begin.0 begin.1 (λ x within is same. omega (arith, past, within))
