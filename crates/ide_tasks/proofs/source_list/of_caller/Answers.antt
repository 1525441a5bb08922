use Rattle.std.proofs.Common.{rules, ◌-◌, length, take, drop, nat_lt}
use Rattle.std.specs.Prelude.{nat_le}
use Rattle.std.specs.List.Sorted.{IsNonDecreasingBy}
use Rattle.std.proofs.lemmas.List.Sorted.{IsNonDecreasingBy-drop, IsNonDecreasingBy-take, IsPartitionedBy-leb, IsPartitionedBy-ltb, IsPartitionPoint-from_clause}
use Rattle.ide_tasks.proofs.Ascending.{whole_rest}
use Rattle.ide_tasks.proofs.Runs.{run-is}
use Rattle.ide_tasks.proofs.source_list.of_caller.Goals as goal

pub returns : goal.returns
returns g c = λ ascending.
    let xs = c.args.sources.now in
    let first = c.partition_point-first.result in
    let rest = take (length xs - first) (drop first xs) in
    let count = c.partition_point-count.result in
    let up : IsNonDecreasingBy (λ source. source.from.caller) rest =
    IsNonDecreasingBy-take (λ source. source.from.caller) (length xs - first) (drop first xs) (IsNonDecreasingBy-drop (λ source. source.from.caller) first xs ascending) in
    let begin = IsPartitionPoint-from_clause (λ source. nat_lt source.from.caller c.args.caller) xs first c.partition_point-first.ensures.partitioned
    (IsPartitionedBy-ltb (λ source. source.from.caller) xs c.args.caller ascending) (λ a r q k. search rules) in
    let end = IsPartitionPoint-from_clause (λ source. nat_le source.from.caller c.args.caller) rest count c.partition_point-count.ensures.partitioned
    (IsPartitionedBy-leb (λ source. source.from.caller) rest c.args.caller up) (λ a r q k. search rules) in
    run-is (λ source. source.from.caller) c.args.caller xs rest first count (whole_rest xs first) c.partition_point-first.ensures.bound begin.0 begin.1
    c.partition_point-count.ensures.bound end.0 end.1
