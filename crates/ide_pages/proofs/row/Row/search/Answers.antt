use Rattle.std.proofs.Common.{rules, nat_lt}
use Rattle.std.proofs.lemmas.List.Sorted.{IsPartitionedBy-ltb, IsPartitionPoint-from_clause}
use Rattle.ide_pages.proofs.RowLemmas.{place-parted, rising}
use Rattle.ide_pages.proofs.row.Row.search.Goals as goal

pub returns : goal.returns
returns c =
    let row = c.deref.result.now in
    let place = c.partition_point.result in
    let point = IsPartitionPoint-from_clause (λ listed. nat_lt listed.0 c.args.fact) row place c.partition_point.ensures.partitioned
    (IsPartitionedBy-ltb (λ listed. listed.0) row c.args.fact (rw c.deref.ensures.value (rising c.self.inside.pages.items c.self.invariant)))
    (λ a r q k. search rules) in
    rw (← c.self.view_is, ← c.deref.ensures.value)
    (place-parted c.args.fact row place c.partition_point.ensures.bound point.0 point.1)
