use Rattle.std.proofs.Common.{◌≡◌, ℕ, ◌+◌, ◌-◌, ◌∷◌, [], ◌++◌, ◌∙◌, map, ap, arith, sym}
use Rattle.std.proofs.lemmas.List.{append_assoc}
use Rattle.std.proofs.lemmas.List.FromFn.{map-range_with_len_more}
use Rattle.std.specs.List.{range_with_len}
use Rattle.ide_bench.specs.Dear.{with_identity}
use Rattle.ide_bench.proofs.dear.add_spread.Goals as goal

pub loop-fact-preserved : goal.loop-fact-preserved
loop-fact-preserved c =
    let inv = c.loop-fact.invariant in
    let first : ℕ = c.args.first in
    let fact : ℕ = c.loop-fact.fact in
    let old = c.args.targets.now.list.items in
    let count : fact + 1 - first ≡ fact - first + 1 = omega (arith, inv.0) in (
      omega (arith, inv.0),
      omega (arith, inv.0, inv.1, c.loop-fact-test.true),
      c.in_ok-add.ensures.ok
          ∙ ap (λ xs. xs ++ with_identity fact ∷ []) inv.2
          ∙ append_assoc old (map with_identity (range_with_len first (fact - first))) (with_identity fact ∷ [])
          ∙ ap (λ xs. old ++ xs) (sym (map-range_with_len_more with_identity first (fact - first) fact (omega (arith, inv.0))))
          ∙ ap (λ n. old ++ map with_identity (range_with_len first n)) (sym count),
    )
