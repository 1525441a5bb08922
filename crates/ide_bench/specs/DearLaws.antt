-- The flow of the analysis is lawful.
use Rattle.std.specs.Prelude.{◌≡◌, ℕ, zero, suc, ◌+◌, ◌-◌, ◌<◌, ◌≤◌, [], map, min}
use Rattle.std.specs.List.{range_with_len}
use Rattle.std.proofs.Common.{refl, ap, arith}
use Rattle.ide_graph.specs.declared.edge.EdgeData.{EdgeData}
use Rattle.ide_graph.specs.Lawful.{IsEdge}
use Rattle.ide_instances.specs.ConstFn.{const_edge}
use Rattle.ide_instances.specs.declared.const_fn.ConstFn.TheVariants.{Shift}
use Rattle.ide_problem.specs.Flow.{AreTargets, IsFlow, function_to}
use Rattle.ide_problem.specs.SharedLaws.{are_lower, are_range}
use Rattle.ide_bench.specs.Dear.{spread_end, spread_targets, with_identity}

spread-in-order : (edge : EdgeData) (fact : ℕ) → AreTargets const_edge.proper 0 edge.facts (spread_targets edge fact)
spread-in-order edge fact =
    are_lower const_edge.proper 0 fact edge.facts (spread_targets edge fact) (omega arith)
    (are_range const_edge.proper (Shift 0) refl fact (spread_end edge.facts fact - fact) edge.facts (λ some. omega (arith, some)))

none : (edge : EdgeData) (fact : ℕ) → edge.facts ≤ fact → spread_targets edge fact ≡ []
none edge fact past =
    let nothing : spread_end edge.facts fact - fact ≡ 0 = omega (arith, past) in
    ap (λ n. map with_identity (range_with_len fact n)) nothing

-- `@zero` goes to itself first, where there are facts
itself : (count : ℕ) → 0 < count → function_to const_edge 0 (map with_identity (range_with_len 0 count)) ≡ const_edge.id
itself zero some = absurd (omega (arith, some))
itself (suc n) some = refl

pub spread_flow : IsFlow const_edge spread_targets
spread_flow = record {
  in_order = λ edge fact lawful. spread-in-order edge fact;
  none_outside = λ edge fact lawful past. none edge fact past;
  zero = λ edge lawful. itself (spread_end edge.facts 0 - 0) (omega (arith, lawful.result, lawful.facts));
}
