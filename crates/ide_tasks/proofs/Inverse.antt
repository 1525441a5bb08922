-- The sources of one caller more.
use Rattle.std.proofs.Common.{◌≡◌, ℕ, ◌+◌, ◌<◌, List, [], ◌∷◌, ◌++◌, length, get_or, take, sym, ap, ◌∙◌, arith, append_assoc, append-nil}
use Rattle.std.proofs.lemmas.List.{take_more, length-take-le}
use Rattle.std.specs.Prelude.{nat_eq, not, ◌&&◌, map}
use Rattle.std.specs.Ordering.{nat_cmp, is_lt}
use Rattle.std.specs.List.Sorted.{IsStableByKey}
use Rattle.std.proofs.lemmas.List.Elements.{filter_agree}
use Rattle.std.proofs.lemmas.Bool.Decides.{nat_tests}
use Rattle.ide_problem.specs.Flow.{Targets}
use Rattle.ide_graph.specs.declared.site.Caller.{Caller}
use Rattle.ide_tasks.specs.declared.sources.Source.{Source}
use Rattle.ide_tasks.specs.Sources.{reaching_of, source_of, sources_over, sources_from}

module _ {F : Type 0} (targets : Targets F) (facts : ℕ) where
  pub sources_from-append : (index : ℕ) (callers : List Caller) (caller : Caller)
      → sources_from targets facts index (callers ++ caller ∷ []) ≡ sources_from targets facts index callers ++ sources_over targets facts (index + length callers) caller
  sources_from-append index [] caller =
      let same : index ≡ index + 0 = omega arith in
      append-nil (sources_over targets facts index caller) ∙ ap (λ (n : ℕ). sources_over targets facts n caller) same
  sources_from-append index (first ∷ callers) caller =
      let same : index + 1 + length callers ≡ index + length (first ∷ callers) = omega arith in
      ap (λ rest. sources_over targets facts index first ++ rest) (sources_from-append (index + 1) callers caller)
      ∙ sym (append_assoc (sources_over targets facts index first) (sources_from targets facts (index + 1) callers) (sources_over targets facts (index + 1 + length callers) caller))
      ∙ ap (λ (n : ℕ). (sources_over targets facts index first ++ sources_from targets facts (index + 1) callers) ++ sources_over targets facts n caller) same

  pub caller_more : (before after all : List (Source F)) (callers : List Caller) (index : ℕ) (caller : Caller)
      → index < length callers → caller ≡ get_or callers index caller
      → after ≡ before ++ sources_from targets facts 0 (take index callers) → all ≡ after ++ sources_over targets facts index caller
      → all ≡ before ++ sources_from targets facts 0 (take (index + 1) callers)
  caller_more before after all callers index caller within is so_far more =
      let so_many : index ≡ 0 + length (take index callers) = omega (arith, length-take-le index callers (omega arith)) in
      let one : take index callers ++ caller ∷ [] ≡ take (index + 1) callers =
      ap (λ c. take index callers ++ c ∷ []) is ∙ sym (take_more callers index caller within) in
      more
      ∙ ap (λ xs. xs ++ sources_over targets facts index caller) so_far
      ∙ append_assoc before (sources_from targets facts 0 (take index callers)) (sources_over targets facts index caller)
      ∙ ap (λ (n : ℕ). before ++ (sources_from targets facts 0 (take index callers) ++ sources_over targets facts n caller)) so_many
      ∙ ap (λ xs. before ++ xs) (sym (sources_from-append 0 (take index callers) caller))
      ∙ ap (λ cs. before ++ sources_from targets facts 0 cs) one

-- numbers that are not told apart by order are equal
pub tie : (fact reached : ℕ) → nat_eq reached fact ≡ (not (is_lt (nat_cmp fact reached)) && not (is_lt (nat_cmp reached fact)))
tie fact reached = grind (arith, nat_tests)

-- a stable sort by the fact reached keeps what reaches each fact, in its order
pub stable_reaching : {F : Type 0} (function : F) (xs ys : List (Source F)) → IsStableByKey (λ source. source.reached) nat_cmp xs ys
    → (fact : ℕ) → reaching_of fact ys ≡ reaching_of fact xs
stable_reaching function xs ys stable fact =
    ap (map (λ source. source.from))
    (filter_agree (λ source. nat_eq source.reached fact) _ (λ source. tie fact source.reached) ys
    ∙ stable (source_of 0 0 (fact, function))
    ∙ sym (filter_agree (λ source. nat_eq source.reached fact) _ (λ source. tie fact source.reached) xs))
