-- Sources of procedures, one procedure after the other.
use Rattle.std.proofs.Common.{◌≡◌, ℕ, zero, suc, ◌+◌, ◌-◌, ◌<◌, List, [], ◌∷◌, ◌++◌, length, get_or, take, drop, sym, subst, ap, ◌∙◌, arith}
use Rattle.std.specs.Prelude.{Some, slice_get, slice_index, slice_index_or}
use Rattle.std.proofs.Math.Seq.{take-length}
use Rattle.std.proofs.lemmas.List.{get_or_default, length-drop, length-append}
use Rattle.std.proofs.lemmas.Option.{get_or_from_slice_get}
use Rattle.ide_graph.specs.Exits.{HasFewCallers}
use Rattle.ide_graph.specs.Supergraph.{Supergraph}
use Rattle.ide_graph.specs.declared.site.Site.{Site}
use Rattle.ide_problem.specs.Flow.{Targets}
use Rattle.ide_tasks.specs.declared.sources.Source.{Source}
use Rattle.ide_tasks.specs.Sources.{reaching_of, sources_at}

-- a slice from an index on to the end
pub whole_rest : {X : Type 0} (xs : List X) (first : ℕ) → take (length xs - first) (drop first xs) ≡ drop first xs
whole_rest xs first = ap (λ (n : ℕ). take n (drop first xs)) (sym (length-drop first xs)) ∙ take-length (drop first xs)

-- one procedure more
pub each_more : {X : Type 0} (P : ℕ → X → Type 0) (xs : List X) (x : X) → ((k : ℕ) (d : X) → k < length xs → P k (get_or xs k d)) → P (length xs) x
    → (k : ℕ) (d : X) → k < length (xs ++ x ∷ []) → P k (get_or (xs ++ x ∷ []) k d)
each_more P [] x all is zero d h = is
each_more P [] x all is (suc k) d h = let none : ⊥ = omega (arith, h) in elim none [ ]
each_more P (y ∷ ys) x all is zero d h = all zero d (omega arith)
each_more P (y ∷ ys) x all is (suc k) d h = each_more (λ j. P (suc j)) ys x (λ j e g. all (suc j) e (omega (arith, g))) is k d (omega (arith, h))

module _ {F : Type 0} (targets : Targets F) (graph : Supergraph) where
  -- what reaches each fact is what the site of the exit has
  abbrev pub AreAtExit : ℕ → List (Source F) → Type 0
  AreAtExit procedure sources =
      (site : Site) → slice_get graph.sites (slice_index graph.exits procedure) ≡ Some site → HasFewCallers site
      → (fact : ℕ) → reaching_of fact sources ≡ reaching_of fact (sources_at targets graph.facts site)

  pub exits_more : (before all : List (List (Source F))) (sources : List (Source F)) (n : ℕ) → all ≡ before ++ sources ∷ [] → length before ≡ n
      → ((k : ℕ) → k < n → AreAtExit k (slice_index_or before k [])) → AreAtExit n sources → (k : ℕ) → k < n + 1 → AreAtExit k (slice_index_or all k [])
  exits_more before all sources n is many each one k within =
      let first : (j : ℕ) (d : List (Source F)) → j < length before → AreAtExit j (get_or before j d) =
      λ j d h. subst (AreAtExit j) (get_or_default before j [] d h) (each j (omega (arith, h, many))) in
      let last : AreAtExit (length before) sources = subst (λ (m : ℕ). AreAtExit m sources) (sym many) one in
      let so_many : k < length (before ++ sources ∷ []) = omega (arith, within, many, length-append before (sources ∷ [])) in
      subst (λ ps. AreAtExit k (slice_index_or ps k [])) (sym is) (each_more AreAtExit before sources first last k [] so_many)

  -- the site of the exit, as it was read
  pub exit_read : (procedure exit : ℕ) (read : Site) (sources : List (Source F)) → exit ≡ slice_index graph.exits procedure → read ≡ slice_index_or graph.sites exit read
      → (HasFewCallers read → (fact : ℕ) → reaching_of fact sources ≡ reaching_of fact (sources_at targets graph.facts read)) → AreAtExit procedure sources
  exit_read procedure exit read sources is there exact site stands few fact =
      let at : slice_get graph.sites exit ≡ Some site = ap (slice_get graph.sites) is ∙ stands in
      let same : read ≡ site = there ∙ get_or_from_slice_get graph.sites exit site read at in
      subst (λ s. HasFewCallers s → (fact : ℕ) → reaching_of fact sources ≡ reaching_of fact (sources_at targets graph.facts s)) same exact few fact

pub one_longer : {X : Type 0} (before all : List X) (x : X) (n : ℕ) → all ≡ before ++ x ∷ [] → length before ≡ n → length all ≡ n + 1
one_longer before all x n is many = omega (arith, ap length is, many, length-append before (x ∷ []))
