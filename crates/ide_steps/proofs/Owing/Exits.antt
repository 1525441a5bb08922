-- What an exit owes by the facts that reach it is what it owes by the flow of each of its callers.
use Rattle.std.proofs.Common.{◌≡◌, ℕ, suc, ◌+◌, Bool, true, false, cond, List, [], ◌∷◌, ◌++◌, Option, Some, map, ap, ◌∙◌, refl, arith}
use Rattle.std.specs.Prelude.{nat_eq, filter, slice_get}
use Rattle.std.specs.List.{flat_map, range_with_len}
use Rattle.std.proofs.lemmas.Grind.{flat_map-append}
use Rattle.std.proofs.lemmas.List.{map-append}
use Rattle.std.proofs.lemmas.List.Elements.{filter-append}
use Rattle.ide_graph.specs.declared.site.Caller.{Caller}
use Rattle.ide_lattice.specs.Algebra.{LatticeAlgebra, EdgeAlgebra}
use Rattle.ide_problem.specs.Flow.{Targets}
use Rattle.ide_tasks.specs.Parts.{exit_parts}
use Rattle.ide_tasks.specs.Sources.{reaching_of, source_of, sources_over, sources_from}
use Rattle.ide_tasks.specs.declared.partners.Reaching.{Reaching}
use Rattle.ide_tasks.specs.declared.sources.Source.{Source}
use Rattle.ide_theory.specs.Given.{Edges, frame_of}
use Rattle.ide_theory.specs.Member.{Each}
use Rattle.ide_theory.specs.Parts.{parts_at_exit as exit_listed}
use Rattle.ide_theory.specs.Sites.{IsEdgeOf, callers_at}
use Rattle.ide_wire.specs.declared.key.Key.{Key}
use Rattle.ide_wire.specs.declared.key.Key.TheVariants.{Summary}

reaching-append : {F : Type 0} (fact : ℕ) (xs ys : List (Source F)) → reaching_of fact (xs ++ ys) ≡ reaching_of fact xs ++ reaching_of fact ys
reaching-append fact xs ys =
    ap (map (λ source. source.from)) (filter-append (λ source. nat_eq source.reached fact) xs ys)
    ∙ map-append (λ source. source.from) (filter (λ source. nat_eq source.reached fact) xs) (filter (λ source. nat_eq source.reached fact) ys)

module _ {F L : Type 0} (A : LatticeAlgebra L) (B : EdgeAlgebra F L) (targets : Targets F) (G : Edges) (get : Key → Option F) (n a b : ℕ) (f : F) where
  -- what a source owes, by the callers that its index finds
  abbrev from_source : (ℕ → Option Caller) → Reaching F → List (Key × F)
  from_source caller_of source = exit_parts B targets b f source (caller_of source.caller)

  -- what a target of the call flow from a fact owes, if it is the first fact of the jump
  abbrev from_target : Caller → ℕ → ℕ × F → List (Key × F)
  from_target caller x t =
      cond (nat_eq t.0 a) (map (λ u. (Summary caller.call_node x u.0, B.compose (B.compose t.1 f) u.1)) (targets caller.back b)) []

  one-more : (caller_of : ℕ → Option Caller) (v : Bool) (source : Source F) (sources : List (Source F))
      → flat_map (from_source caller_of) (map (λ s. s.from) (cond v (source ∷ sources) sources))
      ≡ cond v (from_source caller_of source.from) [] ++ flat_map (from_source caller_of) (map (λ s. s.from) sources)
  one-more caller_of true source sources = refl
  one-more caller_of false source sources = refl

  targets-same : (caller_of : ℕ → Option Caller) (index x : ℕ) (caller : Caller) → caller_of index ≡ Some caller → (ts : List (ℕ × F))
      → flat_map (from_source caller_of) (reaching_of a (map (source_of index x) ts)) ≡ flat_map (from_target caller x) ts
  targets-same caller_of index x caller same [] = refl
  targets-same caller_of index x caller same (t ∷ ts) =
      one-more caller_of (nat_eq t.0 a) (source_of index x t) (filter (λ source. nat_eq source.reached a) (map (source_of index x) ts))
      ∙ ap (λ found. cond (nat_eq t.0 a) (exit_parts B targets b f (source_of index x t).from found) []
      ++ flat_map (from_source caller_of) (reaching_of a (map (source_of index x) ts))) same
      ∙ ap (λ rest. from_target caller x t ++ rest) (targets-same caller_of index x caller same ts)

  facts-same : (caller_of : ℕ → Option Caller) (index : ℕ) (caller : Caller) → caller_of index ≡ Some caller → (xs : List ℕ)
      → flat_map (from_source caller_of) (reaching_of a (flat_map (λ x. map (source_of index x) (targets caller.call x)) xs))
      ≡ flat_map (λ x. flat_map (from_target caller x) (targets caller.call x)) xs
  facts-same caller_of index caller same [] = refl
  facts-same caller_of index caller same (x ∷ xs) =
      let here : List (Source F) = map (source_of index x) (targets caller.call x) in
      let rest : List (Source F) = flat_map (λ x. map (source_of index x) (targets caller.call x)) xs in
      ap (flat_map (from_source caller_of)) (reaching-append a here rest)
      ∙ flat_map-append (from_source caller_of) (reaching_of a here) (reaching_of a rest)
      ∙ ap (λ ps. ps ++ flat_map (from_source caller_of) (reaching_of a rest)) (targets-same caller_of index x caller same (targets caller.call x))
      ∙ ap (λ ps. flat_map (from_target caller x) (targets caller.call x) ++ ps) (facts-same caller_of index caller same xs)

  pub callers-same : (caller_of : ℕ → Option Caller) (index : ℕ) (callers : List Caller)
      (all : Each (λ caller. IsEdgeOf G.facts caller.call × IsEdgeOf G.facts caller.back) callers)
      → ((k : ℕ) → caller_of (index + k) ≡ slice_get callers k)
      → flat_map (from_source caller_of) (reaching_of a (sources_from targets G.facts index callers))
      ≡ flat_map (exit_listed (frame_of A B targets G) get a b f) (callers_at G.facts n callers all)
  callers-same caller_of index [] all finds = refl
  callers-same caller_of index (caller ∷ callers) all finds =
      let here : List (Source F) = sources_over targets G.facts index caller in
      let rest : List (Source F) = sources_from targets G.facts (index + 1) callers in
      let here_index : index ≡ index + 0 = omega arith in
      let found : caller_of index ≡ Some caller = ap caller_of here_index ∙ finds 0 in
      let finds_rest : (k : ℕ) → caller_of (index + 1 + k) ≡ slice_get callers k =
      λ k. let next : index + 1 + k ≡ index + suc k = omega arith in ap caller_of next ∙ finds (suc k) in
      ap (flat_map (from_source caller_of)) (reaching-append a here rest)
      ∙ flat_map-append (from_source caller_of) (reaching_of a here) (reaching_of a rest)
      ∙ ap (λ ps. ps ++ flat_map (from_source caller_of) (reaching_of a rest)) (facts-same caller_of index caller found (range_with_len 0 G.facts))
      ∙ ap (λ ps. flat_map (λ x. flat_map (from_target caller x) (targets caller.call x)) (range_with_len 0 G.facts) ++ ps)
      (callers-same caller_of (index + 1) callers all.1 finds_rest)
