-- That what is lent of the inverse of a call's flow has each fact once.
use Rattle.std.proofs.Common.{◌≡◌, ℕ, zero, suc, ◌+◌, ◌<◌, ◌≤◌, true, false, cond, List, [], ◌∷◌, ◌++◌, Option, None, Some, length, get_or, map, sym, subst, ap, ◌∙◌, refl, Bool, arith}
use Rattle.std.specs.Prelude.{nat_eq, filter, slice_get}
use Rattle.std.specs.List.{All, AllPairs, flat_map, range_with_len}
use Rattle.std.proofs.lemmas.Bool.Decides.{nat_tests}
use Rattle.std.proofs.lemmas.List.{append-nil, get_or-map, length-map}
use Rattle.std.proofs.lemmas.List.Kept.{AllPairs-cons}
use Rattle.ide_lattice.specs.Algebra.{EdgeAlgebra}
use Rattle.ide_text.specs.declared.program.Program.{Program}
use Rattle.ide_graph.specs.declared.edge.EdgeData.{EdgeData}
use Rattle.ide_graph.specs.declared.site.Site.{Site}
use Rattle.ide_graph.specs.declared.site.Site.TheVariants.{Normal, Call, Exit}
use Rattle.ide_graph.specs.EdgeLaws.{EdgesAreLawful}
use Rattle.ide_graph.specs.Lawful.{IsEdge}
use Rattle.ide_graph.specs.ProgramEdges.{HasEdgesOf, IsSiteOf}
use Rattle.ide_graph.specs.Supergraph.{Supergraph}
use Rattle.ide_problem.specs.Flow.{AreTargets, IsFlow, Targets}
use Rattle.ide_tasks.specs.Sources.{ReachOver, fact_and_function, sources_over_call, sources_over_edge, sources_over_site}
use Rattle.ide_tasks.specs.declared.sources.Source.{Source}
use Rattle.ide_tasks.proofs.OverCall.{filter-none}
use Rattle.ide_steps.specs.Lent.{FactsAscend}

apart : (a b : ℕ) → b < a → nat_eq a b ≡ false
apart a b h = grind (arith, nat_tests, h)

told : (a b : ℕ) → nat_eq a b ≡ true → a ≡ b
told a b h = grind (arith, nat_tests, h)

module _ {F : Type 0} where
  -- the first numbers rise from n on
  abbrev Rises : ℕ → List (ℕ × F) → Type 0
  Rises n [] = Unit {0}
  Rises n (x ∷ xs) = (n ≤ x.0) × Rises (x.0 + 1) xs

  from-lower : (n : ℕ) (xs : List (ℕ × F)) → Rises (n + 1) xs → Rises n xs
  from-lower n [] up = up
  from-lower n (x ∷ xs) up = let least = up.0 in (omega (arith, least), up.1)

  later : (n : ℕ) (xs : List (ℕ × F)) → Rises n xs → All (λ x. n ≤ x.0) xs
  later n [] up k d within = absurd (omega (arith, within))
  later n (x ∷ xs) up zero d within = up.0
  later n (x ∷ xs) up (suc k) d within =
      let least = up.0 in let more = later (x.0 + 1) xs up.1 k d (omega (arith, within)) in omega (arith, least, more)

  strictly : (n : ℕ) (xs : List (ℕ × F)) → Rises n xs → AllPairs (λ x y. x.0 < y.0) xs
  strictly n [] up = λ i j d before within. absurd (omega (arith, within))
  strictly n (x ∷ xs) up =
      AllPairs-cons (λ x y. x.0 < y.0) x xs (λ k d within. let more = later (x.0 + 1) xs up.1 k d within in omega (arith, more)) (strictly (x.0 + 1) xs up.1)

  module _ (proper : F → Bool) (count reached : ℕ) where
    -- of targets past the fact, none is it
    past : (low : ℕ) (ts : List (ℕ × F)) → AreTargets proper low count ts → reached < low → filter (λ t. nat_eq t.0 reached) ts ≡ []
    past low [] are less = refl
    past low (t ∷ ts) are less =
        let least = are.0 in
        let other : nat_eq t.0 reached ≡ false = apart t.0 reached (omega (arith, least, less)) in
        ap (λ b. cond b (t ∷ filter (λ t. nat_eq t.0 reached) ts) (filter (λ t. nat_eq t.0 reached) ts)) other
        ∙ past (t.0 + 1) ts are.3 (omega (arith, least, less))

    -- a fact, listed once if one of its targets is the fact reached, and what rises after it
    one-fact : (fact low : ℕ) (ts rest : List (ℕ × F)) → AreTargets proper low count ts → Rises (fact + 1) rest
        → Rises fact (map (λ t. (fact, t.1)) (filter (λ t. nat_eq t.0 reached) ts) ++ rest)
    one-fact fact low [] rest are up = from-lower fact rest up
    one-fact fact low (t ∷ ts) rest are up =
        elim (nat_eq t.0 reached) as (λ b. nat_eq t.0 reached ≡ b
        → Rises fact (map (λ t. (fact, t.1)) (cond b (t ∷ filter (λ t. nat_eq t.0 reached) ts) (filter (λ t. nat_eq t.0 reached) ts)) ++ rest)) [
          | true ↦ λ is.
              let same : t.0 ≡ reached = told t.0 reached is in
              let none : filter (λ t. nat_eq t.0 reached) ts ≡ [] = past (t.0 + 1) ts are.3 (omega (arith, same)) in
              subst (λ fs. Rises fact (map (λ t. (fact, t.1)) (t ∷ fs) ++ rest)) (sym none) (omega arith, up)
          | false ↦ λ other. one-fact fact (t.0 + 1) ts rest are.3 up
        ] refl

module _ {F L : Type 0} (B : EdgeAlgebra F L) (targets : Targets F) (flow : IsFlow B targets) (reached : ℕ) where
  over-edge : (edge : EdgeData) → IsEdge edge → (first n : ℕ)
      → Rises first (flat_map (λ fact. map (λ t. (fact, t.1)) (filter (λ t. nat_eq t.0 reached) (targets edge fact))) (range_with_len first n))
  over-edge edge is first zero = tt
  over-edge edge is first (suc n) =
      one-fact B.proper edge.facts reached first 0 (targets edge first)
      (flat_map (λ fact. map (λ t. (fact, t.1)) (filter (λ t. nat_eq t.0 reached) (targets edge fact))) (range_with_len (first + 1) n))
      (flow.in_order edge first is) (over-edge edge is (first + 1) n)

  -- of the call edges of a site, which end at different nodes, one is to the start
  over-calls : (facts start : ℕ) (calls : List EdgeData) → All IsEdge calls → AllPairs (λ x y. x.end < y.end) calls
      → Rises 0 (flat_map (sources_over_edge targets facts reached) (filter (λ e. nat_eq e.end start) calls))
  over-calls facts start [] each up = tt
  over-calls facts start (e ∷ es) each up =
      elim (nat_eq e.end start) as (λ b. nat_eq e.end start ≡ b
      → Rises 0 (flat_map (sources_over_edge targets facts reached) (cond b (e ∷ filter (λ e. nat_eq e.end start) es) (filter (λ e. nat_eq e.end start) es)))) [
        | true ↦ λ is.
            let same : e.end ≡ start = told e.end start is in
            let none : filter (λ e. nat_eq e.end start) es ≡ [] =
            filter-none (λ e. nat_eq e.end start) es (λ k d within.
            let less : e.end < (get_or es k d).end = up 0 (suc k) d (omega arith) (omega (arith, within)) in
            apart (get_or es k d).end start (omega (arith, less, same))) in
            subst (λ fs. Rises 0 (flat_map (sources_over_edge targets facts reached) (e ∷ fs))) (sym none)
            (subst (Rises 0) (sym (append-nil (sources_over_edge targets facts reached e))) (over-edge e (each 0 e (omega arith)) 0 facts))
        | false ↦ λ other.
            over-calls facts start es (λ k d within. each (suc k) d (omega (arith, within)))
            (λ i j d before within. up (suc i) (suc j) d (omega (arith, before)) (omega (arith, within)))
      ] refl

  module _ (p : Program) (graph : Supergraph) (has : HasEdgesOf p graph) (lawful : EdgesAreLawful) where
    over-site : (call start : ℕ) (site : Option Site) → slice_get graph.sites call ≡ site → Rises 0 (sources_over_site targets graph.facts start reached site)
    over-site call start None at = tt
    over-site call start (Some (Normal edges)) at = tt
    over-site call start (Some (Call calls along)) at =
        let site : IsSiteOf p call (Call calls along) = has call (Call calls along) at in
        over-calls graph.facts start calls
        (λ k d within. let from = site.0.each k d within in ((lawful p).call call from.0 (get_or calls k d) from.1).lawful)
        site.0.ascending
    over-site call start (Some (Exit begin callers)) at = tt

    -- what reaches the fact over a call has each fact once
    pub lent-once : (call start : ℕ) (list : List (Source F)) → ReachOver targets graph call start reached list → FactsAscend list
    lent-once call start list are i j d before within =
        let pairs : AllPairs (λ x y. x.0 < y.0) (map fact_and_function list) =
        subst (AllPairs (λ x y. x.0 < y.0)) (sym are) (strictly 0 (sources_over_call targets graph call start reached) (over-site call start (slice_get graph.sites call) refl)) in
        let long : length (map fact_and_function list) ≡ length list = length-map list fact_and_function in
        let less = pairs i j (fact_and_function d) before (omega (arith, within, long)) in
        let one : (get_or (map fact_and_function list) i (fact_and_function d)).0 ≡ (get_or list i d).from.fact =
        ap (λ x. x.0) (get_or-map fact_and_function list i d (fact_and_function d) (omega (arith, before, within))) in
        let two : (get_or (map fact_and_function list) j (fact_and_function d)).0 ≡ (get_or list j d).from.fact =
        ap (λ x. x.0) (get_or-map fact_and_function list j d (fact_and_function d) within) in
        omega (arith, less, one, two)
