-- Sound values that nothing handed on would change are start values in the theory's sense.
use Rattle.std.proofs.Common.{◌≡◌, ℕ, ◌+◌, ◌*◌, ◌<◌, ◌&&◌, true, false, cond, List, [], ◌∷◌, Option, Some, None, length, get_or, map, ap, ap₂, sym, subst, refl, zero, suc, inl, inr, ◌∙◌, arith}
use Rattle.std.specs.Prelude.{IsTrue, nat_eq, nat_lt, slice_get, slice_index, unwrap_or}
use Rattle.std.proofs.lemmas.List.{get_or-set_same}
use Rattle.std.proofs.lemmas.Option.{slice_get_within}
use Rattle.ide_graph.specs.Supergraph.{Supergraph}
use Rattle.ide_graph.specs.declared.edge.EdgeData.{EdgeData}
use Rattle.ide_lattice.specs.Algebra.{LatticeAlgebra, EdgeAlgebra}
use Rattle.ide_lattice.specs.Laws.{IsLattice, IsEdgeAlgebra}
use Rattle.ide_lattice.specs.Meets.{meet_of}
use Rattle.ide_lattice.specs.Order.{IsBelow, below-refl, below-top}
use Rattle.ide_problem.specs.Flow.{IsFlow, Targets, function_to}
use Rattle.ide_image.specs.Tables.{Table, found}
use Rattle.ide_theory.specs.Member.{IsIn, first, later}
use Rattle.ide_theory.specs.Parts.{AreEdgesOf}
use Rattle.ide_graph.specs.Joined.{AreJoined, start_at}
use Rattle.ide_theory.specs.Sites.{HaveEdgesOf, IsEdgeOf, node_edges}
use Rattle.ide_theory.specs.Value.{Found, IsStarted, nothing, value_at}
use Rattle.ide_wire.specs.declared.key.Key.TheVariants.{Jump}
use Rattle.std.proofs.lemmas.Bool.Decides.{nat_tests}
use Rattle.ide_values.proofs.Edges.{call_data}
use Rattle.ide_theory.specs.Graphs.{frame_at, roots_at}
use Rattle.ide_values.specs.Closed.{IsRooted}
use Rattle.ide_values.specs.Fill.{IsImage, value_from}
use Rattle.ide_values.specs.Pass.{IsSteadyBy, IsSteadyOver, calls_of, to_target}
use Rattle.ide_values.specs.Settled.{IsSteady}
use Rattle.ide_values.specs.Start.{start_value, value_before}
use Rattle.ide_values.proofs.Edges.{IsTargetIn, call_site, each_in, equal_refl, first_or, none_in, target_in, target_or}
use Rattle.ide_values.proofs.Places.{place_within}
use Rattle.ide_values.proofs.Sound.{IsSound, leads, less_true, lawful_edge}

-- meets of the same values are the same
pub meet_of_same : {L : Type 0} (A : LatticeAlgebra L) (f g : ℕ → L) → ((k : ℕ) → f k ≡ g k) → (n : ℕ) → meet_of A f n ≡ meet_of A g n
meet_of_same A f g same zero = refl
meet_of_same A f g same (suc n) = ap₂ A.meet (meet_of_same A f g same n) (same n)

-- what a map's list has is mapped from the list
pub of_map : {S T : Type 0} (f : S → T) (y : T) (xs : List S) → IsIn y (map f xs) → (x : S) × IsIn x xs × (f x ≡ y)
of_map f y [] is = elim (none_in is) [ ]
of_map f y (x ∷ xs) is = elim (first_or is) [
  | inl same ↦ (x, first, sym same)
  | inr rest ↦ let more : (u : _) × IsIn u xs × (f u ≡ y) = of_map f y xs rest in (more.0, later more.1, more.2)
]

module _ {F L : Type 0} (A : LatticeAlgebra L) (laws : IsLattice A) (B : EdgeAlgebra F L) (functions : IsEdgeAlgebra A B)
    (targets : Targets F) (flow : IsFlow B targets) (graph : Supergraph) (table : Table F) (roots : List ℕ)
    (all : HaveEdgesOf graph.facts graph.sites) (joined : AreJoined graph.sites (start_at graph))
    (edges : AreEdgesOf (frame_at A B targets graph all) (node_edges graph.facts graph.sites all))
    (closed : IsRooted graph roots) (image : IsImage B graph (found table))
    (vs : List L) (sound : IsSound A laws B functions targets flow graph table roots all joined edges closed image vs)
    (steady : IsSteady A B targets graph table vs) where
  abbrev pub start : ℕ → ℕ → L
  start s k = start_value A graph vs s k

  -- at a start the value is that of its row
  pub start_is : (s k : ℕ) → s < graph.nodes → start_at graph s ≡ s → start s k ≡ value_before A graph vs s k
  start_is s k h own =
      ap (λ b. cond (b && nat_eq (start_at graph s) s) (value_before A graph vs s k) A.top) (less_true s graph.nodes h)
      ∙ ap (λ b. cond b (value_before A graph vs s k) A.top) (subst (λ r. nat_eq r s ≡ true) (sym own) (equal_refl s))

  pub start_of_node : (n a : ℕ) → n < graph.nodes → start (start_at graph n) a ≡ value_before A graph vs n a
  start_of_node n a h =
      let home : slice_index graph.owners (start_at graph n) ≡ slice_index graph.owners n = closed.is_closed.home (slice_index graph.owners n) (closed.is_closed.owned n h) in
      start_is (start_at graph n) a (closed.is_closed.begun (slice_index graph.owners n) (closed.is_closed.owned n h)) (ap (slice_index graph.starts) home)
      ∙ ap (λ p. get_or vs (p * graph.facts + a) A.top) home

  pub start_proper : (s k : ℕ) → IsTrue (A.proper (start s k))
  start_proper s k = elim (nat_lt s graph.nodes && nat_eq (start_at graph s) s) as (λ b. IsTrue (A.proper (cond b (value_before A graph vs s k) A.top))) [
    | true ↦ sound.proper (slice_index graph.owners s * graph.facts + k)
    | false ↦ laws.proper_top
  ]

  pub all_found : (s k : ℕ) → k < graph.facts → Found (frame_at A B targets graph all) (roots_at A B targets graph all roots) (found table) s k (start s k)
  all_found s k h =
      elim (nat_lt s graph.nodes) as (λ t. nat_lt s graph.nodes ≡ t → Found (frame_at A B targets graph all) (roots_at A B targets graph all roots) (found table) s k (cond (t && nat_eq (start_at graph s) s) (value_before A graph vs s k) A.top)) [
        | true ↦ λ within. elim (nat_eq (start_at graph s) s) as (λ u. nat_eq (start_at graph s) s ≡ u → Found (frame_at A B targets graph all) (roots_at A B targets graph all roots) (found table) s k (cond u (value_before A graph vs s k) A.top)) [
          | true ↦ λ own. sound.has s k (less s graph.nodes within) (equal (start_at graph s) s own) h
          | false ↦ λ own. nothing
        ] refl
        | false ↦ λ within. nothing
      ] refl
    where
      less : (a b : ℕ) → nat_lt a b ≡ true → a < b
      less a b e = grind (arith, nat_tests)

      equal : (a b : ℕ) → nat_eq a b ≡ true → a ≡ b
      equal a b e = grind (arith, nat_tests)

  pub all_rooted : (r k : ℕ) → IsIn r (map (slice_index graph.starts) roots) → k < graph.facts
      → IsBelow A (start r k) (cond (nat_lt k graph.entries) A.bottom A.top)
  all_rooted r k is h =
      let (i, root, begins) = of_map (slice_index graph.starts) r roots is in
      elim (nat_lt k graph.entries) as (λ t. nat_lt k graph.entries ≡ t → IsBelow A (start r k) (cond t A.bottom A.top)) [
        | true ↦ λ few.
            let within : i < graph.procedures = closed.rooted i root in
            let home : slice_index graph.owners r ≡ i = subst (λ (s : ℕ). slice_index graph.owners s ≡ i) begins (closed.is_closed.home i within) in
            let own : start_at graph r ≡ r = ap (slice_index graph.starts) home ∙ begins in
            let value : start r k ≡ A.bottom =
            start_is r k (subst (λ (s : ℕ). s < graph.nodes) begins (closed.is_closed.begun i within)) own
            ∙ ap (λ p. get_or vs (p * graph.facts + k) A.top) home
            ∙ sound.root i k root (less k graph.entries few) h in
            subst (λ (v : L). IsBelow A v A.bottom) (sym value) (below-refl A laws A.bottom laws.proper_bottom)
        | false ↦ λ few. below-top A laws (start r k) (start_proper r k)
      ] refl
    where
      less : (a b : ℕ) → nat_lt a b ≡ true → a < b
      less a b e = grind (arith, nat_tests)

  -- over a listed target of a call the value at the callee's start is below what is handed on
  pub below_handed : (n a b c : ℕ) (f g : F) (edge : EdgeData) → n < graph.nodes → c < graph.facts → found table (Jump n a b) ≡ Some f
      → IsIn edge (calls_of graph n) → IsIn {T = ℕ × F} (c, g) (targets edge b) → IsTrue (B.proper g)
      → IsBelow A (start edge.end c) (B.apply g (B.apply f (start (start_at graph n) a)))
  below_handed n a b c f g edge h1 h2 present call target proper =
      let calm : IsSteadyBy A B graph targets vs (Jump n a b) f = steady (Jump n a b) f present in
      let over : IsSteadyOver A B graph targets n a b f vs edge = each_in (IsSteadyOver A B graph targets n a b f vs) (calls_of graph n) calm edge call in
      let same_values : to_target A B graph n a f edge.end vs (c, g) ≡ vs = each_in (λ t. to_target A B graph n a f edge.end vs t ≡ vs) (targets edge b) over (c, g) target in
      let led = leads A laws B functions targets flow graph table roots all joined edges closed image n edge call in
      let place : ℕ = slice_index graph.owners edge.end * graph.facts + c in
      let v : L = B.apply g (B.apply f (value_before A graph vs n a)) in
      let within : place < length vs = subst (λ (q : ℕ). place < q) (sym sound.count) (place_within (slice_index graph.owners edge.end) c graph.procedures graph.facts (closed.is_closed.owned edge.end led.1) h2) in
      let met : A.meet (get_or vs place A.top) v ≡ get_or vs place A.top =
      sym (get_or-set_same vs place (A.meet (get_or vs place A.top) v) A.top within) ∙ ap (λ xs. get_or xs place A.top) same_values in
      let below : IsBelow A (get_or vs place A.top) v = record {
        left = sound.proper place;
        right = functions.proper_apply g (B.apply f (value_before A graph vs n a)) proper
            (functions.proper_apply f (value_before A graph vs n a) (image.proper (Jump n a b) f present) (sound.proper (slice_index graph.owners n * graph.facts + a)));
        below = met;
      } in
      subst (λ (w : L). IsBelow A (start edge.end c) (B.apply g (B.apply f w))) (sym (start_of_node n a h1))
      (subst (λ (w : L). IsBelow A w v) (sym (start_is edge.end c led.1 led.0)) below)

  pub all_called : (n a b c : ℕ) (edge : EdgeData) → c < graph.facts → IsIn edge (calls_of graph n)
      → IsBelow A (start edge.end c) (B.apply (function_to B c (targets edge b)) (B.apply (unwrap_or (found table (Jump n a b)) B.all_top) (start (start_at graph n) a)))
  all_called n a b c edge h call =
      let (s, stands, has) = call_site (slice_get graph.sites n) edge call in
      let within : n < graph.nodes = subst (λ (q : ℕ). n < q) closed.is_closed.sited (slice_get_within graph.sites n s stands) in
      let top : IsBelow A (start edge.end c) A.top = below-top A laws (start edge.end c) (start_proper edge.end c) in
      let x : L = start (start_at graph n) a in
      let lawful : IsEdgeOf graph.facts edge = lawful_edge A laws B functions targets flow graph table roots all joined edges closed image n edge call in
      elim (target_or B c (targets edge b)) [
        | inl target ↦
            let range : IsTargetIn B.proper 0 edge.facts (c, function_to B c (targets edge b)) = target_in B.proper target 0 edge.facts (flow.in_order edge b lawful.lawful) in
            elim (found table (Jump n a b)) as (λ o. found table (Jump n a b) ≡ o → IsBelow A (start edge.end c) (B.apply (function_to B c (targets edge b)) (B.apply (unwrap_or o B.all_top) x))) [
              | None ↦ λ absent. subst (IsBelow A (start edge.end c))
                  (sym (ap (B.apply (function_to B c (targets edge b))) (functions.apply_all_top x (start_proper (start_at graph n) a)) ∙ functions.apply_top (function_to B c (targets edge b)) range.proper)) top
              | Some f ↦ λ present. below_handed n a b c f (function_to B c (targets edge b)) edge within h present call target range.proper
            ] refl
        | inr none ↦
            let y : L = B.apply (unwrap_or (found table (Jump n a b)) B.all_top) x in
            subst (IsBelow A (start edge.end c)) (sym (ap (λ g. B.apply g y) none ∙ functions.apply_all_top y (handed_proper n a b (found table (Jump n a b)) refl))) top
      ]
    where
      handed_proper : (n a b : ℕ) (o : Option F) → found table (Jump n a b) ≡ o → IsTrue (A.proper (B.apply (unwrap_or o B.all_top) (start (start_at graph n) a)))
      handed_proper n a b None is = functions.proper_apply B.all_top (start (start_at graph n) a) functions.proper_all_top (start_proper (start_at graph n) a)
      handed_proper n a b (Some f) is = functions.proper_apply f (start (start_at graph n) a) (image.proper (Jump n a b) f is) (start_proper (start_at graph n) a)

  pub is_started : IsStarted (frame_at A B targets graph all) (roots_at A B targets graph all roots) (found table) (start_value A graph vs)
  is_started = record {
    found = all_found;
    root = all_rooted;
    call = λ e call a b c h1 h2 h3.
        all_called e.from a b c e.edge h3 (call_data graph.facts e.from (slice_get graph.sites e.from) (all e.from) e (edges.has_call e call));
  }

  -- the values that follow from the rows are those that follow from the starts
  pub follows : (n d : ℕ) → n < graph.nodes
      → value_from A B (found table) (value_before A graph vs n) graph.facts n d ≡ value_at (frame_at A B targets graph all) (found table) (start_value A graph vs) n d
  follows n d h =
      meet_of_same A (λ a. B.apply (unwrap_or (found table (Jump n a d)) B.all_top) (value_before A graph vs n a))
      (λ a. B.apply (unwrap_or (found table (Jump n a d)) B.all_top) (start_value A graph vs (start_at graph n) a))
      (λ a. ap (B.apply (unwrap_or (found table (Jump n a d)) B.all_top)) (sym (start_of_node n a h))) graph.facts
