-- What the start values come to is started: each value is found, below its entry and below what calls hand on.
use Rattle.std.proofs.Common.{◌≡◌, ◌≢◌, ℕ, ◌+◌, ◌*◌, ◌/◌, ◌%◌, ◌<◌, ◌≤◌, ◌⊎◌, ◌&&◌, ◌||◌, Bool, true, false, cond, List, [], ◌∷◌, Option, Some, length, get_or, set, ap, sym, subst, refl, inl, inr, ◌∙◌, arith}
use Rattle.std.specs.Prelude.{IsTrue, fold, map, nat_eq, nat_lt, slice_get, slice_index, unwrap_or}
use Rattle.std.proofs.lemmas.Bool.Decides.{nat_tests}
use Rattle.std.proofs.lemmas.List.{get_or_past, get_or-set_same, get_or-set_other, length-set, set_past}
use Rattle.std.proofs.lemmas.List.FromFn.{get_or-map-range_with_len, length-map-range_with_len}
use Rattle.std.proofs.lemmas.Nat.{div-mul-add, mod-mul-add}
use Rattle.std.proofs.lemmas.Option.{slice_get_within}
use Rattle.ide_graph.specs.Supergraph.{Supergraph}
use Rattle.ide_graph.specs.declared.edge.EdgeData.{EdgeData}
use Rattle.ide_lattice.specs.Algebra.{LatticeAlgebra, EdgeAlgebra}
use Rattle.ide_lattice.specs.Laws.{IsLattice, IsEdgeAlgebra}
use Rattle.ide_problem.specs.Flow.{IsFlow, Targets, function_to}
use Rattle.ide_image.specs.Tables.{Table, found}
use Rattle.ide_theory.specs.Frame.{Frame, Roots}
use Rattle.ide_theory.specs.Member.{IsIn, first, later}
use Rattle.ide_theory.specs.Parts.{AreEdgesOf}
use Rattle.ide_graph.specs.Joined.{AreJoined, start_at}
use Rattle.ide_theory.specs.Sites.{HaveEdgesOf, IsEdgeOf, node_edges}
use Rattle.ide_theory.specs.Value.{Found, nothing, given, passed, meet}
use Rattle.ide_wire.specs.declared.key.Key.{Key}
use Rattle.ide_wire.specs.declared.key.Key.TheVariants.{Jump, Summary}
use Rattle.ide_theory.specs.Graphs.{frame_at, roots_at}
use Rattle.ide_values.specs.Closed.{IsRooted}
use Rattle.ide_values.specs.Enter.{entered_at, entered_rows, is_root, root_flags}
use Rattle.ide_values.specs.Fill.{IsImage}
use Rattle.ide_values.specs.Pass.{stays, then, by_entry, calls_of, over_edge, to_target}
use Rattle.ide_values.specs.Settled.{ComesTo}
use Rattle.ide_values.specs.Start.{value_before}
use Rattle.ide_values.proofs.Edges.{IsTargetIn, call_edge, call_site, equal_exact, equal_refl, first_or, none_in, target_in, target_is}
use Rattle.ide_values.proofs.Places.{place_within, same_place}

-- after a store a place has what was stored there, or what it had
pub stored : {T : Type 0} (xs : List T) (place : ℕ) (y : T) (q : ℕ) (d : T)
    → ((q ≡ place) × (get_or (set xs place y) q d ≡ y)) ⊎ (get_or (set xs place y) q d ≡ get_or xs q d)
stored xs place y q d = elim (equal_or q place) [
  | inl same ↦ elim (within_or place (length xs)) [
    | inl h ↦ inl (same, subst (λ p. get_or (set xs place y) p d ≡ y) (sym same) (get_or-set_same xs place y d h))
    | inr past ↦ inr (ap (λ zs. get_or zs q d) (set_past xs place y past))
  ]
  | inr other ↦ inr (get_or-set_other xs place q y d other)
]
  where
    equal_or : (a b : ℕ) → (a ≡ b) ⊎ (a ≢ b)
    equal_or a b = grind (arith)

    within_or : (a b : ℕ) → (a < b) ⊎ (b ≤ a)
    within_or a b = grind (arith)

pub less_true : (a b : ℕ) → a < b → nat_lt a b ≡ true
less_true a b h = grind (arith, nat_tests)

pub in_map : {S T : Type 0} (f : S → T) {x : S} {xs : List S} → IsIn x xs → IsIn (f x) (map f xs)
in_map f first = first
in_map f (later is) = later (in_map f is)

pub root_in : (roots : List ℕ) (p : ℕ) → is_root roots p ≡ true → IsIn p roots
root_in [] p is = cc
root_in (r ∷ roots) p is = elim (nat_eq p r) as (λ t. nat_eq p r ≡ t → (t || is_root roots p) ≡ true → IsIn p (r ∷ roots)) [
  | true ↦ λ e rest. subst (λ q. IsIn q (r ∷ roots)) (sym (equal_exact p r e)) first
  | false ↦ λ e rest. later (root_in roots p rest)
] refl is

pub in_root : (roots : List ℕ) (p : ℕ) → IsIn p roots → is_root roots p ≡ true
in_root [] p is = elim (none_in is) [ ]
in_root (r ∷ roots) p is = elim (first_or is) [
  | inl same ↦ ap (λ t. t || is_root roots p) (subst (λ q. nat_eq p q ≡ true) same (equal_refl p))
  | inr rest ↦ elim (nat_eq p r) as (λ t. (t || is_root roots p) ≡ true) [ true ↦ refl | false ↦ in_root roots p rest ]
]

-- what each step by an element of a list keeps, stepping by all of them keeps
pub fold_keeps : {X V : Type 0} (P : V → Type 0) (step : V → X → V) (xs : List X) → ((v : V) (x : X) → IsIn x xs → P v → P (step v x))
    → (v : V) → P v → P (fold step v xs)
fold_keeps P step [] keeps v p = p
fold_keeps P step (x ∷ xs) keeps v p = fold_keeps P step xs (λ w y is. keeps w y (later is)) (step v x) (keeps v x first p)

module _ {F L : Type 0} (A : LatticeAlgebra L) (laws : IsLattice A) (B : EdgeAlgebra F L) (functions : IsEdgeAlgebra A B)
    (targets : Targets F) (flow : IsFlow B targets) (graph : Supergraph) (table : Table F) (roots : List ℕ)
    (all : HaveEdgesOf graph.facts graph.sites) (joined : AreJoined graph.sites (start_at graph))
    (edges : AreEdgesOf (frame_at A B targets graph all) (node_edges graph.facts graph.sites all))
    (closed : IsRooted graph roots) (image : IsImage B graph (found table)) where
  abbrev pub frame : Frame
  frame = frame_at A B targets graph all

  abbrev pub entry : Roots frame
  entry = roots_at A B targets graph all roots

  abbrev pub IsFound : ℕ → ℕ → L → Type 0
  IsFound s k v = Found frame entry (found table) s k v

  -- what holds of the values at every moment
  pub record IsSound (vs : List L) : Type 0 where
    pub count : length vs ≡ graph.procedures * graph.facts
    pub proper : (q : ℕ) → IsTrue (A.proper (get_or vs q A.top))
    pub has : (s k : ℕ) → s < graph.nodes → start_at graph s ≡ s → k < graph.facts → IsFound s k (value_before A graph vs s k)
    pub root : (i k : ℕ) → IsIn i roots → k < graph.entries → k < graph.facts → get_or vs (i * graph.facts + k) A.top ≡ A.bottom

  pub at_home : (n : ℕ) → n < graph.nodes → slice_index graph.owners (start_at graph n) ≡ slice_index graph.owners n
  at_home n h = closed.is_closed.home (slice_index graph.owners n) (closed.is_closed.owned n h)

  -- a call of the table at a node, with a target
  pub record IsHanded (n a b : ℕ) (f : F) (edge : EdgeData) (t : ℕ × F) : Type 0 where
    pub node : n < graph.nodes
    pub present : found table (Jump n a b) ≡ Some f
    pub call : IsIn edge (calls_of graph n)
    pub target : IsIn {T = ℕ × F} t (targets edge b)

  pub lawful_edge : (n : ℕ) (edge : EdgeData) → IsIn edge (calls_of graph n) → IsEdgeOf graph.facts edge
  lawful_edge n edge is =
      let (e, listed, told) = call_edge graph.facts n (slice_get graph.sites n) (all n) edge is in
      subst (IsEdgeOf graph.facts) told (record { lawful = e.lawful; counted = e.counted })

  pub in_range : (n a b : ℕ) (f : F) (edge : EdgeData) (t : ℕ × F) → IsHanded n a b f edge t → IsTargetIn B.proper 0 graph.facts t
  in_range n a b f edge t h =
      let lawful : IsEdgeOf graph.facts edge = lawful_edge n edge h.call in
      subst (λ c. IsTargetIn B.proper 0 c t) lawful.counted (target_in B.proper h.target 0 edge.facts (flow.in_order edge b lawful.lawful))

  -- what a call hands on is found
  pub handed_found : (vs : List L) → IsSound vs → (n a b : ℕ) (f : F) (edge : EdgeData) (t : ℕ × F) → IsHanded n a b f edge t
      → IsFound edge.end t.0 (B.apply t.1 (B.apply f (value_before A graph vs n a)))
  handed_found vs sound n a b f edge t h =
      let (e, listed, told) = call_edge graph.facts n (slice_get graph.sites n) (all n) edge h.call in
      let call = edges.is_call n e listed in
      let lawful : IsEdgeOf graph.facts edge = lawful_edge n edge h.call in
      let own : start_at graph (start_at graph n) ≡ start_at graph n = ap (slice_index graph.starts) (at_home n h.node) in
      let there : IsFound (start_at graph n) a (value_before A graph vs (start_at graph n) a) =
      sound.has (start_at graph n) a (closed.is_closed.begun (slice_index graph.owners n) (closed.is_closed.owned n h.node)) own (image.facts (Jump n a b) f h.present).0 in
      let before : IsFound (start_at graph n) a (value_before A graph vs n a) =
      subst (λ (p : ℕ). IsFound (start_at graph n) a (get_or vs (p * graph.facts + a) A.top)) (at_home n h.node) there in
      let over : IsFound e.edge.end t.0 (B.apply (function_to B t.0 (targets e.edge b)) (B.apply (unwrap_or (found table (Jump e.from a b)) B.all_top) (value_before A graph vs n a))) =
      passed e b t.0 call.0 (subst (λ (m : ℕ). IsFound (start_at graph m) a (value_before A graph vs n a)) (sym call.1) before) in
      subst (λ (g : F). IsFound edge.end t.0 (B.apply g (B.apply f (value_before A graph vs n a))))
      (target_is B h.target 0 edge.facts (flow.in_order edge b lawful.lawful))
      (subst (λ (o : Option F). IsFound edge.end t.0 (B.apply (function_to B t.0 (targets edge b)) (B.apply (unwrap_or o B.all_top) (value_before A graph vs n a)))) h.present
      (subst (λ (m : ℕ). IsFound edge.end t.0 (B.apply (function_to B t.0 (targets edge b)) (B.apply (unwrap_or (found table (Jump m a b)) B.all_top) (value_before A graph vs n a)))) call.1
      (subst (λ (d : EdgeData). IsFound d.end t.0 (B.apply (function_to B t.0 (targets d b)) (B.apply (unwrap_or (found table (Jump e.from a b)) B.all_top) (value_before A graph vs n a)))) told over)))

  -- a call leads to a start, which is one of the nodes
  pub leads : (n : ℕ) (edge : EdgeData) → IsIn edge (calls_of graph n) → (start_at graph edge.end ≡ edge.end) × (edge.end < graph.nodes)
  leads n edge is =
      let (s, stands, has) = call_site (slice_get graph.sites n) edge is in
      (joined.callee n s edge stands has, closed.is_closed.ends n s edge stands has)

  pub sound_target : (n a b : ℕ) (f : F) (edge : EdgeData) (t : ℕ × F) → IsHanded n a b f edge t → (vs : List L) → IsSound vs
      → IsSound (to_target A B graph n a f edge.end vs t)
  sound_target n a b f edge t h vs sound =
      let place : ℕ = slice_index graph.owners edge.end * graph.facts + t.0 in
      let x : L = value_before A graph vs n a in
      let v : L = B.apply t.1 (B.apply f x) in
      let old : L = get_or vs place A.top in
      let range : IsTargetIn B.proper 0 graph.facts t = in_range n a b f edge t h in
      let proper_v : IsTrue (A.proper v) =
      functions.proper_apply t.1 (B.apply f x) range.proper (functions.proper_apply f x (image.proper (Jump n a b) f h.present) (sound.proper (slice_index graph.owners n * graph.facts + a))) in
      record {
        count = length-set vs place (A.meet old v) ∙ sound.count;
        proper = λ q. elim (stored vs place (A.meet old v) q A.top) [
          | inl here ↦ subst (λ (y : L). IsTrue (A.proper y)) (sym here.1) (laws.proper_meet old v (sound.proper place) proper_v)
          | inr kept ↦ subst (λ (y : L). IsTrue (A.proper y)) (sym kept) (sound.proper q)
        ];
        has = λ s k h1 own h2. elim (stored vs place (A.meet old v) (slice_index graph.owners s * graph.facts + k) A.top) [
          | inl here ↦
              let same = same_place (slice_index graph.owners s) (slice_index graph.owners edge.end) k t.0 graph.facts h2 range.most here.0 in
              let start : edge.end ≡ s = sym (leads n edge h.call).0 ∙ ap (slice_index graph.starts) (sym same.0) ∙ own in
              let handed : IsFound s k v =
              subst (λ (m : ℕ). IsFound m k v) start
              (subst (λ (c : ℕ). IsFound edge.end c v) (sym same.1) (handed_found vs sound n a b f edge t h)) in
              subst (IsFound s k) (sym here.1)
              (meet (subst (λ (q : ℕ). IsFound s k (get_or vs q A.top)) here.0 (sound.has s k h1 own h2)) handed)
          | inr kept ↦ subst (IsFound s k) (sym kept) (sound.has s k h1 own h2)
        ];
        root = λ i k is h1 h2. elim (stored vs place (A.meet old v) (i * graph.facts + k) A.top) [
          | inl here ↦
              let was : old ≡ A.bottom = ap (λ q. get_or vs q A.top) (sym here.0) ∙ sound.root i k is h1 h2 in
              here.1 ∙ ap (λ y. A.meet y v) was ∙ laws.bottom_meet v proper_v
          | inr kept ↦ kept ∙ sound.root i k is h1 h2
        ];
      }

  pub sound_entry : (vs : List L) (key : Key) (f : F) → found table key ≡ Some f → IsSound vs → IsSound (by_entry A B graph targets vs key f)
  sound_entry vs (Summary c a b) f present sound = sound
  sound_entry vs (Jump n a b) f present sound =
      fold_keeps IsSound (over_edge A B graph targets n a b f) (calls_of graph n)
      (λ us edge is keeps.
      let (s, stands, has) = call_site (slice_get graph.sites n) edge is in
      let within : n < graph.nodes = subst (λ (c : ℕ). n < c) closed.is_closed.sited (slice_get_within graph.sites n s stands) in
      fold_keeps IsSound (to_target A B graph n a f edge.end) (targets edge b)
      (λ ws t target. sound_target n a b f edge t (record { node = within; present = present; call = is; target = target }) ws)
      us keeps)
      vs sound

  pub sound_comes : {us vs : List L} → ComesTo A B targets graph table us vs → IsSound us → IsSound vs
  sound_comes stays sound = sound
  sound_comes (then {v = ws} more e is) sound = sound_entry ws e.0 e.1 is (sound_comes more sound)

  -- the value at a place of the rows as they begin
  pub entered_is : (p k : ℕ) → p < graph.procedures → k < graph.facts
      → get_or (entered_rows A graph roots) (p * graph.facts + k) A.top ≡ cond (nat_lt k graph.entries && is_root roots p) A.bottom A.top
  entered_is p k h1 h2 =
      get_or-map-range_with_len (entered_at A graph.facts graph.entries (root_flags graph roots)) 0 (graph.procedures * graph.facts) (p * graph.facts + k) (p * graph.facts + k) A.top
      (place_within p k graph.procedures graph.facts h1 h2) (omega arith)
      ∙ ap (λ r. cond (nat_lt r graph.entries && get_or (root_flags graph roots) ((p * graph.facts + k) / graph.facts) false) A.bottom A.top) (mod-mul-add p graph.facts k h2)
      ∙ ap (λ r. cond (nat_lt k graph.entries && get_or (root_flags graph roots) r false) A.bottom A.top) (div-mul-add p graph.facts k h2)
      ∙ ap (λ r. cond (nat_lt k graph.entries && r) A.bottom A.top) (get_or-map-range_with_len (is_root roots) 0 graph.procedures p p false h1 (omega arith))

  pub entered_proper : (q : ℕ) → IsTrue (A.proper (get_or (entered_rows A graph roots) q A.top))
  entered_proper q = elim (within_or q (length (entered_rows A graph roots))) [
    | inl h ↦ subst (λ (y : L). IsTrue (A.proper y))
        (sym (get_or-map-range_with_len (entered_at A graph.facts graph.entries (root_flags graph roots)) 0 (graph.procedures * graph.facts) q q A.top
        (subst (λ (c : ℕ). q < c) (length-map-range_with_len (entered_at A graph.facts graph.entries (root_flags graph roots)) 0 (graph.procedures * graph.facts)) h) (omega arith)))
        (either (nat_lt (q % graph.facts) graph.entries && get_or (root_flags graph roots) (q / graph.facts) false))
    | inr past ↦ subst (λ (y : L). IsTrue (A.proper y)) (sym (get_or_past (entered_rows A graph roots) q A.top past)) laws.proper_top
  ]
    where
      within_or : (a b : ℕ) → (a < b) ⊎ (b ≤ a)
      within_or a b = grind (arith)

      either : (b : Bool) → IsTrue (A.proper (cond b A.bottom A.top))
      either true = laws.proper_bottom
      either false = laws.proper_top

  pub sound_entered : IsSound (entered_rows A graph roots)
  sound_entered = record {
    count = length-map-range_with_len (entered_at A graph.facts graph.entries (root_flags graph roots)) 0 (graph.procedures * graph.facts);
    proper = entered_proper;
    has = λ s k h1 own h2.
        subst (IsFound s k) (sym (entered_is (slice_index graph.owners s) k (closed.is_closed.owned s h1) h2))
        (elim (nat_lt k graph.entries) as (λ t. nat_lt k graph.entries ≡ t → IsFound s k (cond (t && is_root roots (slice_index graph.owners s)) A.bottom A.top)) [
          | true ↦ λ few. elim (is_root roots (slice_index graph.owners s)) as (λ u. is_root roots (slice_index graph.owners s) ≡ u → IsFound s k (cond u A.bottom A.top)) [
            | true ↦ λ is.
                let root : IsIn s (map (slice_index graph.starts) roots) = subst (λ (r : ℕ). IsIn r (map (slice_index graph.starts) roots)) own (in_map (slice_index graph.starts) (root_in roots (slice_index graph.owners s) is)) in
                subst (IsFound s k) (ap (λ b. cond b A.bottom A.top) few) (given root h2)
            | false ↦ λ is. nothing
          ] refl
          | false ↦ λ few. nothing
        ] refl);
    root = λ i k is h1 h2.
        entered_is i k (closed.rooted i is) h2
        ∙ ap (λ b. cond (b && is_root roots i) A.bottom A.top) (less_true k graph.entries h1)
        ∙ ap (λ b. cond b A.bottom A.top) (in_root roots i is);
  }
