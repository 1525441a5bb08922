-- Sites that fit together make a supergraph, and their edges are what stands at its nodes.
use Rattle.std.specs.Prelude.{◌≡◌, ℕ, List, [], ◌∷◌, Option, Some, None, length, slice_get}
use Rattle.std.proofs.Common.{ap, inl, inr, subst, sym, refl, ◌∙◌}
use Rattle.std.specs.List.{range_with_len}
use Rattle.std.proofs.lemmas.Option.{slice_get_within}
use Rattle.ide_graph.specs.declared.edge.EdgeData.{EdgeData}
use Rattle.ide_graph.specs.declared.site.Caller.{Caller}
use Rattle.ide_graph.specs.declared.site.Site.{Site}
use Rattle.ide_graph.specs.declared.site.Site.TheVariants.{Normal, Call, Exit}
use Rattle.ide_graph.specs.Joined.{HasFlat, HasCall, ReturnsTo, HasCaller, IsEntered, IsLeft, AreJoined}
use Rattle.ide_lattice.specs.Algebra.{LatticeAlgebra, EdgeAlgebra}
use Rattle.ide_problem.specs.Flow.{Targets}
use Rattle.ide_theory.specs.Given.{Edge, Edges, IsGraph, AreMatched, frame_of}
use Rattle.ide_theory.specs.Member.{IsIn, first, later, Each}
use Rattle.ide_theory.specs.Parts.{NodeEdges, AreEdgesOf, CallBetween}
use Rattle.ide_theory.specs.Sites.{IsEdgeOf, HasLawfulEdges, HaveEdgesOf, edges_from, callers_at, edges_found, node_edges, edges_of}
use Rattle.ide_theory.proofs.Laws.Changes.{some-inj, none-some}
use Rattle.ide_theory.specs.Members.{contains-in, in-contains, first-or, not-in-empty, in-one, in-flat_map, of-flat_map, in-range_below}
use Rattle.ide_theory.proofs.Laws.SameEdge.{same-edge}

module _ (facts n : ℕ) where
  -- an edge that leaves the node is one of the listed
  pub of-edges_from : (xs : List EdgeData) (all : Each (IsEdgeOf facts) xs) (e : Edge facts) → IsIn e (edges_from facts n xs all)
      → (e.from ≡ n) × IsIn e.edge xs
  of-edges_from [] all e is = elim (not-in-empty is) [ ]
  of-edges_from (x ∷ xs) all e is = elim (first-or is) [
    | inl same ↦ (ap (λ f. f.from) same, subst (λ d. IsIn d (x ∷ xs)) (sym (ap (λ f. f.edge) same)) first)
    | inr rest ↦ let found : (e.from ≡ n) × IsIn e.edge xs = of-edges_from xs all.1 e rest in (found.0, later found.1)
  ]

  pub in-edges_from : (xs : List EdgeData) (all : Each (IsEdgeOf facts) xs) (e : Edge facts) → e.from ≡ n → (d : EdgeData) → e.edge ≡ d → IsIn d xs
      → IsIn e (edges_from facts n xs all)
  in-edges_from [] all e from d is none = elim (not-in-empty none) [ ]
  in-edges_from (x ∷ xs) all e from d is first =
      subst (λ f. IsIn f (edges_from facts n (x ∷ xs) all))
      (sym (same-edge e (record { from = n; edge = x; lawful = all.0.lawful; counted = all.0.counted }) from is)) first
  in-edges_from (x ∷ xs) all e from d is (later rest) = later (in-edges_from xs all.1 e from d is rest)

  -- each of the data is of one of the listed edges
  pub edge-listed : (xs : List EdgeData) (all : Each (IsEdgeOf facts) xs) (d : EdgeData) → IsIn d xs
      → (e : Edge facts) × IsIn e (edges_from facts n xs all) × (e.edge ≡ d)
  edge-listed [] all d none = elim (not-in-empty none) [ ]
  edge-listed (x ∷ xs) all d first = (record { from = n; edge = x; lawful = all.0.lawful; counted = all.0.counted }, first, refl)
  edge-listed (x ∷ xs) all d (later rest) =
      let found : (e : Edge facts) × IsIn e (edges_from facts n xs all.1) × (e.edge ≡ d) = edge-listed xs all.1 d rest in
      (found.0, later found.1, found.2)

  -- a caller of the exit is one of those listed
  pub of-callers_at : (xs : List Caller) (all : Each (λ c. IsEdgeOf facts c.call × IsEdgeOf facts c.back) xs) (e f : Edge facts)
      → IsIn {T = Edge facts × Edge facts} (e, f) (callers_at facts n xs all)
      → (c : Caller) × IsIn c xs × (e.from ≡ c.call_node) × (e.edge ≡ c.call) × (f.from ≡ n) × (f.edge ≡ c.back)
  of-callers_at [] all e f is = elim (not-in-empty is) [ ]
  of-callers_at (x ∷ xs) all e f is = elim (first-or is) [
    | inl same ↦ (x, first, ap (λ p. p.0.from) same, ap (λ p. p.0.edge) same, ap (λ p. p.1.from) same, ap (λ p. p.1.edge) same)
    | inr rest ↦
        let found : (c : Caller) × IsIn c xs × (e.from ≡ c.call_node) × (e.edge ≡ c.call) × (f.from ≡ n) × (f.edge ≡ c.back) =
        of-callers_at xs all.1 e f rest in
        (found.0, later found.1, found.2, found.3, found.4, found.5)
  ]

  pub in-callers_at : (xs : List Caller) (all : Each (λ c. IsEdgeOf facts c.call × IsEdgeOf facts c.back) xs) (c : Caller) → IsIn c xs
      → (e : Edge facts) → e.from ≡ c.call_node → e.edge ≡ c.call
      → (f : Edge facts) × IsIn {T = Edge facts × Edge facts} (e, f) (callers_at facts n xs all) × (f.from ≡ n) × (f.edge ≡ c.back)
  in-callers_at [] all c none e from is = elim (not-in-empty none) [ ]
  in-callers_at (x ∷ xs) all c first e from is =
      let back : Edge facts = record { from = n; edge = x.back; lawful = all.0.1.lawful; counted = all.0.1.counted } in (
        back,
        subst (λ g. IsIn {T = Edge facts × Edge facts} (g, back) (callers_at facts n (x ∷ xs) all))
            (sym (same-edge e (record { from = x.call_node; edge = x.call; lawful = all.0.0.lawful; counted = all.0.0.counted }) from is)) first,
        refl,
        refl,
      )
  in-callers_at (x ∷ xs) all c (later rest) e from is =
      let found : (f : Edge facts) × IsIn {T = Edge facts × Edge facts} (e, f) (callers_at facts n xs all.1) × (f.from ≡ n) × (f.edge ≡ c.back) =
      in-callers_at xs all.1 c rest e from is in
      (found.0, later found.1, found.2, found.3)

  -- a site of the node, with what it has
  abbrev pub SiteWith : Option Site → (Site → Type 0) → Type 0
  SiteWith o P = (s : Site) × (o ≡ Some s) × P s

  pub of-flat : (o : Option Site) (all : (s : Site) → o ≡ Some s → HasLawfulEdges facts s) (e : Edge facts) → IsIn e (edges_found facts n o all).flat
      → (e.from ≡ n) × SiteWith o (λ s. HasFlat s e.edge)
  of-flat None all e is = elim (not-in-empty is) [ ]
  of-flat (Some (Normal edges)) all e is =
      let found : (e.from ≡ n) × IsIn e.edge edges = of-edges_from edges (all (Normal edges) refl) e is in
      (found.0, (Normal edges, refl, contains-in found.1))
  of-flat (Some (Call calls along)) all e is = (ap (λ f. f.from) (in-one is), (Call calls along, refl, ap (λ f. f.edge) (in-one is)))
  of-flat (Some (Exit start callers)) all e is = elim (not-in-empty is) [ ]

  pub of-calls : (o : Option Site) (all : (s : Site) → o ≡ Some s → HasLawfulEdges facts s) (e : Edge facts) → IsIn e (edges_found facts n o all).calls
      → (e.from ≡ n) × SiteWith o (λ s. HasCall s e.edge)
  of-calls None all e is = elim (not-in-empty is) [ ]
  of-calls (Some (Normal edges)) all e is = elim (not-in-empty is) [ ]
  of-calls (Some (Call calls along)) all e is =
      let found : (e.from ≡ n) × IsIn e.edge calls = of-edges_from calls (all (Call calls along) refl).0 e is in
      (found.0, (Call calls along, refl, contains-in found.1))
  of-calls (Some (Exit start callers)) all e is = elim (not-in-empty is) [ ]

  pub in-calls : (o : Option Site) (all : (s : Site) → o ≡ Some s → HasLawfulEdges facts s) (e : Edge facts) → e.from ≡ n
      → SiteWith o (λ s. HasCall s e.edge) → IsIn e (edges_found facts n o all).calls
  in-calls None all e from with_it = elim (none-some with_it.1) [ ]
  in-calls (Some (Normal edges)) all e from with_it = elim (subst (λ s. HasCall s e.edge) (sym (some-inj with_it.1)) with_it.2) [ ]
  in-calls (Some (Call calls along)) all e from with_it =
      in-edges_from calls (all (Call calls along) refl).0 e from e.edge refl
      (in-contains calls e.edge (subst (λ s. HasCall s e.edge) (sym (some-inj with_it.1)) with_it.2))
  in-calls (Some (Exit start callers)) all e from with_it = elim (subst (λ s. HasCall s e.edge) (sym (some-inj with_it.1)) with_it.2) [ ]

  -- each call of the site is one of those listed
  pub call-listed : (o : Option Site) (all : (s : Site) → o ≡ Some s → HasLawfulEdges facts s) (d : EdgeData) → SiteWith o (λ s. HasCall s d)
      → (e : Edge facts) × IsIn e (edges_found facts n o all).calls × (e.edge ≡ d)
  call-listed None all d with_it = elim (none-some with_it.1) [ ]
  call-listed (Some (Normal edges)) all d with_it = elim (subst (λ s. HasCall s d) (sym (some-inj with_it.1)) with_it.2) [ ]
  call-listed (Some (Call calls along)) all d with_it =
      edge-listed calls (all (Call calls along) refl).0 d (in-contains calls d (subst (λ s. HasCall s d) (sym (some-inj with_it.1)) with_it.2))
  call-listed (Some (Exit start callers)) all d with_it = elim (subst (λ s. HasCall s d) (sym (some-inj with_it.1)) with_it.2) [ ]

  pub of-sites : (o : Option Site) (all : (s : Site) → o ≡ Some s → HasLawfulEdges facts s) (m : ℕ) → IsIn m (edges_found facts n o all).return_sites
      → SiteWith o (λ s. ReturnsTo s m)
  of-sites None all m is = elim (not-in-empty is) [ ]
  of-sites (Some (Normal edges)) all m is = elim (not-in-empty is) [ ]
  of-sites (Some (Call calls along)) all m is = (Call calls along, refl, in-one is)
  of-sites (Some (Exit start callers)) all m is = elim (not-in-empty is) [ ]

  pub in-sites : (o : Option Site) (all : (s : Site) → o ≡ Some s → HasLawfulEdges facts s) (m : ℕ) → SiteWith o (λ s. ReturnsTo s m)
      → IsIn m (edges_found facts n o all).return_sites
  in-sites None all m with_it = elim (none-some with_it.1) [ ]
  in-sites (Some (Normal edges)) all m with_it = elim (subst (λ s. ReturnsTo s m) (sym (some-inj with_it.1)) with_it.2) [ ]
  in-sites (Some (Call calls along)) all m with_it =
      subst (λ k. IsIn k (along.end ∷ [])) (sym (subst (λ s. ReturnsTo s m) (sym (some-inj with_it.1)) with_it.2)) first
  in-sites (Some (Exit start callers)) all m with_it = elim (subst (λ s. ReturnsTo s m) (sym (some-inj with_it.1)) with_it.2) [ ]

  pub of-callers : (o : Option Site) (all : (s : Site) → o ≡ Some s → HasLawfulEdges facts s) (e f : Edge facts)
      → IsIn {T = Edge facts × Edge facts} (e, f) (edges_found facts n o all).callers
      → (c : Caller) × SiteWith o (λ s. HasCaller s c) × (e.from ≡ c.call_node) × (e.edge ≡ c.call) × (f.from ≡ n) × (f.edge ≡ c.back)
  of-callers None all e f is = elim (not-in-empty is) [ ]
  of-callers (Some (Normal edges)) all e f is = elim (not-in-empty is) [ ]
  of-callers (Some (Call calls along)) all e f is = elim (not-in-empty is) [ ]
  of-callers (Some (Exit start callers)) all e f is =
      let found : (c : Caller) × IsIn c callers × (e.from ≡ c.call_node) × (e.edge ≡ c.call) × (f.from ≡ n) × (f.edge ≡ c.back) =
      of-callers_at callers (all (Exit start callers) refl) e f is in
      (found.0, (Exit start callers, refl, contains-in found.1), found.2, found.3, found.4, found.5)

  pub in-callers : (o : Option Site) (all : (s : Site) → o ≡ Some s → HasLawfulEdges facts s) (c : Caller) → SiteWith o (λ s. HasCaller s c)
      → (e : Edge facts) → e.from ≡ c.call_node → e.edge ≡ c.call
      → (f : Edge facts) × IsIn {T = Edge facts × Edge facts} (e, f) (edges_found facts n o all).callers × (f.from ≡ n) × (f.edge ≡ c.back)
  in-callers None all c with_it e from is = elim (none-some with_it.1) [ ]
  in-callers (Some (Normal edges)) all c with_it e from is = elim (subst (λ s. HasCaller s c) (sym (some-inj with_it.1)) with_it.2) [ ]
  in-callers (Some (Call calls along)) all c with_it e from is = elim (subst (λ s. HasCaller s c) (sym (some-inj with_it.1)) with_it.2) [ ]
  in-callers (Some (Exit start callers)) all c with_it e from is =
      in-callers_at callers (all (Exit start callers) refl) c
      (in-contains callers c (subst (λ s. HasCaller s c) (sym (some-inj with_it.1)) with_it.2)) e from is

module _ (facts : ℕ) (sites : List Site) (all : HaveEdgesOf facts sites) (start_of : ℕ → ℕ) (joined : AreJoined sites start_of) where
  abbrev G : Edges
  G = edges_of facts sites all start_of

  abbrev at : ℕ → NodeEdges (Edge facts)
  at = node_edges facts sites all

  in-nodes : (n : ℕ) {P : Site → Type 0} → SiteWith facts n (slice_get sites n) P → IsIn n (range_with_len 0 (length sites))
  in-nodes n with_it = in-range_below (length sites) n (slice_get_within sites n with_it.0 with_it.1)

  -- a flat edge of the graph stands at its node
  flat-stands : (e : Edge facts) → IsIn e G.flat → IsIn e (at e.from).flat
  flat-stands e is =
      let found : (n : ℕ) × IsIn n (range_with_len 0 (length sites)) × IsIn e (at n).flat = of-flat_map (λ n. (at n).flat) (range_with_len 0 (length sites)) is in
      let from : e.from ≡ found.0 = (of-flat facts found.0 (slice_get sites found.0) (all found.0) e found.2).0 in
      subst (λ n. IsIn e (at n).flat) (sym from) found.2

  flat-is : (n : ℕ) (e : Edge facts) → IsIn e (at n).flat → IsIn e G.flat × (e.from ≡ n)
  flat-is n e is =
      let found : (e.from ≡ n) × SiteWith facts n (slice_get sites n) (λ s. HasFlat s e.edge) = of-flat facts n (slice_get sites n) (all n) e is in
      (in-flat_map (λ k. (at k).flat) (in-nodes n found.1) is, found.0)

  -- a call with its return edge: the caller at an exit, and the call at its node
  pub record IsCaller (call ret : Edge facts) : Type 0 where
    pub site : Site
    pub caller : Caller
    pub stands : slice_get sites ret.from ≡ Some site
    pub has : HasCaller site caller
    pub from : call.from ≡ caller.call_node
    pub call_is : call.edge ≡ caller.call
    pub back_is : ret.edge ≡ caller.back

  caller-of : (call ret : Edge facts) → AreMatched G call ret → IsCaller call ret
  caller-of call ret is =
      let found : (n : ℕ) × IsIn n (range_with_len 0 (length sites)) × IsIn {T = Edge facts × Edge facts} (call, ret) (at n).callers =
      of-flat_map (λ n. (at n).callers) (range_with_len 0 (length sites)) is in
      let it : (c : Caller) × SiteWith facts found.0 (slice_get sites found.0) (λ s. HasCaller s c) × (call.from ≡ c.call_node) × (call.edge ≡ c.call) × (ret.from ≡ found.0) × (ret.edge ≡ c.back) =
      of-callers facts found.0 (slice_get sites found.0) (all found.0) call ret found.2 in
      record {
        site = it.1.0;
        caller = it.0;
        stands = subst (λ n. slice_get sites n ≡ Some it.1.0) (sym it.4) it.1.1;
        has = it.1.2;
        from = it.2;
        call_is = it.3;
        back_is = it.5;
      }

  caller-is : (n : ℕ) (call ret : Edge facts) → IsIn {T = Edge facts × Edge facts} (call, ret) (at n).callers → AreMatched G call ret × (ret.from ≡ n)
  caller-is n call ret is =
      let it : (c : Caller) × SiteWith facts n (slice_get sites n) (λ s. HasCaller s c) × (call.from ≡ c.call_node) × (call.edge ≡ c.call) × (ret.from ≡ n) × (ret.edge ≡ c.back) =
      of-callers facts n (slice_get sites n) (all n) call ret is in
      (in-flat_map (λ k. (at k).callers) (in-nodes n it.1) is, it.4)

  caller-stands : (call ret : Edge facts) → AreMatched G call ret → IsIn {T = Edge facts × Edge facts} (call, ret) (at ret.from).callers
  caller-stands call ret is =
      let found : (n : ℕ) × IsIn n (range_with_len 0 (length sites)) × IsIn {T = Edge facts × Edge facts} (call, ret) (at n).callers =
      of-flat_map (λ n. (at n).callers) (range_with_len 0 (length sites)) is in
      subst (λ n. IsIn {T = Edge facts × Edge facts} (call, ret) (at n).callers) (sym (caller-is found.0 call ret found.2).1) found.2

  left-of : (call ret : Edge facts) (is : IsCaller call ret) → IsLeft sites start_of ret.from is.caller
  left-of call ret is = joined.left ret.from is.site is.caller is.stands is.has

  -- the site of a call's node has the call, and returns where its return edge ends
  call-site : (call ret : Edge facts) → AreMatched G call ret
      → (s : Site) × (slice_get sites call.from ≡ Some s) × HasCall s call.edge × ReturnsTo s ret.edge.end
  call-site call ret is =
      let it : IsCaller call ret = caller-of call ret is in
      let left : IsLeft sites start_of ret.from it.caller = left-of call ret it in (
        left.site,
        subst (λ n. slice_get sites n ≡ Some left.site) (sym it.from) left.stands,
        subst (HasCall left.site) (sym it.call_is) left.has,
        subst (λ d. ReturnsTo left.site d.end) (sym it.back_is) left.returns,
      )

  -- a call at a site has an exit from which it is left
  call-is : (n : ℕ) (e : Edge facts) → IsIn e (at n).calls → ((ret : Edge facts) × AreMatched G e ret) × (e.from ≡ n)
  call-is n e is =
      let found : (e.from ≡ n) × SiteWith facts n (slice_get sites n) (λ s. HasCall s e.edge) = of-calls facts n (slice_get sites n) (all n) e is in
      let entered : IsEntered sites n e.edge = joined.entered n found.1.0 e.edge found.1.1 found.1.2 in
      let back : (f : Edge facts) × IsIn {T = Edge facts × Edge facts} (e, f) (at entered.exit).callers × (f.from ≡ entered.exit) × (f.edge ≡ entered.caller.back) =
      in-callers facts entered.exit (slice_get sites entered.exit) (all entered.exit) entered.caller (entered.site, entered.stands, entered.has)
      e (found.0 ∙ sym entered.node) (sym entered.call) in
      ((back.0, (caller-is entered.exit e back.0 back.1).0), found.0)

  same-site : (s t : Site) (a b : ℕ) → s ≡ t → ReturnsTo s a → ReturnsTo t b → a ≡ b
  same-site s t a b same at_s at_t = one t a b (subst (λ u. ReturnsTo u a) same at_s) at_t
    where
      one : (t : Site) (a b : ℕ) → ReturnsTo t a → ReturnsTo t b → a ≡ b
      one (Normal edges) a b none also = elim none [ ]
      one (Call calls along) a b is also = is ∙ sym also
      one (Exit start callers) a b none also = elim none [ ]

  pub joined-graph : IsGraph G
  joined-graph = record {
    flat = λ e is.
        let found : (e.from ≡ e.from) × SiteWith facts e.from (slice_get sites e.from) (λ s. HasFlat s e.edge) =
        of-flat facts e.from (slice_get sites e.from) (all e.from) e (flat-stands e is) in
        joined.flat e.from found.1.0 e.edge found.1.1 found.1.2;
    back = λ call ret is.
        let it : IsCaller call ret = caller-of call ret is in
        let left : IsLeft sites start_of ret.from it.caller = left-of call ret it in
        ap (λ d. start_of d.end) it.back_is ∙ left.back ∙ ap start_of (sym it.from);
    callee = λ call ret is.
        let site : (s : Site) × (slice_get sites call.from ≡ Some s) × HasCall s call.edge × ReturnsTo s ret.edge.end = call-site call ret is in
        joined.callee call.from site.0 call.edge site.1 site.2;
    exit = λ call ret is.
        let it : IsCaller call ret = caller-of call ret is in
        (left-of call ret it).exit ∙ ap (λ d. d.end) (sym it.call_is);
    one_site = λ call ret other back is also from.
        let one : (s : Site) × (slice_get sites call.from ≡ Some s) × HasCall s call.edge × ReturnsTo s ret.edge.end = call-site call ret is in
        let two : (s : Site) × (slice_get sites other.from ≡ Some s) × HasCall s other.edge × ReturnsTo s back.edge.end = call-site other back also in
        same-site one.0 two.0 ret.edge.end back.edge.end (some-inj (sym one.1 ∙ ap (slice_get sites) from ∙ two.1)) one.3 two.3;
  }

  pub joined-edges : {L F : Type 0} (lattice : LatticeAlgebra L) (functions : EdgeAlgebra F L) (targets : Targets F)
      → AreEdgesOf (frame_of lattice functions targets G) at
  joined-edges lattice functions targets = record {
    has_flat = flat-stands;
    has_call = λ e call.
        let site : (s : Site) × (slice_get sites e.from ≡ Some s) × HasCall s e.edge × ReturnsTo s call.0.edge.end = call-site e call.0 call.1 in
        in-calls facts e.from (slice_get sites e.from) (all e.from) e refl (site.0, site.1, site.2);
    has_site = λ call ret is.
        let site : (s : Site) × (slice_get sites call.from ≡ Some s) × HasCall s call.edge × ReturnsTo s ret.edge.end = call-site call ret is in
        in-sites facts call.from (slice_get sites call.from) (all call.from) ret.edge.end (site.0, site.1, site.3);
    has_caller = caller-stands;
    is_flat = flat-is;
    is_call = call-is;
    is_site = λ n m is.
        let found : SiteWith facts n (slice_get sites n) (λ s. ReturnsTo s m) = of-sites facts n (slice_get sites n) (all n) m is in
        between n m found;
    is_caller = caller-is;
  }
    where
      between : (n m : ℕ) → SiteWith facts n (slice_get sites n) (λ s. ReturnsTo s m) → CallBetween (frame_of lattice functions targets G) n m
      between n m found =
          let some : (d : EdgeData) × HasCall found.0 d = joined.some n found.0 m found.1 found.2 in
          let listed : (e : Edge facts) × IsIn e (at n).calls × (e.edge ≡ some.0) =
          call-listed facts n (slice_get sites n) (all n) some.0 (found.0, found.1, some.1) in
          let call : ((ret : Edge facts) × AreMatched G listed.0 ret) × (listed.0.from ≡ n) = call-is n listed.0 listed.1 in
          let site : (s : Site) × (slice_get sites listed.0.from ≡ Some s) × HasCall s listed.0.edge × ReturnsTo s call.0.0.edge.end =
          call-site listed.0 call.0.0 call.0.1 in
          record {
            call = listed.0;
            ret = call.0.0;
            matched = call.0.1;
            leaves = call.1;
            returns = same-site site.0 found.0 call.0.0.edge.end m (some-inj (sym site.1 ∙ ap (slice_get sites) call.1 ∙ found.1)) site.3 found.2;
          }
