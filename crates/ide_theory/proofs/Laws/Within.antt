-- Keys stay at the nodes of a graph in each step of a run, where its edges end at nodes and its
-- procedures begin at them.
use Rattle.std.proofs.Common.{◌≡◌, ℕ, ◌<◌, ◌⊎◌, true, List, Option, Some, ap, sym, subst, refl, ◌∙◌, inl, inr}
use Rattle.std.specs.Prelude.{slice_get}
use Rattle.ide_graph.specs.declared.edge.EdgeData.{EdgeData}
use Rattle.ide_graph.specs.declared.site.Site.{Site}
use Rattle.ide_graph.specs.declared.site.Site.TheVariants.{Normal, Call, Exit}
use Rattle.ide_graph.specs.Ends.{AreEndsNodes}
use Rattle.ide_graph.specs.Joined.{AreJoined, HasFlat, HasCall, ReturnsTo, start_at}
use Rattle.ide_graph.specs.Supergraph.{Supergraph}
use Rattle.ide_lattice.specs.Algebra.{LatticeAlgebra, EdgeAlgebra}
use Rattle.ide_problem.specs.Flow.{Targets}
use Rattle.ide_wire.specs.declared.key.Key.{Key}
use Rattle.ide_wire.specs.declared.key.Key.TheVariants.{Jump}
use Rattle.ide_theory.specs.Frame.{Frame}
use Rattle.ide_theory.specs.Graphs.{frame_at}
use Rattle.ide_theory.specs.Given.{Edge}
use Rattle.ide_theory.specs.Image.{function_of, Instance, flat, seed, after, summarised}
use Rattle.ide_theory.specs.Member.{IsIn, first}
use Rattle.ide_theory.specs.Parts.{AreEdgesOf}
use Rattle.ide_theory.specs.Run.{Step, claim, skip, lower, release, finish, root, Run, begins, goes_on}
use Rattle.ide_theory.specs.Sites.{HaveEdgesOf, node_edges}
use Rattle.ide_theory.specs.State.{Claim, State, nothing_done, without_first, claim_marked, new_claim, part_done, with_function, lowered_in_frame}
use Rattle.ide_theory.specs.Within.{AreAllWithin, IsPlaced, is_call, is_some_call}
use Rattle.ide_theory.proofs.Laws.Changes.{key-tells, none-some, map-tells, left-with, left-without, left-done}
use Rattle.ide_theory.proofs.Laws.Kept.{in-rest}
use Rattle.ide_theory.proofs.Laws.Sites.{SiteWith, of-flat, of-calls, of-sites, joined-edges}

-- the edges of the frame end at nodes, calls leave call nodes, and what is its own start is a node
pub record AreNodesOf (K : Frame) (G : Supergraph) : Type 0 where
  pub flat : (e : K.graph.Edge) → K.graph.IsFlat e → K.graph.to e < G.nodes
  pub call : (e : K.graph.Edge) → K.graph.IsCall e → K.graph.to e < G.nodes
  pub back : (call ret : K.graph.Edge) → K.graph.Matched call ret → K.graph.to ret < G.nodes
  pub from : (call ret : K.graph.Edge) → K.graph.Matched call ret → is_some_call (slice_get G.sites (K.graph.from call)) ≡ true
  pub start : (n : ℕ) → K.graph.start_of n ≡ n → n < G.nodes

module _ (K : Frame) (G : Supergraph) (has : AreNodesOf K G) where
  open K use {F, functions as B}

  within-instance : (get : Key → Option F) {ks : List Key} {k : Key} {g : F} → Instance K get ks k g → IsPlaced G k
  within-instance get (flat e a b c f g is_flat same is) = has.flat e is_flat
  within-instance get (seed e a b c f g is_call same is) = has.call e is_call
  within-instance get (after call ret a b d f s matched same passed) = has.back call ret matched
  within-instance get (summarised call ret a b c d g f h matched is same out) = has.from call ret matched

  within-done : (s : State F) → AreAllWithin G s → (h : ℕ) → AreAllWithin G (part_done s h)
  within-done s all h = record {
    keys = all.keys;
    parts = λ j d left k g part.
        let was : (e : Claim F) × (s.claims j ≡ Some e) × ((e ≡ d) ⊎ (without_first e ≡ d)) = left-done s h j d left in
        all.parts j was.0 was.1 k g (elim (was.2) [
          | inl same ↦ subst (IsIn {T = Key × F} (k, g)) (sym (ap (λ e. e.parts) same)) part
          | inr same ↦ in-rest (was.0.parts) (subst (IsIn {T = Key × F} (k, g)) (sym (ap (λ e. e.parts) same)) part)
        ]);
  }

  within-with : (s : State F) → AreAllWithin G s → (t : Key) (f : F) → IsPlaced G t → AreAllWithin G (with_function s t f)
  within-with s all t f within = record {
    keys = λ k g same. elim (key-tells s.get t (Some f) k) [
      | inl here ↦ subst (IsPlaced G) here.0 within
      | inr other ↦ all.keys k g (sym other.1 ∙ same)
    ];
    parts = λ j c left k g part.
        let was : (e : Claim F) × (s.claims j ≡ Some e) × (claim_marked t e ≡ c) = map-tells (claim_marked t) (s.claims j) left in
        all.parts j was.0 was.1 k g (subst (IsIn {T = Key × F} (k, g)) (sym (ap (λ e. e.parts) was.2)) part);
  }

  within-step : {s t : State F} → Step K s t → AreAllWithin G s → AreAllWithin G t
  within-step (claim {s = s} h q parts free waits alone owes) all = record {
    keys = all.keys;
    parts = λ j c left k g part. elim (left-with s h (new_claim q parts) j c left) [
      | inl own ↦
          let from_rule : (ks : List Key) × Instance K s.get ks k g =
          owes.right k g (subst (IsIn {T = Key × F} (k, g)) (sym (ap (λ e. e.parts) own.1)) part) in
          within-instance s.get from_rule.1
      | inr other ↦ all.parts j c other.1 k g part
    ];
  }
  within-step (skip {s = s} h c t f rest mine parts met) all = within-done s all h
  within-step (lower {s = s} h c t f rest mine parts changes) all =
      within-done (lowered_in_frame K s t f)
      (within-with s all t (B.meet (function_of K s.get t) f) (all.parts h c mine t f (subst (IsIn {T = Key × F} (t, f)) (sym parts) first))) h
  within-step (release {s = s} h c mine) all = record { keys = all.keys; parts = λ j d left. all.parts j d (left-without s h j d left).1 }
  within-step (finish {s = s} h c mine none) all = record { keys = all.keys; parts = λ j d left. all.parts j d (left-without s h j d left).1 }
  within-step (root {s = s} r d is_start in_range absent) all = within-with s all (Jump r d d) B.id (has.start r is_start)

  within-empty : AreAllWithin G (nothing_done F)
  within-empty = record { keys = λ k f same. elim (none-some same) [ ]; parts = λ h c mine k g part. elim (none-some mine) [ ] }

  pub within-run : {s : State F} → Run K s → AreAllWithin G s
  within-run begins = within-empty
  within-run (goes_on run step) = within-step step (within-run run)

-- calls at a site return to the end of its edge along the procedure
returned : (s : Site) (m : ℕ) → ReturnsTo s m → (e : EdgeData) × HasFlat s e × (m ≡ e.end)
returned (Normal edges) m none = elim none [ ]
returned (Call calls along) m is = (along, refl, is)
returned (Exit start callers) m none = elim none [ ]

-- and it is the site of a call node
is-call : (s : Site) (m : ℕ) → ReturnsTo s m → is_call s ≡ true
is-call (Normal edges) m none = elim none [ ]
is-call (Call calls along) m is = refl
is-call (Exit start callers) m none = elim none [ ]

module _ {L F : Type 0} (A : LatticeAlgebra L) (B : EdgeAlgebra F L) (targets : Targets F) (graph : Supergraph)
    (all : HaveEdgesOf graph.facts graph.sites) (joined : AreJoined graph.sites (start_at graph)) (ends : AreEndsNodes graph) where
  abbrev K : Frame
  K = frame_at A B targets graph all

  edges : AreEdgesOf K (node_edges graph.facts graph.sites all)
  edges = joined-edges graph.facts graph.sites all (start_at graph) joined A B targets

  -- the site of a call's node, which has an edge along the procedure that ends where the call returns
  return-site : (call ret : Edge graph.facts) → K.graph.Matched call ret → SiteWith graph.facts call.from (slice_get graph.sites call.from) (λ s. ReturnsTo s ret.edge.end)
  return-site call ret matched =
      of-sites graph.facts call.from (slice_get graph.sites call.from) (all call.from) ret.edge.end (edges.has_site call ret matched)

  pub nodes-of : AreNodesOf K graph
  nodes-of = record {
    flat = λ e is_flat.
        let found : SiteWith graph.facts e.from (slice_get graph.sites e.from) (λ s. HasFlat s e.edge) =
        (of-flat graph.facts e.from (slice_get graph.sites e.from) (all e.from) e (edges.has_flat e is_flat)).1 in
        ends.flat e.from found.0 e.edge found.1 found.2;
    call = λ e is_call.
        let found : SiteWith graph.facts e.from (slice_get graph.sites e.from) (λ s. HasCall s e.edge) =
        (of-calls graph.facts e.from (slice_get graph.sites e.from) (all e.from) e (edges.has_call e is_call)).1 in
        ends.call e.from found.0 e.edge found.1 found.2;
    back = λ call ret matched.
        let found : SiteWith graph.facts call.from (slice_get graph.sites call.from) (λ s. ReturnsTo s ret.edge.end) = return-site call ret matched in
        let along : (e : EdgeData) × HasFlat found.0 e × (ret.edge.end ≡ e.end) = returned found.0 ret.edge.end found.2 in
        subst (λ m. m < graph.nodes) (sym along.2) (ends.flat call.from found.0 along.0 found.1 along.1);
    from = λ call ret matched.
        let found : SiteWith graph.facts call.from (slice_get graph.sites call.from) (λ s. ReturnsTo s ret.edge.end) = return-site call ret matched in
        ap is_some_call found.1 ∙ is-call found.0 ret.edge.end found.2;
    start = ends.start;
  }
