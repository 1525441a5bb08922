-- Values that follow from start values are best, where a run came to the tables.
use Rattle.std.proofs.Common.{◌≡◌, ℕ, Bool, true, false, cond, List, [], ◌∷◌, inl, inr, map, ap, sym, subst, ◌∙◌}
use Rattle.std.specs.Prelude.{IsTrue, nat_lt, slice_index}
use Rattle.ide_graph.specs.Closed.{GraphsOfProgramsAreClosed}
use Rattle.ide_graph.specs.Joined.{AreJoined, SitesOfProgramsAreJoined, start_at}
use Rattle.ide_graph.specs.Supergraph.{Supergraph}
use Rattle.ide_lattice.specs.Algebra.{LatticeAlgebra, EdgeAlgebra}
use Rattle.ide_lattice.specs.Laws.{IsLattice}
use Rattle.ide_problem.specs.Flow.{Targets}
use Rattle.ide_image.specs.Tables.{found}
use Rattle.ide_theory.specs.Best.{IsBest}
use Rattle.ide_theory.specs.Frame.{AreRoots}
use Rattle.ide_theory.specs.Given.{Edges, IsGraph}
use Rattle.ide_theory.specs.Graphs.{frame_at, roots_at}
use Rattle.ide_theory.specs.Member.{IsIn, first, later}
use Rattle.ide_theory.specs.Reached.{IsRunOf}
use Rattle.ide_theory.specs.Sites.{HaveEdgesOf, edges_of}
use Rattle.ide_theory.specs.Theorem.{RunsAreBest, RunsAreSound, SitesMakeAGraph}
use Rattle.ide_theory.specs.Value.{IsStarted, value_at}
use Rattle.ide_values.specs.Best.{FollowingValuesAreBest}
use Rattle.ide_values.specs.Closed.{IsRooted}
use Rattle.ide_values.specs.Fill.{IsImage}
use Rattle.ide_values.proofs.Edges.{first_or, none_in}

-- what holds of each element's value holds of each in the list of values
each_mapped : (f : ℕ → ℕ) (P : ℕ → Type 0) (xs : List ℕ) → ((x : ℕ) → IsIn x xs → P (f x)) → (y : ℕ) → IsIn y (map f xs) → P y
each_mapped f P [] each y is = elim (none_in is) [ ]
each_mapped f P (x ∷ xs) each y is = elim (first_or is) [
  | inl same ↦ subst P (sym same) (each x first)
  | inr rest ↦ each_mapped f P xs (λ z there. each z (later there)) y rest
]

module _ {F L : Type 0} (A : LatticeAlgebra L) (laws : IsLattice A) (B : EdgeAlgebra F L) (targets : Targets F) where
  either : (b : Bool) → IsTrue (A.proper (cond b A.bottom A.top))
  either true = laws.proper_bottom
  either false = laws.proper_top

  -- the starts of a closed graph's procedures are roots, with proper entries
  are_roots : (graph : Supergraph) (all : HaveEdgesOf graph.facts graph.sites) (roots : List ℕ) → IsRooted graph roots
      → AreRoots (frame_at A B targets graph all) (roots_at A B targets graph all roots)
  are_roots graph all roots closed = record {
    start = each_mapped (slice_index graph.starts) (λ r. start_at graph r ≡ r) roots
        (λ i is. ap (slice_index graph.starts) (closed.is_closed.home i (closed.rooted i is)));
    proper = λ k h. either (nat_lt k graph.entries);
  }

  pub following_best : RunsAreBest A B targets → RunsAreSound A B targets → SitesMakeAGraph A B targets → SitesOfProgramsAreJoined → GraphsOfProgramsAreClosed
      → FollowingValuesAreBest A B targets
  following_best best sound make joined closed graph roots table values follow p of all solved n d h k =
      let joint : AreJoined graph.sites (start_at graph) = joined p graph of.numbered of.edges in
      let rooted : IsRooted graph roots = record { is_closed = closed p graph of.numbered of.edges; rooted = of.rooted } in
      let G : Edges = edges_of graph.facts graph.sites all (start_at graph) in
      let is : IsGraph G = (make graph.facts graph.sites all (start_at graph) joint).0 in
      let run : IsRunOf (frame_at A B targets graph all) solved.state = sound G is solved.state solved.run in
      let image : IsImage B graph (found table) = record {
        facts = λ key f there. run.ranged.keys key f (ap (λ get. get key) solved.image ∙ there);
        proper = λ key f there. run.proper key f (ap (λ get. get key) solved.image ∙ there);
      } in
      let (start, started, same) = follow.started all joint rooted image in
      let begun : IsStarted (frame_at A B targets graph all) (roots_at A B targets graph all roots) solved.state.get start =
      subst (λ get. IsStarted (frame_at A B targets graph all) (roots_at A B targets graph all roots) get start) (sym solved.image) started in
      let value : IsBest (frame_at A B targets graph all) (roots_at A B targets graph all roots) n d (value_at (frame_at A B targets graph all) solved.state.get start n d) =
      best G is (map (slice_index graph.starts) roots) (λ k. cond (nat_lt k graph.entries) A.bottom A.top) (are_roots graph all roots rooted)
      solved.state solved.run solved.quiet solved.begun start begun n d k in
      subst (IsBest (frame_at A B targets graph all) (roots_at A B targets graph all roots) n d)
      (ap (λ get. value_at (frame_at A B targets graph all) get start n d) solved.image ∙ sym (same n d h k)) value
