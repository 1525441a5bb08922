-- Rows that are filled from start values follow from them.
use Rattle.std.proofs.Common.{◌∙◌, ℕ, List}
use Rattle.std.proofs.lemmas.List.Elements.{All-from_get_or}
use Rattle.std.specs.List.{All}
use Rattle.std.specs.Prelude.{IsTrue}
use Rattle.ide_graph.specs.Joined.{AreJoined, start_at}
use Rattle.ide_graph.specs.Supergraph.{Supergraph}
use Rattle.ide_lattice.specs.Algebra.{LatticeAlgebra, EdgeAlgebra}
use Rattle.ide_lattice.specs.Laws.{IsLattice, IsEdgeAlgebra}
use Rattle.ide_problem.specs.Flow.{IsFlow, Targets}
use Rattle.ide_image.specs.Tables.{Table}
use Rattle.ide_theory.specs.Graphs.{frame_at}
use Rattle.ide_theory.specs.Parts.{AreEdgesOf}
use Rattle.ide_theory.specs.Sites.{HaveEdgesOf, node_edges}
use Rattle.ide_values.specs.Closed.{FollowFrom}
use Rattle.ide_values.specs.Fill.{Fills}
use Rattle.ide_values.specs.Settled.{AreStarts}
use Rattle.ide_values.specs.Start.{start_value}
use Rattle.ide_values.proofs.Sound.{IsSound, sound_comes, sound_entered}
use Rattle.ide_values.proofs.Started.{follows, is_started}

module _ {F L : Type 0} (A : LatticeAlgebra L) (laws : IsLattice A) (B : EdgeAlgebra F L) (functions : IsEdgeAlgebra A B)
    (targets : Targets F) (flow : IsFlow B targets) (graph : Supergraph) (table : Table F) (roots : List ℕ)
    (has : (all : HaveEdgesOf graph.facts graph.sites) → AreJoined graph.sites (start_at graph)
    → AreEdgesOf (frame_at A B targets graph all) (node_edges graph.facts graph.sites all)) where
  pub rows_follow : (starts rows : List L) → AreStarts A B targets graph table roots starts → Fills A B graph table starts rows
      → FollowFrom A B targets graph table roots rows
  rows_follow starts rows are fills = record {
    started = λ all joined closed image.
        let edges : AreEdgesOf (frame_at A B targets graph all) (node_edges graph.facts graph.sites all) = has all joined in
        let sound : IsSound A laws B functions targets flow graph table roots all joined edges closed image starts =
        sound_comes A laws B functions targets flow graph table roots all joined edges closed image are.comes
        (sound_entered A laws B functions targets flow graph table roots all joined edges closed image) in
        let proper : All (λ v. IsTrue (A.proper v)) starts =
        All-from_get_or (λ v. IsTrue (A.proper v)) starts A.top (λ i h. sound.proper i) in (
          start_value A graph starts,
          is_started A laws B functions targets flow graph table roots all joined edges closed image starts sound are.steady,
          λ n d h k. fills image proper n d h k ∙ follows A laws B functions targets flow graph table roots all joined edges closed image starts sound are.steady n d h,
        );
  }
