-- What an answer about a variable at a place means.
use Rattle.std.specs.Prelude.{ℕ, Bool, List, [], ◌∷◌, if◌then◌else◌}
use Rattle.ide_graph.specs.GraphOfText.{IsGraphOfText}
use Rattle.ide_graph.specs.Supergraph.{Supergraph, IsFoundAt}
use Rattle.ide_solver.specs.Solve.{AreRootNames}
use Rattle.ide_theory.specs.Best.{IsBest}
use Rattle.ide_theory.specs.Graphs.{frame_at, roots_at}
use Rattle.ide_theory.specs.Sites.{HaveEdgesOf}
use Rattle.ide_example.specs.Carry.{carries}
use Rattle.ide_example.specs.Inputs.{inputs_targets}
use Rattle.ide_example.specs.Origin.{origins}
use Rattle.ide_example.specs.declared.asked.Place.{Place}
use Rattle.ide_example.specs.declared.origin.Origin.{Origin}
use Rattle.ide_example.specs.declared.origin.Origin.TheVariants.{Program, Input}

-- the origin that an answer tells
abbrev pub origin_told : Bool → Origin
origin_told answer = if answer then Input else Program

-- the origin that the answer tells is the best one, over all paths from the root of the program that the
-- text spells, for the variable at the place
pub record IsAnswer (text root : List ℕ) (place : Place) (answer : Bool) : Type 0 where
  pub graph : Supergraph
  pub spelled : IsGraphOfText text graph
  pub roots : List ℕ
  pub named : AreRootNames graph [] (root ∷ []) roots
  pub node : ℕ
  pub fact : ℕ
  pub found : IsFoundAt graph place.procedure.now place.position place.variable.now node fact
  pub all : HaveEdgesOf graph.facts graph.sites
  pub best : IsBest (frame_at origins carries inputs_targets graph all) (roots_at origins carries inputs_targets graph all roots) node fact (origin_told answer)
