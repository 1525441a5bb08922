-- What an image answers over the graph of its program, and how little work it took.
use Rattle.std.specs.Prelude.{◌≡◌, ◌≢◌, ℕ, ◌+◌, ◌*◌, ◌<◌, ◌≤◌, List}
use Rattle.ide_batch.specs.Fold.{ProgramImage, procedures}
use Rattle.ide_graph.specs.GraphOf.{IsGraphOf}
use Rattle.ide_graph.specs.ProgramEdges.{HasEdgesOf}
use Rattle.ide_graph.specs.Supergraph.{Supergraph}
use Rattle.ide_lattice.specs.Algebra.{LatticeAlgebra, EdgeAlgebra}
use Rattle.ide_problem.specs.Flow.{Targets}
use Rattle.ide_steps.specs.Room.{key_space}
use Rattle.ide_text.specs.Program.{value_of}
use Rattle.ide_text.specs.Value.{ProgramValue}
use Rattle.ide_text.specs.declared.program.Program.{Program}
use Rattle.ide_theory.specs.Best.{IsBest}
use Rattle.ide_theory.specs.Bounds.{HasPending, pending_of}
use Rattle.ide_theory.specs.Frame.{Frame, Roots}
use Rattle.ide_theory.specs.Graphs.{frame_at}
use Rattle.ide_theory.specs.Image.{HasRoots}
use Rattle.ide_theory.specs.Images.{image_state}
use Rattle.ide_theory.specs.Run.{IsQuiet}
use Rattle.ide_theory.specs.Sites.{HaveEdgesOf}
use Rattle.ide_theory.specs.Value.{IsStarted, value_at}
use Rattle.ide_wire.specs.declared.key.Key.{Key}
use Rattle.ide_store.specs.Roots.{roots_named}
use Rattle.ide_store.specs.Tally.{Tally}

-- a graph of a program that says so, with the edges of its sites
pub record GraphBy (v : ProgramValue) : Type 0 where
  pub program : Program
  pub says : value_of program ≡ v
  pub graph : Supergraph
  pub graphed : IsGraphOf program graph
  pub edges : HasEdgesOf program graph
  pub all : HaveEdgesOf graph.facts graph.sites

module _ {F L : Type 0} (A : LatticeAlgebra L) (B : EdgeAlgebra F L) (targets : Targets F) {v : ProgramValue} (by : GraphBy v) where
  -- the analysis over it, with roots of these names
  abbrev pub frame_by : Frame
  frame_by = frame_at A B targets by.graph by.all

  abbrev pub roots_by : List (List ℕ) → Roots frame_by
  roots_by names = roots_named procedures frame_by v names

  -- the roots have their identities; and where nothing is pending, the values that follow from the image are best, for
  -- each fact at each node
  pub record AnswersBest (image : ProgramImage F) : Type 0 where
    pub roots : HasRoots frame_by (roots_by image.roots) image.get
    pub best : IsQuiet (image_state image) → (start : ℕ → ℕ → L) → IsStarted frame_by (roots_by image.roots) image.get start
        → (n d : ℕ) → d < by.graph.facts → IsBest frame_by (roots_by image.roots) n d (value_at frame_by image.get start n d)

  -- each claim is paid by a key that was pending at the beginning, by a lowering, by a claim that was given back or by an
  -- entry of a root; and lowerings by the ranks of the keys that the graph has room for, as are such entries where
  -- the identity is not always-top
  pub record IsWorkFew (tally : Tally F) : Type 0 where
    pub claims : (keys : List Key) → HasPending tally.begun keys
        → tally.claims ≤ pending_of tally.begun keys + tally.lowerings + tally.releases + tally.entries
    pub lowerings : tally.lowerings ≤ key_space by.graph * B.height
    pub entries : B.all_top ≢ B.id → tally.lowerings + tally.entries ≤ key_space by.graph * B.height
