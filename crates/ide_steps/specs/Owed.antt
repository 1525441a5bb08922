-- That a task, as it is claimed, owes exactly what a claim of its key does.
use Rattle.std.specs.Prelude.{◌≤◌, ◌^◌}
use Rattle.ide_graph.specs.Joined.{AreJoined, start_at}
use Rattle.ide_graph.specs.Supergraph.{Supergraph}
use Rattle.ide_lattice.specs.Algebra.{LatticeAlgebra, EdgeAlgebra}
use Rattle.ide_problem.specs.Flow.{Targets}
use Rattle.ide_image.specs.Tables.{Table, found}
use Rattle.ide_tasks.specs.Parts.{owed}
use Rattle.ide_tasks.specs.Task.{TaskData}
use Rattle.ide_theory.specs.Graphs.{frame_at}
use Rattle.ide_theory.specs.Parts.{AreKeysInRange}
use Rattle.ide_theory.specs.Run.{ArePartsOf}
use Rattle.ide_theory.specs.Sites.{HaveEdgesOf}
use Rattle.ide_steps.specs.State.{IsTaskOf}

module _ {F L : Type 0} (A : LatticeAlgebra L) (B : EdgeAlgebra F L) (targets : Targets F) where
  -- over a graph whose sites fit together, where the present keys are in range
  abbrev pub TasksOweTheirParts : Type 0
  TasksOweTheirParts =
      (graph : Supergraph) (all : HaveEdgesOf graph.facts graph.sites) → AreJoined graph.sites (start_at graph) → graph.facts ≤ 2 ^ 16
      → (table : Table F) (task : TaskData F) → IsTaskOf B targets graph table task
      → AreKeysInRange (frame_at A B targets graph all) (found table)
      → ArePartsOf (frame_at A B targets graph all) (found table) task.key (owed B targets task)
