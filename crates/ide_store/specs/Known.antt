-- What is known of programs and their graphs, and of an analysis whose calls are acts.
use Rattle.std.specs.Prelude.{◌≡◌, ◌≤◌, ℕ, List, Some, length}
use Rattle.ide_batch.specs.Fold.{procedures}
use Rattle.ide_graph.specs.Exits.{ExitsOfProgramsAreOwned}
use Rattle.ide_graph.specs.Joined.{SitesOfProgramsAreJoined}
use Rattle.ide_graph.specs.SameGraphs.{GraphsOfOneTextAreSame}
use Rattle.ide_lattice.specs.Algebra.{LatticeAlgebra, EdgeAlgebra}
use Rattle.ide_problem.specs.Flow.{Targets}
use Rattle.ide_steps.specs.Owed.{TasksOweTheirParts}
use Rattle.ide_steps.specs.Room.{key_space}
use Rattle.ide_text.specs.Value.{ProgramValue}
use Rattle.ide_theory.specs.Frame.{IsLawfulFrame}
use Rattle.ide_theory.specs.Images.{IsSame}
use Rattle.ide_theory.specs.Member.{IsIn}
use Rattle.ide_theory.specs.Run.{Run}
use Rattle.ide_theory.specs.State.{State}
use Rattle.ide_wire.specs.Form.{IsPrefixFree}
use Rattle.ide_wire.specs.declared.key.Key.{Key}
use Rattle.ide_store.specs.Answers.{GraphBy, frame_by}
use Rattle.ide_store.specs.Table.{Analysis}

-- what is known of programs and their graphs
pub record Known {F L : Type 0} (A : LatticeAlgebra L) (B : EdgeAlgebra F L) (targets : Targets F) : Type 0 where
  pub lawful : {v : ProgramValue} (by : GraphBy v) → IsLawfulFrame (frame_by A B targets by)
  pub starts : {v : ProgramValue} (by : GraphBy v) (name : List ℕ) (r : ℕ) → procedures.start v name ≡ Some r → (frame_by A B targets by).graph.start_of r ≡ r
  pub fits : {v : ProgramValue} (by : GraphBy v) → procedures.entries v ≤ by.graph.facts
  pub keys : {v : ProgramValue} (by : GraphBy v) → (keys : List Key) × (length keys ≡ key_space by.graph)
      × ((s : State F) → Run (frame_by A B targets by) s → (key : Key) (f : F) → s.get key ≡ Some f → IsIn key keys)

-- the laws of its functions, of its records and of the graphs of programs
pub record Knows {F L : Type 0} (a : Analysis F L) : Type 0 where
  pub is_same : IsSame a.same
  pub prefix_free : IsPrefixFree a.proper a.form
  pub known : Known a.lattice a.functions a.targets
  pub owed : TasksOweTheirParts a.lattice a.functions a.targets
  pub joined : SitesOfProgramsAreJoined
  pub exits : ExitsOfProgramsAreOwned
  pub same_graphs : GraphsOfOneTextAreSame
