-- What a load does to a core.
use Rattle.std.specs.Prelude.{◌≡◌, [], Some}
use Rattle.std.specs.Option.{option_map, IsSomeAnd}
use Rattle.ide_graph.specs.GraphOf.{IsGraphOf}
use Rattle.ide_graph.specs.ProgramEdges.{HasEdgesOf}
use Rattle.ide_lattice.specs.Algebra.{EdgeAlgebra}
use Rattle.ide_problem.specs.Flow.{Targets}
use Rattle.ide_text.specs.declared.program.Program.{Program}
use Rattle.ide_text.specs.Program.{value_of}
use Rattle.ide_theory.specs.State.{nothing_done}
use Rattle.ide_steps.specs.Core.{CoreData}
use Rattle.ide_steps.specs.State.{state_of}

-- the program and its graph are loaded, nothing is done, and if somebody asked for changes, none is noted
pub record HasLoaded {F L : Type 0} (B : EdgeAlgebra F L) (targets : Targets F) (p : Program) (old new : CoreData F) : Type 0 where
  pub program : new.program ≡ Some (value_of p)
  pub roots : new.roots ≡ []
  pub graph : IsSomeAnd new.graph (IsGraphOf p)
  pub edges : IsSomeAnd new.graph (HasEdgesOf p)
  pub state : state_of B targets new ≡ nothing_done F
  pub entries : new.table.entries ≡ []
  pub pending : new.pile.pending ≡ []
  pub claims : new.pile.claims ≡ []
  pub changes : new.changes ≡ option_map (λ _. []) old.changes
