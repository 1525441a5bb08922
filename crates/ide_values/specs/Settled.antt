-- What the start values come to.
use Rattle.std.specs.Global.{Vec}
use Rattle.std.specs.Prelude.{◌≡◌, ℕ, List, Some}
use Rattle.ide_graph.specs.Supergraph.{Supergraph}
use Rattle.ide_lattice.specs.Algebra.{LatticeAlgebra, EdgeAlgebra}
use Rattle.ide_problem.specs.Flow.{Targets}
use Rattle.ide_image.specs.Tables.{Table, found}
use Rattle.ide_wire.specs.declared.key.Key.{Key}
use Rattle.ide_values.specs.Enter.{entered_rows}
use Rattle.ide_values.specs.Pass.{GoesBy, IsSteadyBy, by_entry}

module _ {F L : Type 0} (A : LatticeAlgebra L) (B : EdgeAlgebra F L) (targets : Targets F) (graph : Supergraph) (table : Table F) where
  -- values come of others by what functions of present keys hand on
  abbrev pub ComesTo : List L → List L → Type 0
  ComesTo old new = GoesBy (λ values (e : Key × F). by_entry A B graph targets values e.0 e.1) (λ e. found table e.0 ≡ Some e.1) old new

  -- the function of no present key hands anything on that would change the values
  abbrev pub IsSteady : List L → Type 0
  IsSteady values = (key : Key) (f : F) → found table key ≡ Some f → IsSteadyBy A B graph targets values key f

  -- the start values for the roots
  pub record AreStarts (roots : List ℕ) (starts : List L) : Type 0 where
    pub comes : ComesTo (entered_rows A graph roots) starts
    pub steady : IsSteady starts

  -- the same for rows that are answered
  abbrev pub AreStartRows : List ℕ → Vec L → Type 0
  AreStartRows roots starts = AreStarts roots starts.items
