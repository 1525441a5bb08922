-- How jump functions at call nodes hand values on to callees' starts.
use Rattle.std.specs.Prelude.{◌≡◌, ℕ, ◌+◌, ◌*◌, Bool, false, List, [], Option, Some, None, fold, slice_get, slice_index, slice_index_or, slice_set}
use Rattle.ide_graph.specs.Supergraph.{Supergraph}
use Rattle.ide_graph.specs.declared.edge.EdgeData.{EdgeData}
use Rattle.ide_graph.specs.declared.site.Site.{Site}
use Rattle.ide_graph.specs.declared.site.Site.TheVariants.{Normal, Call, Exit}
use Rattle.ide_lattice.specs.Algebra.{LatticeAlgebra, EdgeAlgebra}
use Rattle.ide_problem.specs.Flow.{Targets}
use Rattle.ide_theory.specs.Member.{Each}
use Rattle.ide_wire.specs.declared.key.Key.{Key}
use Rattle.ide_wire.specs.declared.key.Key.TheVariants.{Jump, Summary}
use Rattle.ide_values.specs.Start.{value_before}

-- the call edges of a site
abbrev pub calls_in : Option Site → List EdgeData
calls_in None = []
calls_in (Some (Normal edges)) = []
calls_in (Some (Call calls along)) = calls
calls_in (Some (Exit start callers)) = []

-- the call edges at a node
abbrev pub calls_of : Supergraph → ℕ → List EdgeData
calls_of graph n = calls_in (slice_get graph.sites n)

-- the values, with the one at a place met with another
abbrev pub lowered_at : {L : Type 0} → LatticeAlgebra L → List L → ℕ → L → List L
lowered_at A values place value = slice_set values place (A.meet (slice_index_or values place A.top) value)

module _ {F L : Type 0} (A : LatticeAlgebra L) (B : EdgeAlgebra F L) (graph : Supergraph) where
  -- a jump function from the fact a at the start to the node n, and a target of a call edge there to
  -- the node m, hand the value of a on to the target at m
  abbrev pub to_target : ℕ → ℕ → F → ℕ → List L → ℕ × F → List L
  to_target n a f m values target =
      lowered_at A values (slice_index graph.owners m * graph.facts + target.0) (B.apply target.1 (B.apply f (value_before A graph values n a)))

  module _ (targets : Targets F) where
    -- over a call edge, to all targets of the fact b
    abbrev pub over_edge : ℕ → ℕ → ℕ → F → List L → EdgeData → List L
    over_edge n a b f values edge = fold (to_target n a f edge.end) values (targets edge b)

    -- over all call edges at the node of a jump function
    abbrev pub by_entry : List L → Key → F → List L
    by_entry values (Jump n a b) f = fold (over_edge n a b f) values (calls_of graph n)
    by_entry values (Summary c a b) f = values

    -- handing on over the edge changes nothing
    abbrev pub IsSteadyOver : ℕ → ℕ → ℕ → F → List L → EdgeData → Type 0
    IsSteadyOver n a b f values edge = Each (λ target. to_target n a f edge.end values target ≡ values) (targets edge b)

    -- handing on over all call edges at the node changes nothing
    abbrev pub IsSteadyBy : List L → Key → F → Type 0
    IsSteadyBy values (Jump n a b) f = Each (IsSteadyOver n a b f values) (calls_of graph n)
    IsSteadyBy values (Summary c a b) f = Unit {0}

-- steps by each of a list, of which a flag tells whether one changed anything; then each is steady
pub record Passes {X V : Type 0} (step : V → X → V) (IsSteady : V → X → Type 0) (xs : List X) (old new : V) (fell fallen : Bool) : Type 0 where
  pub all : new ≡ fold step old xs
  pub same : fallen ≡ false → new ≡ old
  pub before : fallen ≡ false → fell ≡ false
  pub steady : fallen ≡ false → Each (IsSteady old) xs

-- steps by elements that are among some, in any order, any number of times
pub data GoesBy {X V : Type 0} (step : V → X → V) (IsAmong : X → Type 0) : V → V → Type 0 where
  stays : {v : V} → GoesBy step IsAmong v v
  then : {u v : V} → GoesBy step IsAmong u v → (x : X) → IsAmong x → GoesBy step IsAmong u (step v x)
