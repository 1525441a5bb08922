-- What passes say of start values before and after them.
use Rattle.std.specs.Prelude.{◌≡◌, ℕ, ◌+◌, ◌*◌, ◌<◌, ◌≤◌, false, List, Result, Some, OnOk, length}
use Rattle.ide_graph.specs.Supergraph.{Supergraph}
use Rattle.ide_graph.specs.declared.edge.EdgeData.{EdgeData}
use Rattle.ide_lattice.specs.Algebra.{LatticeAlgebra, EdgeAlgebra}
use Rattle.ide_problem.specs.Flow.{Targets}
use Rattle.ide_image.specs.Cells.{TablesData, shown_in}
use Rattle.ide_image.specs.Tables.{Table}
use Rattle.ide_wire.specs.declared.key.Key.{Key}
use Rattle.ide_values.specs.declared.passes.JumpAt.{JumpAt}
use Rattle.ide_values.specs.declared.passes.Starts.{Starts}
use Rattle.ide_values.specs.Falling.{ranks}
use Rattle.ide_values.specs.Pass.{IsSteadyBy, IsSteadyOver, Passes, by_entry, lowered_at, over_edge, to_target}
use Rattle.ide_values.specs.Settled.{ComesTo, IsSteady}

-- where no fall is marked after it, nothing changed, and none was marked before
pub record MarksFalls {P L F : Type 0} (old new : Starts P L F) : Type 0 where
  pub same : new.has_fallen ≡ false → new.values.items ≡ old.values.items
  pub before : new.has_fallen ≡ false → old.has_fallen ≡ false

-- one place less waits
abbrev pub WaitsLess : {P L F : Type 0} → (old new : Starts P L F) → Type 0
WaitsLess old new = length old.waiting.items ≡ length new.waiting.items + 1

module _ {P F L : Type 0} (A : LatticeAlgebra L) where
  -- the start value at the place is met with another
  abbrev pub LowersAt : ℕ → L → (old new : Starts P L F) → Type 0
  LowersAt place value old new = new.values.items ≡ lowered_at A old.values.items place value

  -- the ranks of start values, all together, do not rise
  abbrev pub RisesNowhere : (old new : Starts P L F) → Type 0
  RisesNowhere old new = ranks A new.values.items ≤ ranks A old.values.items

-- the entry that the cell shows, if it shows one, hands nothing on that would change these start values
abbrev pub IsSteadyAt : {F L : Type 0} → LatticeAlgebra L → EdgeAlgebra F L → Targets F → Supergraph → TablesData F → List L → ℕ → Type 0
IsSteadyAt {F} A B targets graph tables values cell =
    (e : Key × F) → shown_in tables cell ≡ Some e → IsSteadyBy A B graph targets values e.0 e.1

module _ {P F L : Type 0} (A : LatticeAlgebra L) (B : EdgeAlgebra F L) (targets : Targets F) (graph : Supergraph) where
  -- what a target of a call edge to the node m is handed by the jump function
  abbrev pub PassesTo : JumpAt F L → ℕ → ℕ × F → Starts P L F → Starts P L F → Type 0
  PassesTo jump m target old new = new.values.items ≡ to_target A B graph jump.node jump.from jump.function m old.values.items target

  -- the jump function is passed on over the call edge, to each of its targets
  abbrev pub PassesOver : JumpAt F L → EdgeData → Starts P L F → Starts P L F → Type 0
  PassesOver jump edge old new =
      Passes (to_target A B graph jump.node jump.from jump.function edge.end)
      (λ values target. to_target A B graph jump.node jump.from jump.function edge.end values target ≡ values)
      (targets edge jump.to) old.values.items new.values.items old.has_fallen new.has_fallen

  -- and over each of these
  abbrev pub PassesAll : JumpAt F L → List EdgeData → Starts P L F → Starts P L F → Type 0
  PassesAll jump edges old new =
      Passes (over_edge A B graph targets jump.node jump.from jump.to jump.function)
      (IsSteadyOver A B graph targets jump.node jump.from jump.to jump.function)
      edges old.values.items new.values.items old.has_fallen new.has_fallen

  -- the function of a key is passed on over the call edges where it ends
  pub record PassesBy (key : Key) (f : F) (old new : Starts P L F) : Type 0 where
    pub passed : new.values.items ≡ by_entry A B graph targets old.values.items key f
    pub same : new.has_fallen ≡ false → new.values.items ≡ old.values.items
    pub before : new.has_fallen ≡ false → old.has_fallen ≡ false
    pub steady : new.has_fallen ≡ false → IsSteadyBy A B graph targets old.values.items key f

  module _ (table : Table F) where
    -- unless memory was wanting, the start values come of those before by what functions of present keys hand on
    abbrev pub Comes : {T E : Type 0} → Result T E → (old new : Starts P L F) → Type 0
    Comes result old new = OnOk result (ComesTo A B targets graph table old.values.items new.values.items)

    -- the start values rest: the function of no present key hands anything on that would change them
    abbrev pub Rests : Starts P L F → Type 0
    Rests starts = IsSteady A B targets graph table starts.values.items

    -- where no fall is marked then, nothing changed, and the values rest
    pub record LeavesEach (old new : Starts P L F) : Type 0 where
      pub same : new.has_fallen ≡ false → new.values.items ≡ old.values.items
      pub steady : new.has_fallen ≡ false → IsSteady A B targets graph table old.values.items

  module _ (tables : TablesData F) where
    -- where no fall is marked then, none was marked before, nothing changed, and the cells from one on, up to before another,
    -- hand nothing on
    pub record LeavesCells (begin end : ℕ) (old new : Starts P L F) : Type 0 where
      pub same : new.has_fallen ≡ false → new.values.items ≡ old.values.items
      pub before : new.has_fallen ≡ false → old.has_fallen ≡ false
      pub steady : new.has_fallen ≡ false → (cell : ℕ) → begin ≤ cell → cell < end → IsSteadyAt A B targets graph tables old.values.items cell

    -- the same for the cells of a page at offsets from one on, up to before another
    abbrev pub LeavesOffsets : (page begin end : ℕ) → (old new : Starts P L F) → Type 0
    LeavesOffsets page begin end = LeavesCells (64 * page + begin) (64 * page + end)
