-- Start values: rows of values by procedure, one value for each fact.
use Rattle.std.specs.Prelude.{◌≡◌, ◌≢◌, ℕ, ◌+◌, ◌*◌, ◌<◌, ◌&&◌, List, cond, length, nat_eq, nat_lt, slice_index, slice_index_or}
use Rattle.ide_graph.specs.Joined.{start_at}
use Rattle.ide_graph.specs.Supergraph.{Supergraph}
use Rattle.ide_lattice.specs.Algebra.{LatticeAlgebra}

-- the value at a place of the rows: top past them
abbrev pub at_place : {L : Type 0} → LatticeAlgebra L → List L → ℕ → L
at_place A values place = slice_index_or values place A.top

module _ {L : Type 0} (A : LatticeAlgebra L) where
  -- each value is top
  abbrev pub AreTops : List L → Type 0
  AreTops values = (place : ℕ) → at_place A values place ≡ A.top

  -- each other place has the value that it had
  abbrev pub SameElsewhere : ℕ → (old new : List L) → Type 0
  SameElsewhere place old new = (q : ℕ) → q ≢ place → at_place A new q ≡ at_place A old q

  -- the value at the place, if it is one, is met with another
  abbrev pub MeetsAt : ℕ → L → (old new : List L) → Type 0
  MeetsAt place value old new = place < length old → at_place A new place ≡ A.meet (at_place A old place) value

module _ {L : Type 0} (A : LatticeAlgebra L) (graph : Supergraph) (starts : List L) where
  -- the value of a fact at the start of the procedure with that index
  abbrev pub row_value : ℕ → ℕ → L
  row_value procedure fact = slice_index_or starts (procedure * graph.facts + fact) A.top

  -- the value of a fact at the start of a node's procedure
  abbrev pub value_before : ℕ → ℕ → L
  value_before n fact = row_value (slice_index graph.owners n) fact

  -- the value of a fact at a start: top at each other node
  abbrev pub start_value : ℕ → ℕ → L
  start_value s fact = cond (nat_lt s graph.nodes && nat_eq (start_at graph s) s) (value_before s fact) A.top
