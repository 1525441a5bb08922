-- What bounds the work on start values: each fall lowers a rank.
use Rattle.std.specs.Prelude.{ℕ, ◌+◌, ◌≤◌, List, cond, length}
use Rattle.std.specs.List.{sum_by}
use Rattle.ide_lattice.specs.Algebra.{LatticeAlgebra}
use Rattle.ide_values.specs.declared.passes.Starts.{Starts}

-- the ranks of the values, all together
abbrev pub ranks : {L : Type 0} → LatticeAlgebra L → List L → ℕ
ranks A values = sum_by A.rank values

-- the ranks of start values do not rise, and what they fall by pays for places that wait anew and for the
-- mark of a fall
pub record StartsFall {P L F : Type 0} (A : LatticeAlgebra L) (old new : Starts P L F) : Type 0 where
  pub least : ranks A new.values.items ≤ ranks A old.values.items
  pub waiting : ranks A new.values.items + length new.waiting.items ≤ ranks A old.values.items + length old.waiting.items
  pub marked : ranks A new.values.items + cond new.has_fallen 1 0 ≤ ranks A old.values.items + cond old.has_fallen 1 0
