-- The lines of rows of values.
use Rattle.std.specs.Global.{Vec}
use Rattle.std.specs.Prelude.{ℕ, ◌+◌, ◌*◌, ◌++◌, List, Option}
use Rattle.std.specs.List.{flat_map, range_with_len}
use Rattle.ide_graph.specs.Supergraph.{Supergraph}
use Rattle.ide_lattice.specs.Algebra.{LatticeAlgebra}
use Rattle.ide_values.specs.Dump.{Moves, lines_at}
use Rattle.ide_values.specs.Start.{at_place}

module _ {L : Type 0} (A : LatticeAlgebra L) (shown : L → List ℕ) (graph : Supergraph) where
  -- the lines of a node, whose values are a row of these
  abbrev pub lines_in_row : List L → (row node : ℕ) → List ℕ
  lines_in_row rows row node = lines_at graph (λ _ d. shown (at_place A rows (row * graph.facts + d))) node

  -- the lines of so many nodes from the first on, whose rows of values these are
  abbrev pub lines_of_rows : (first count : ℕ) → List L → List ℕ
  lines_of_rows first count rows = flat_map (λ k. lines_in_row rows k (first + k)) (range_with_len 0 count)

  -- of what a piece had with those lines behind it a beginning is written, and the rest is left in the piece
  abbrev pub MovesRows : (first count : ℕ) → List L → (old new : Vec ℕ) → (before after : Option (List ℕ)) → Type 0
  MovesRows first count rows old new before after = Moves (old.items ++ lines_of_rows first count rows) new.items before after
