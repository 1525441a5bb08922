-- Rows of start values as they begin: bottom at the entry facts of roots, else top.
use Rattle.std.specs.Prelude.{ℕ, ◌*◌, ◌%◌, ◌/◌, ◌&&◌, Bool, false, List, cond, map, nat_eq, nat_lt, slice_index_or}
use Rattle.std.specs.List.{list_any, range_with_len}
use Rattle.ide_graph.specs.Supergraph.{Supergraph}
use Rattle.ide_lattice.specs.Algebra.{LatticeAlgebra}

-- whether the procedure with that index is a root
abbrev pub is_root : List ℕ → ℕ → Bool
is_root roots procedure = list_any (nat_eq procedure) roots

-- for each of so many procedures, whether it is a root
abbrev pub flags_of : List ℕ → ℕ → List Bool
flags_of roots procedures = map (is_root roots) (range_with_len 0 procedures)

-- for each procedure of a graph
abbrev pub root_flags : Supergraph → List ℕ → List Bool
root_flags graph roots = flags_of roots graph.procedures

module _ {L : Type 0} (A : LatticeAlgebra L) where
  -- the value at a place: bottom if it is an entry fact's in the row of a root
  abbrev pub entered_at : ℕ → ℕ → List Bool → ℕ → L
  entered_at facts entries are_roots place = cond (nat_lt (place % facts) entries && slice_index_or are_roots (place / facts) false) A.bottom A.top

  -- so many values of the rows
  abbrev pub entered_from : ℕ → ℕ → List Bool → ℕ → List L
  entered_from facts entries are_roots count = map (entered_at facts entries are_roots) (range_with_len 0 count)

  -- a row for each procedure
  abbrev pub entered_rows : Supergraph → List ℕ → List L
  entered_rows graph roots = entered_from graph.facts graph.entries (root_flags graph roots) (graph.procedures * graph.facts)
