-- Nodes side by side that are of one procedure.
use Rattle.std.specs.Prelude.{◌≡◌, ℕ, ◌<◌, ◌≤◌, slice_index}
use Rattle.std.specs.List.{All}
use Rattle.ide_graph.specs.Supergraph.{Supergraph}
use Rattle.ide_values.specs.declared.stretches.Stretch.{Stretch}
use Rattle.ide_values.specs.declared.stretches.Stretches.{Stretches}

-- those of the graph's nodes that are at the one or behind it and before the other are of the procedure
abbrev pub AreOwnedBy : Supergraph → (begin end procedure : ℕ) → Type 0
AreOwnedBy graph begin end procedure = (n : ℕ) → begin ≤ n → n < end → n < graph.nodes → slice_index graph.owners n ≡ procedure

-- so are the nodes of the stretch
abbrev pub IsStretch : Supergraph → Stretch → Type 0
IsStretch graph stretch = AreOwnedBy graph stretch.begin stretch.end stretch.procedure

-- so are those of each stretch that is kept
abbrev pub AreStretches : Supergraph → Stretches → Type 0
AreStretches graph stretches = All (IsStretch graph) stretches.kept
