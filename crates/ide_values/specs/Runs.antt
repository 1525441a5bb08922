-- Cells of a page that have the same function, which fill rows at once.
use Rattle.std.specs.Prelude.{◌≡◌, ℕ, ◌+◌, ◌*◌, ◌<◌, ◌≤◌, List}
use Rattle.ide_graph.specs.Supergraph.{Supergraph}
use Rattle.ide_image.specs.Cells.{TablesData}
use Rattle.ide_lattice.specs.Algebra.{LatticeAlgebra, EdgeAlgebra}
use Rattle.ide_values.specs.Fill.{IsFilledBy}
use Rattle.ide_values.specs.Start.{value_before}
use Rattle.ide_values.specs.declared.fill.PageJump.{PageJump}

-- the fact has the value at the start of the procedure of each of the graph's nodes from one to before another
abbrev pub AreBegunBy : {L : Type 0} → LatticeAlgebra L → Supergraph → List L → (begin end fact : ℕ) → L → Type 0
AreBegunBy A graph starts begin end fact value = (n : ℕ) → begin ≤ n → n < end → n < graph.nodes → value_before A graph starts n fact ≡ value

-- rows that are filled by the cells in front of an offset of the page are filled by those in front of another now: from
-- whatever start values, where the fact at which the page's jumps begin has this one for the nodes between
abbrev pub FillsRun : {F L : Type 0} → LatticeAlgebra L → EdgeAlgebra F L → Supergraph → TablesData F → (first page : ℕ) → PageJump → (start : L) → (begin end : ℕ) → (old new : List L) → Type 0
FillsRun A B graph tables first page jump start begin end old new =
    (starts : List _) → AreBegunBy A graph starts (jump.node + begin) (jump.node + end) jump.from start
    → IsFilledBy A B graph tables starts first (64 * page + begin) old → IsFilledBy A B graph tables starts first (64 * page + end) new
