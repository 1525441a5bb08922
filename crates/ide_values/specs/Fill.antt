-- The values of an image: at each node and fact the meet of what the facts at the start give it.
use Rattle.std.specs.Prelude.{◌≡◌, ℕ, ◌+◌, ◌*◌, ◌<◌, ◌&&◌, List, Option, Some, IsTrue, cond, fold, length, nat_eq, slice_index_or, take, unwrap_or}
use Rattle.std.specs.Global.{Vec}
use Rattle.std.specs.List.{All}
use Rattle.ide_graph.specs.Supergraph.{Supergraph}
use Rattle.ide_lattice.specs.Algebra.{LatticeAlgebra, EdgeAlgebra}
use Rattle.ide_lattice.specs.Meets.{meet_of}
use Rattle.ide_image.specs.Cells.{TablesData, shown_entries}
use Rattle.ide_image.specs.Tables.{Table, found}
use Rattle.ide_wire.specs.declared.key.Key.{Key}
use Rattle.ide_wire.specs.declared.key.Key.TheVariants.{Jump, Summary}
use Rattle.ide_theory.specs.Parts.{IsKeyInRange}
use Rattle.ide_values.specs.Start.{value_before}

module _ {F L : Type 0} (A : LatticeAlgebra L) (B : EdgeAlgebra F L) where
  -- the value of fact d at the node n: what the jump functions make of the facts at the start
  abbrev pub value_from : (Key → Option F) → (ℕ → L) → ℕ → ℕ → ℕ → L
  value_from get start facts n d = meet_of A (λ a. B.apply (unwrap_or (get (Jump n a d)) B.all_top) (start a)) facts

  -- a value of fact d at the node n, lowered by what the key's function gives it
  abbrev pub lowered : (ℕ → ℕ → L) → ℕ → ℕ → L → Key → F → L
  lowered start n d value (Jump m a b) f = cond (nat_eq m n && nat_eq b d) (A.meet value (B.apply f (start m a))) value
  lowered start n d value (Summary c a b) f = value

-- each present key's facts are the graph's, and its function is proper
pub record IsImage {F L : Type 0} (B : EdgeAlgebra F L) (graph : Supergraph) (get : Key → Option F) : Type 0 where
  pub facts : (key : Key) (f : F) → get key ≡ Some f → IsKeyInRange graph.facts key
  pub proper : (key : Key) (f : F) → get key ≡ Some f → IsTrue (B.proper f)

-- the rows of values by node have at each fact what follows from the starts
abbrev pub AreFilled : {F L : Type 0} → LatticeAlgebra L → EdgeAlgebra F L → Supergraph → (Key → Option F) → List L → List L → Type 0
AreFilled A B graph get starts values =
    (n d : ℕ) → n < graph.nodes → d < graph.facts
    → slice_index_or values (n * graph.facts + d) A.top ≡ value_from A B get (value_before A graph starts n) graph.facts n d

-- over an image of the graph, where the starts are proper, the rows of values are filled from them
abbrev pub Fills : {F L : Type 0} → LatticeAlgebra L → EdgeAlgebra F L → Supergraph → Table F → List L → List L → Type 0
Fills A B graph table starts values =
    IsImage B graph (found table) → All (λ v. IsTrue (A.proper v)) starts → AreFilled A B graph (found table) starts values

-- the same for rows that are answered
abbrev pub FillsRows : {F L : Type 0} → LatticeAlgebra L → EdgeAlgebra F L → Supergraph → Table F → List L → Vec L → Type 0
FillsRows A B graph table starts values = Fills A B graph table starts values.items

-- over an image of the graph, where the starts are proper, the value is what belongs at the place of the rows
abbrev pub IsFilledAt : {F L : Type 0} → LatticeAlgebra L → EdgeAlgebra F L → Supergraph → Table F → List L → ℕ → L → Type 0
IsFilledAt A B graph table starts place value =
    IsImage B graph (found table) → All (λ v. IsTrue (A.proper v)) starts
    → (n d : ℕ) → n < graph.nodes → d < graph.facts → n * graph.facts + d ≡ place
    → value ≡ value_from A B (found table) (value_before A graph starts n) graph.facts n d

-- so is each value of some of the rows, those from a node on
abbrev pub FillsFrom : {F L : Type 0} → LatticeAlgebra L → EdgeAlgebra F L → Supergraph → Table F → List L → ℕ → List L → Type 0
FillsFrom A B graph table starts first rows =
    (k : ℕ) → k < length rows → IsFilledAt A B graph table starts (first * graph.facts + k) (slice_index_or rows k A.top)

-- the rows from a node on are filled by what the first cells of the tables show
pub record IsFilledBy {F L : Type 0} (A : LatticeAlgebra L) (B : EdgeAlgebra F L) (graph : Supergraph) (tables : TablesData F) (starts : List L) (first count : ℕ) (rows : List L) : Type 0 where
  pub filled : IsImage B graph (found tables.table) → (k n d : ℕ) → k < length rows → n < graph.nodes → d < graph.facts
      → n * graph.facts + d ≡ first * graph.facts + k
      → slice_index_or rows k A.top ≡ fold (λ v e. lowered A B (value_before A graph starts) n d v e.0 e.1) A.top (shown_entries (take count tables.cells))

-- each value of the rows from a node on is met with what the key's function gives it
abbrev pub Meets : {F L : Type 0} → LatticeAlgebra L → EdgeAlgebra F L → Supergraph → List L → ℕ → Key → F → List L → List L → Type 0
Meets A B graph starts first key f old new =
    IsKeyInRange graph.facts key → (k n d : ℕ) → k < length old → n < graph.nodes → d < graph.facts
    → n * graph.facts + d ≡ first * graph.facts + k
    → slice_index_or new k A.top ≡ lowered A B (value_before A graph starts) n d (slice_index_or old k A.top) key f
