-- What is answered of a text and the names of roots: the dump of the best values.
use Rattle.std.specs.Borrow.{Bor}
use Rattle.std.specs.Io.KnownBytes.{Appends as WritesOut}
use Rattle.std.specs.Prelude.{◌≡◌, ℕ, ◌<◌, List, [], ◌∷◌, ◌++◌, Option, Result, OnOk, map}
use Rattle.std.specs.Global.{Vec}
use Rattle.ide_graph.specs.GraphOfText.{IsGraphOfText}
use Rattle.ide_graph.specs.Supergraph.{Supergraph}
use Rattle.ide_lattice.specs.Algebra.{LatticeAlgebra, EdgeAlgebra}
use Rattle.ide_problem.specs.Flow.{Targets}
use Rattle.ide_steps.specs.Frozen.{graph_in, program_in}
use Rattle.ide_steps.specs.Refusal.{IsRootName}
use Rattle.ide_steps.specs.declared.closed.Closed.{Closed}
use Rattle.ide_text.specs.Program.{value_of as program_value}
use Rattle.ide_theory.specs.Best.{IsBest}
use Rattle.ide_theory.specs.Graphs.{frame_at, roots_at}
use Rattle.ide_theory.specs.Sites.{HaveEdgesOf}
use Rattle.ide_values.specs.BestDump.{IsBestDump}
use Rattle.ide_values.specs.Frozen.{AreBestOf}
use Rattle.ide_values.specs.Values.{ValuesData, value_there}
use Rattle.ide_solver.specs.Shown.{ShownAnalysis}

-- the names that are lent
abbrev pub names_of : List (Bor (List ℕ)) → List (List ℕ)
names_of lent = map (λ name. name.now) lent

-- the names are those of the roots, in their order, after these
pub data AreRootNames (graph : Supergraph) : List ℕ → List (List ℕ) → List ℕ → Type 0 where
  none : {roots : List ℕ} → AreRootNames graph roots [] roots
  then : {roots all : List ℕ} {names : List (List ℕ)} → (name : List ℕ) (root : ℕ) → IsRootName graph roots name root
      → AreRootNames graph (roots ++ root ∷ []) names all → AreRootNames graph roots (name ∷ names) all

module _ {F L : Type 0} (A : LatticeAlgebra L) (B : EdgeAlgebra F L) (targets : Targets F) where
  -- the values are the best ones of the program that the text spells, which they keep, for the roots of
  -- these names
  pub record AreSolved (text : List ℕ) (names : List (List ℕ)) (values : ValuesData L) : Type 0 where
    pub spelled : IsGraphOfText text values.graph
    pub program : values.program ≡ program_value spelled.program
    pub named : AreRootNames values.graph [] names values.roots
    pub all : HaveEdgesOf values.graph.facts values.graph.sites
    pub best : (n d : ℕ) → n < values.graph.nodes → d < values.graph.facts
        → IsBest (frame_at A B targets values.graph all) (roots_at A B targets values.graph all values.roots) n d (value_there A values n d)

  -- the dump has the best value of each fact at each node of the program that the text spells, for the
  -- roots of these names
  pub record IsSolution (shown : L → List ℕ) (text : List ℕ) (names : List (List ℕ)) (dump : List ℕ) : Type 0 where
    pub graph : Supergraph
    pub spelled : IsGraphOfText text graph
    pub roots : List ℕ
    pub named : AreRootNames graph [] names roots
    pub all : HaveEdgesOf graph.facts graph.sites
    pub best : IsBestDump (frame_at A B targets graph all) (roots_at A B targets graph all roots) graph shown dump

  -- the dump is appended
  abbrev pub AppendsSolution : (L → List ℕ) → List ℕ → List (List ℕ) → (old new : Vec ℕ) → Type 0
  AppendsSolution shown text names old new = (dump : List ℕ) × (new.items ≡ old.items ++ dump) × IsSolution shown text names dump

module _ {F L : Type 0} (a : ShownAnalysis F L) (text : List ℕ) (roots : List (Bor (List ℕ))) where
  -- the values are solved by the analysis, for the roots of the names that are lent
  abbrev pub AreSolvedFor : ValuesData L → Type 0
  AreSolvedFor = AreSolved a.lattice a.functions a.targets text (names_of roots)

  -- the image's best values, of its program, over its graph and for its roots, are so solved
  abbrev pub LeadsToSolved : {P : Type 0} → Closed P L F → Type 0
  LeadsToSolved closed =
      (values : ValuesData L) → values.program ≡ program_in closed → values.graph ≡ graph_in closed → values.roots ≡ closed.roots.items
      → AreBestOf a.lattice a.functions a.targets closed.tables.table values → AreSolvedFor values

-- a call that is not refused appends the dump of that solution
abbrev pub SolvesFor : {F L : Type 0} → ShownAnalysis F L → {T E : Type 0} → Result T E → List ℕ → List (Bor (List ℕ)) → (old new : Vec ℕ) → Type 0
SolvesFor a result text roots old new = OnOk result (AppendsSolution a.lattice a.functions a.targets a.shown text (names_of roots) old new)

-- there is a dump of that solution, and where the output did not fail it is written behind what that had
pub record WritesFor {F L : Type 0} (a : ShownAnalysis F L) (text : List ℕ) (roots : List (Bor (List ℕ))) {T E : Type 0} (end : Result T E) (before after : Option (List ℕ)) : Type 0 where
  pub dump : List ℕ
  pub solution : IsSolution a.lattice a.functions a.targets a.shown text (names_of roots) dump
  pub written : OnOk end (WritesOut before after dump)
