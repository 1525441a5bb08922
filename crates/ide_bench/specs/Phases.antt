-- What the phases of a solve make of a text.
use Rattle.std.specs.Prelude.{◌≡◌, ℕ, List, [], ◌∷◌, Some, codes, length}
use Rattle.ide_graph.specs.GraphOfText.{IsGraphOfText}
use Rattle.ide_graph.specs.Supergraph.{Supergraph, procedure_named}
use Rattle.ide_image.specs.Tables.{Table}
use Rattle.ide_instances.specs.ConstValue.{const_algebra, shown_constant}
use Rattle.ide_instances.specs.declared.const_value.ConstValue.{ConstValue}
use Rattle.ide_steps.specs.Frozen.{graph_in}
use Rattle.ide_text.specs.Parsed.{IsParsed}
use Rattle.ide_text.specs.Program.{procedures_of}
use Rattle.ide_text.specs.declared.program.Program.{Program}
use Rattle.ide_values.specs.Dump.{dump_of}
use Rattle.ide_values.specs.Values.{ValuesData, value_there}
use Rattle.ide_bench.specs.declared.counts.Counts.{Counts}
use Rattle.ide_bench.specs.declared.phases.Tabulated.{Tabulated}

-- the text spells a program of so many procedures
pub record HasProcedures (text : List ℕ) (count : ℕ) : Type 0 where
  pub program : Program
  pub parsed : IsParsed text program
  pub counted : count ≡ length (procedures_of program)

-- the text spells a program with that graph, and `main` is the one root
pub record IsRootedAtMain (text : List ℕ) (graph : Supergraph) (roots : List ℕ) : Type 0 where
  pub spelled : IsGraphOfText text graph
  pub main : ℕ
  pub named : procedure_named graph (codes "main") ≡ Some main
  pub alone : roots ≡ main ∷ []

-- what was tabulated is over that graph, and from that root alone
abbrev pub IsTabulated : List ℕ → Tabulated → Type 0
IsTabulated text tabulated = IsRootedAtMain text (graph_in tabulated.closed) tabulated.closed.roots.items

-- the counts of a graph, of its tables and of so many tasks
abbrev pub counts_over : {F : Type 0} → Supergraph → Table F → ℕ → Counts
counts_over graph tables tasks =
    record { nodes = graph.nodes; facts = graph.facts; keys = length tables.entries; tasks = tasks }

-- the counts are those of such a graph
pub record AreCountsOf (text : List ℕ) (counts : Counts) : Type 0 where
  pub graph : Supergraph
  pub roots : List ℕ
  pub rooted : IsRootedAtMain text graph roots
  pub nodes : counts.nodes ≡ graph.nodes
  pub facts : counts.facts ≡ graph.facts

-- the dump of values over such a graph has so many bytes
pub record IsDumpLength (text : List ℕ) (bytes : ℕ) : Type 0 where
  pub values : ValuesData ConstValue
  pub rooted : IsRootedAtMain text values.graph values.roots
  pub measured : bytes ≡ length (dump_of values.graph (λ n d. shown_constant (value_there const_algebra values n d)))
