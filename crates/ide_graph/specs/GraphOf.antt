-- The graph of a program.
use Rattle.std.specs.Prelude.{ℕ, ◌<◌, ◌≤◌, ◌≡◌, List, Some, length, map, slice_get, slice_index}
use Rattle.ide_text.specs.declared.program.Procedure.{Procedure}
use Rattle.ide_text.specs.declared.program.Program.{Program}
use Rattle.ide_text.specs.Program.{globals_of, procedures_of}
use Rattle.ide_graph.specs.Numbers.{nodes_of, start_of, exit_of, procedure_of, names_at, fact_at, result_of, facts_of}
use Rattle.ide_graph.specs.Supergraph.{Supergraph, procedure_named, fact_named, fact_names}

-- the graph's nodes, procedures and facts are those of the program, each with its number
pub record IsGraphOf (p : Program) (graph : Supergraph) : Type 0 where
  pub procedures : graph.procedures ≡ length (procedures_of p)
  pub nodes : graph.nodes ≡ length (nodes_of (procedures_of p))
  pub sited : length graph.sites ≡ length (nodes_of (procedures_of p))
  pub owners : graph.owners ≡ map (λ node. node.0) (nodes_of (procedures_of p))
  pub starts : (i : ℕ) → i < length (procedures_of p) → slice_index graph.starts i ≡ start_of (procedures_of p) i
  pub exits : (i : ℕ) → i < length (procedures_of p) → slice_index graph.exits i ≡ exit_of (procedures_of p) i
  pub named : (name : List ℕ) → procedure_named graph name ≡ procedure_of (procedures_of p) name
  pub counts : (graph.facts ≡ facts_of p) × (graph.entries ≡ result_of p)
  pub few : (graph.nodes ≤ 65536) × (graph.facts ≤ 4096)
  pub parameters : (i : ℕ) (q : Procedure) → slice_get (procedures_of p) i ≡ Some q → slice_index graph.parameters i ≡ length q.parameters.items
  pub names : (i : ℕ) (q : Procedure) → slice_get (procedures_of p) i ≡ Some q → fact_names graph i ≡ names_at (globals_of p) q
  pub fact : (i : ℕ) (q : Procedure) → slice_get (procedures_of p) i ≡ Some q → (name : List ℕ) → fact_named graph i name ≡ fact_at (globals_of p) q name
