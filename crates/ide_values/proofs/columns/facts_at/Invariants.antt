use Rattle.std.proofs.Common.{◌≡◌, ◌<◌, ◌≤◌, ℕ, length, map}
use Rattle.std.specs.Prelude.{slice_get}
use Rattle.std.specs.Option.{option_map}
use Rattle.ide_graph.specs.Supergraph.{name_at}
use Rattle.ide_values.specs.Dump.{fact_columns}
use Rattle.ide_values.proofs.columns.facts_at.Given as goal

-- the columns of the first facts are made
abbrev pub invariant-loop-index : goal.invariant-loop-index
invariant-loop-index l = record {
  count : length l.facts.items ≡ l.index;
  few : l.index ≤ l.graph.facts;
  each : (fact : ℕ) → fact < l.index → slice_get (map (λ columns. columns.items) l.facts.items) fact ≡ option_map (fact_columns fact) (name_at l.graph l.node fact);
}
