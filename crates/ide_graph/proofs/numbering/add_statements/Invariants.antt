use Rattle.std.proofs.Common.{◌≡◌, ℕ, ◌+◌, ◌<◌, ◌≤◌, ◌^◌, List, ◌++◌, length, take}
use Rattle.std.specs.List.{flat_map}
use Rattle.ide_text.specs.Places.{place_of}
use Rattle.ide_graph.specs.Numbered.{BelongTo}
use Rattle.ide_graph.specs.Numbering.{nodes_at, nodes_in}
use Rattle.ide_graph.specs.Numbers.{label_among, spots_on}
use Rattle.ide_graph.proofs.numbering.add_statements.Given as goal

abbrev pub invariant-loop-statement : goal.invariant-loop-statement
invariant-loop-statement l = record {
  added : nodes_in l.spots.items ≡ nodes_in l.initial.spots.items ++ nodes_at l.procedure (flat_map spots_on (take l.statement-index l.statements));
  labels : (name : List ℕ) → place_of l.labels name ≡ label_among (length l.initial.spots.items) (take l.statement-index l.statements) name;
  few : length l.spots.items < 2 ^ 32;
  owned : BelongTo (l.procedure + 1) l.spots.items;
  longer : length l.initial.spots.items ≤ length l.spots.items;
}
