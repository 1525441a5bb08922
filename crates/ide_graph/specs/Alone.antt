-- Facts that a statement does not name.
use Rattle.std.specs.Prelude.{◌≡◌, ℕ, ◌<◌, Bool, true, false, not, ◌&&◌, ◌||◌, nat_eq}
use Rattle.ide_graph.specs.declared.edge.EdgeData.{EdgeData}
use Rattle.ide_graph.specs.declared.edge.EdgeKind.{EdgeKind}
use Rattle.ide_graph.specs.declared.edge.EdgeKind.TheVariants.{Normal}
use Rattle.ide_graph.specs.declared.edge.Effect.{Effect}
use Rattle.ide_graph.specs.declared.edge.Effect.TheVariants.{Nothing, Number, Copy, Sum, Difference, Unknown, Mix, Enter}

-- whether a statement names the fact, be it assigned or read. A start names all of them
abbrev pub statement_names : Effect → ℕ → Bool
statement_names Nothing fact = false
statement_names (Number target number) fact = nat_eq fact target
statement_names (Copy target source) fact = nat_eq fact target || nat_eq fact source
statement_names (Sum target source number) fact = nat_eq fact target || nat_eq fact source
statement_names (Difference target source number) fact = nat_eq fact target || nat_eq fact source
statement_names (Unknown target) fact = nat_eq fact target
statement_names (Mix target first second) fact = nat_eq fact target || nat_eq fact first || nat_eq fact second
statement_names (Enter first end) fact = true

-- whether it is the kind of an edge within a procedure whose statement does not name the fact, which is not `@zero`
abbrev pub is_unnamed : EdgeKind → ℕ → Bool
is_unnamed (Normal effect) fact = not (nat_eq fact 0) && not (statement_names effect fact)
is_unnamed kind fact = false

-- the program has the fact, and it is one that the statement of the edge does not name
pub record LeavesAlone (edge : EdgeData) (fact : ℕ) : Type 0 where
  pub within : fact < edge.facts
  pub unnamed : is_unnamed edge.kind fact ≡ true
