-- What contracts see of a graph.
use Rattle.std.specs.Prelude.{ℕ, ◌+◌, ◌<◌, ◌≤◌, ◌≡◌, ◌⊎◌, List, Option, None, Some, slice_get, slice_index, slice_index_or, []}
use Rattle.std.specs.Option.{option_and_then}
use Rattle.ide_wire.specs.declared.refused.Refused.{Refused}
use Rattle.ide_wire.specs.declared.refused.Refused.TheVariants.{NoProcedure, OutOfRange}
use Rattle.ide_graph.specs.Named.{procedure_of_name, fact_of_name, names_of_facts}
use Rattle.ide_graph.specs.declared.site.Site.{Site}

-- how many procedures, nodes and facts it has, and how many facts may hold at its entry; the
-- procedure of each node; the start, the exit and the count of parameters of each procedure; the
-- site of each node; the names that find procedures; and the names of globals and of each
-- procedure's own facts
pub record Supergraph : Type 0 where
  pub procedures : ℕ
  pub nodes : ℕ
  pub facts : ℕ
  pub entries : ℕ
  pub owners : List ℕ
  pub starts : List ℕ
  pub exits : List ℕ
  pub parameters : List ℕ
  pub sites : List Site
  pub named : List (List ℕ × ℕ)
  pub globals : List (List ℕ)
  pub own : List (List (List ℕ))

-- the index of the procedure of the name
abbrev pub procedure_named : Supergraph → List ℕ → Option ℕ
procedure_named graph name = procedure_of_name graph.named name

-- the fact of the name at the nodes of a procedure
abbrev pub fact_named : Supergraph → ℕ → List ℕ → Option ℕ
fact_named graph procedure name = fact_of_name graph.globals (slice_index_or graph.own procedure []) name

-- the names of the facts at the nodes of a procedure, in the order of their numbers
abbrev pub fact_names : Supergraph → ℕ → List (List ℕ)
fact_names graph procedure = names_of_facts graph.globals (slice_index_or graph.own procedure [])

-- the name of a fact at a node: none past the nodes
abbrev pub name_at : Supergraph → ℕ → ℕ → Option (List ℕ)
name_at graph node fact = option_and_then (λ owner. slice_get (fact_names graph owner) fact) (slice_get graph.owners node)

-- the node is that at the position of the procedure of the name, and the fact that of its name there
pub record IsFoundAt (graph : Supergraph) (procedure : List ℕ) (position : ℕ) (name : List ℕ) (node fact : ℕ) : Type 0 where
  pub index : ℕ
  pub named : procedure_named graph procedure ≡ Some index
  pub stands : node ≡ slice_index graph.starts index + position
  pub within : node ≤ slice_index graph.exits index
  pub fact_is : fact_named graph index name ≡ Some fact

-- the procedure of the name has no such position, or no fact of the name
abbrev pub IsMissing : Supergraph → List ℕ → ℕ → List ℕ → Type 0
IsMissing graph procedure position name =
    (index : ℕ) × (procedure_named graph procedure ≡ Some index)
    × ((slice_index graph.exits index < slice_index graph.starts index + position) ⊎ (fact_named graph index name ≡ None))

-- there is no such procedure, or what is looked for is none of it
abbrev pub IsFindRefusal : Refused → Type 0
IsFindRefusal refused = (refused ≡ NoProcedure) ⊎ (refused ≡ OutOfRange)
