-- The lines of a dump.
use Rattle.std.specs.Global.{Vec}
use Rattle.std.specs.Prelude.{◌≡◌, ℕ, ◌-◌, List, [], ◌++◌, Option, Some, None, codes, decimal, length, replicate}
use Rattle.std.specs.Io.KnownBytes.{Appends as WritesOut}
use Rattle.std.specs.List.{flat_map, range_with_len}
use Rattle.ide_graph.specs.Supergraph.{Supergraph, name_at}

-- the text is appended
abbrev pub Appends : List ℕ → (old new : Vec ℕ) → Type 0
Appends text old new = new.items ≡ old.items ++ text

-- a beginning of the bytes is written, and the rest of them is left
pub record Moves (old new : List ℕ) (before after : Option (List ℕ)) : Type 0 where
  pub written : List ℕ
  pub split : old ≡ written ++ new
  pub appends : WritesOut before after written

-- a text at the right end of a column, and a space
abbrev pub right : ℕ → List ℕ → List ℕ
right width text = replicate (width - length text) 32 ++ text ++ codes " "

-- a text at the left end of a column, and a space
abbrev pub left : ℕ → List ℕ → List ℕ
left width text = text ++ replicate (width - length text) 32 ++ codes " "

-- the column of a node's number
abbrev pub node_column : ℕ → List ℕ
node_column node = right 6 (decimal node)

-- the columns of a fact's number and its name
abbrev pub fact_columns : ℕ → List ℕ → List ℕ
fact_columns fact name = right 4 (decimal fact) ++ left 31 name

-- the columns of a line before its value: both numbers and the fact's name
abbrev pub columns_of : ℕ → ℕ → List ℕ → List ℕ
columns_of node fact name = node_column node ++ fact_columns fact name

-- the line of a fact at a node: its columns, and its value as it is shown
abbrev pub line_of : ℕ → ℕ → List ℕ → List ℕ → List ℕ
line_of node fact name shown = columns_of node fact name ++ shown ++ codes "\n"

-- the line of a fact that has a name
abbrev pub line_if : ℕ → ℕ → Option (List ℕ) → List ℕ → List ℕ
line_if node fact None shown = []
line_if node fact (Some name) shown = line_of node fact name shown

-- the lines of a node: one for each fact that has a name there, ascending
abbrev pub lines_at : Supergraph → (ℕ → ℕ → List ℕ) → ℕ → List ℕ
lines_at graph shown node = flat_map (λ fact. line_if node fact (name_at graph node fact) (shown node fact)) (range_with_len 0 graph.facts)

-- the dump of the values of a graph's facts at its nodes, where these are shown
abbrev pub dump_of : Supergraph → (ℕ → ℕ → List ℕ) → List ℕ
dump_of graph shown = flat_map (lines_at graph shown) (range_with_len 0 graph.nodes)
