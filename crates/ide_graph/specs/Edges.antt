-- Edges that stay within a graph: each node that a site names is one of the graph's.
use Rattle.std.specs.Prelude.{ℕ, ◌<◌, List}
use Rattle.std.specs.Global.{Vec}
use Rattle.std.specs.List.{All}
use Rattle.ide_graph.specs.declared.edge.EdgeData.{EdgeData}
use Rattle.ide_graph.specs.declared.site.Caller.{Caller}
use Rattle.ide_graph.specs.declared.site.Site.{Site}
use Rattle.ide_graph.specs.declared.site.Site.TheVariants.{Normal, Call, Exit}

-- the edge ends at one of the first n nodes
abbrev pub EndsWithin : ℕ → EdgeData → Type 0
EndsWithin n edge = edge.end < n

-- the call, with both its edges, is among the first n nodes
abbrev pub IsCallerWithin : ℕ → Caller → Type 0
IsCallerWithin n caller = (caller.call_node < n) × (caller.call.end < n) × (caller.back.end < n)

-- each node that the site names is one of the first n
abbrev pub EdgesWithin : ℕ → Site → Type 0
EdgesWithin n (Normal edges) = All (EndsWithin n) edges
EdgesWithin n (Call calls along) = All (EndsWithin n) calls × (along.end < n)
EdgesWithin n (Exit start callers) = (start < n) × All (IsCallerWithin n) callers

-- each call in the lists, one list for each procedure, is among the first n nodes
abbrev pub AllCallersWithin : ℕ → List (Vec Caller) → Type 0
AllCallersWithin n callers = All (λ calls. All (IsCallerWithin n) calls.items) callers
