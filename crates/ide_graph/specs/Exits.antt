-- The exits of a graph, and their callers.
use Rattle.std.specs.Prelude.{◌≡◌, ℕ, ◌^◌, ◌≤◌, List, Some, length, slice_get, slice_index}
use Rattle.ide_text.specs.declared.program.Program.{Program}
use Rattle.ide_graph.specs.declared.site.Caller.{Caller}
use Rattle.ide_graph.specs.declared.site.Site.{Site}
use Rattle.ide_graph.specs.declared.site.Site.TheVariants.{Normal, Call, Exit}
use Rattle.ide_graph.specs.GraphOf.{IsGraphOf}
use Rattle.ide_graph.specs.ProgramEdges.{HasEdgesOf}
use Rattle.ide_graph.specs.Supergraph.{Supergraph}

-- each of its callers has an index
abbrev pub HasFewCallers : Site → Type 0
HasFewCallers (Normal edges) = Unit {0}
HasFewCallers (Call calls along) = Unit {0}
HasFewCallers (Exit start callers) = length callers ≤ 2 ^ 32

-- each exit is that of its node's procedure, and its callers can be counted
pub record AreExitsOwned (graph : Supergraph) : Type 0 where
  pub owned : (n : ℕ) (start : ℕ) (callers : List Caller) → slice_get graph.sites n ≡ Some (Exit start callers) → slice_index graph.exits (slice_index graph.owners n) ≡ n
  pub few : (n : ℕ) (site : Site) → slice_get graph.sites n ≡ Some site → HasFewCallers site

-- so are the exits of a program's graph
abbrev pub ExitsOfProgramsAreOwned : Type 0
ExitsOfProgramsAreOwned = (p : Program) (graph : Supergraph) → IsGraphOf p graph → HasEdgesOf p graph → AreExitsOwned graph
