-- How the sites of a graph fit together.
use Rattle.std.specs.Prelude.{◌≡◌, ℕ, List, Some, slice_get, slice_index}
use Rattle.std.specs.List.{Contains}
use Rattle.ide_text.specs.declared.program.Program.{Program}
use Rattle.ide_graph.specs.declared.edge.EdgeData.{EdgeData}
use Rattle.ide_graph.specs.declared.site.Caller.{Caller}
use Rattle.ide_graph.specs.declared.site.Site.{Site}
use Rattle.ide_graph.specs.declared.site.Site.TheVariants.{Normal, Call, Exit}
use Rattle.ide_graph.specs.GraphOf.{IsGraphOf}
use Rattle.ide_graph.specs.ProgramEdges.{HasEdgesOf}
use Rattle.ide_graph.specs.Supergraph.{Supergraph}

-- the site has the edge along its procedure
abbrev pub HasFlat : Site → EdgeData → Type 0
HasFlat (Normal edges) edge = Contains edges edge
HasFlat (Call calls along) edge = edge ≡ along
HasFlat (Exit start callers) edge = ⊥

-- the site has the edge to a callee
abbrev pub HasCall : Site → EdgeData → Type 0
HasCall (Normal edges) edge = ⊥
HasCall (Call calls along) edge = Contains calls edge
HasCall (Exit start callers) edge = ⊥

-- calls at the site return to the node
abbrev pub ReturnsTo : Site → ℕ → Type 0
ReturnsTo (Normal edges) m = ⊥
ReturnsTo (Call calls along) m = m ≡ along.end
ReturnsTo (Exit start callers) m = ⊥

-- the site has the caller
abbrev pub HasCaller : Site → Caller → Type 0
HasCaller (Normal edges) caller = ⊥
HasCaller (Call calls along) caller = ⊥
HasCaller (Exit start callers) caller = Contains callers caller

-- an exit has the call at the node n among its callers
pub record IsEntered (sites : List Site) (n : ℕ) (edge : EdgeData) : Type 0 where
  pub exit : ℕ
  pub site : Site
  pub caller : Caller
  pub stands : slice_get sites exit ≡ Some site
  pub has : HasCaller site caller
  pub node : caller.call_node ≡ n
  pub call : caller.call ≡ edge

-- the caller at the exit m is a call at its node: it leads to the start of the exit's procedure, and
-- the way back to the return site of that call, in its procedure
pub record IsLeft (sites : List Site) (start_of : ℕ → ℕ) (m : ℕ) (caller : Caller) : Type 0 where
  pub site : Site
  pub stands : slice_get sites caller.call_node ≡ Some site
  pub has : HasCall site caller.call
  pub returns : ReturnsTo site caller.back.end
  pub exit : start_of m ≡ caller.call.end
  pub back : start_of caller.back.end ≡ start_of caller.call_node

-- the sites fit together, where each node's procedure begins as told: edges stay in their procedures
-- or lead to callees, whose exits know them
pub record AreJoined (sites : List Site) (start_of : ℕ → ℕ) : Type 0 where
  pub flat : (n : ℕ) (s : Site) (e : EdgeData) → slice_get sites n ≡ Some s → HasFlat s e → start_of e.end ≡ start_of n
  pub callee : (n : ℕ) (s : Site) (e : EdgeData) → slice_get sites n ≡ Some s → HasCall s e → start_of e.end ≡ e.end
  pub entered : (n : ℕ) (s : Site) (e : EdgeData) → slice_get sites n ≡ Some s → HasCall s e → IsEntered sites n e
  pub left : (m : ℕ) (s : Site) (c : Caller) → slice_get sites m ≡ Some s → HasCaller s c → IsLeft sites start_of m c
  pub some : (n : ℕ) (s : Site) (m : ℕ) → slice_get sites n ≡ Some s → ReturnsTo s m → (e : EdgeData) × HasCall s e

-- the start of the node's procedure
abbrev pub start_at : Supergraph → ℕ → ℕ
start_at graph n = slice_index graph.starts (slice_index graph.owners n)

-- the sites of a program's graph fit together
abbrev pub SitesOfProgramsAreJoined : Type 0
SitesOfProgramsAreJoined = (p : Program) (graph : Supergraph) → IsGraphOf p graph → HasEdgesOf p graph → AreJoined graph.sites (start_at graph)
