-- Laws of the edges of a program.
use Rattle.std.specs.Prelude.{ℕ, ◌+◌, ◌≡◌, ◌≢◌, Some, slice_get}
use Rattle.ide_text.specs.declared.program.Program.{Program}
use Rattle.ide_text.specs.Program.{procedures_of}
use Rattle.ide_graph.specs.declared.edge.EdgeData.{EdgeData}
use Rattle.ide_graph.specs.declared.site.Site.{Site}
use Rattle.ide_graph.specs.Lawful.{IsEdge}
use Rattle.ide_graph.specs.Numbers.{Spot, start, return_site, exit, nodes_of, exit_of, facts_of}
use Rattle.ide_graph.specs.ProgramEdges.{CallAt, IsNormal, IsCall, IsAlong, IsBack, IsSiteOf}

-- the two nodes are of one procedure, and the second is not its start
pub record StayWithin (p : Program) (from to : ℕ) : Type 0 where
  pub index : ℕ
  pub first : Spot
  pub second : Spot
  pub leaves : slice_get (nodes_of (procedures_of p)) from ≡ Some (index, first)
  pub comes : slice_get (nodes_of (procedures_of p)) to ≡ Some (index, second)
  pub inner : second ≢ start

-- a normal edge stays in its procedure, and does not end at the start
abbrev pub NormalEdgesStayWithin : Type 0
NormalEdgesStayWithin = (p : Program) (n : ℕ) (edge : EdgeData) → IsNormal p n edge → StayWithin p n edge.end

-- so does a call-to-return edge, which ends at the return site
abbrev pub AlongEdgesReachTheReturnSite : Type 0
AlongEdgesReachTheReturnSite = (p : Program) (n : ℕ) (edge : EdgeData) → IsAlong p n edge → StayWithin p n edge.end × (index : ℕ) × (slice_get (nodes_of (procedures_of p)) edge.end ≡ Some (index, return_site))

-- a call edge ends at the start of the callee
abbrev pub CallEdgesEnter : Type 0
CallEdgesEnter = (p : Program) (n callee : ℕ) (edge : EdgeData) → IsCall p n callee edge → slice_get (nodes_of (procedures_of p)) edge.end ≡ Some (callee, start)

-- a return edge leaves the exit of the callee, and comes to the return site of the call, which is the node after it
pub record Returns (p : Program) (n callee : ℕ) (edge : EdgeData) : Type 0 where
  pub leaves : slice_get (nodes_of (procedures_of p)) (exit_of (procedures_of p) callee) ≡ Some (callee, exit)
  pub after : edge.end ≡ n + 1
  pub index : ℕ
  pub comes : slice_get (nodes_of (procedures_of p)) edge.end ≡ Some (index, return_site)
  pub within : StayWithin p n edge.end

-- each return edge does so
abbrev pub BackEdgesReturn : Type 0
BackEdgesReturn = (p : Program) (n callee : ℕ) (edge : EdgeData) → IsBack p n callee edge → Returns p n callee edge

-- the node before a return site is its call node
abbrev pub ReturnSitesFollowCalls : Type 0
ReturnSitesFollowCalls = (p : Program) (m index : ℕ) → slice_get (nodes_of (procedures_of p)) m ≡ Some (index, return_site) → (n : ℕ) × (m ≡ n + 1) × CallAt p n

-- the facts of an edge are those of the program, and it is as a flow function may rely on
pub record IsLawful (p : Program) (edge : EdgeData) : Type 0 where
  pub lawful : IsEdge edge
  pub facts : edge.facts ≡ facts_of p

-- so is each edge of the program
pub record AreLawful (p : Program) : Type 0 where
  pub normal : (n : ℕ) (edge : EdgeData) → IsNormal p n edge → IsLawful p edge
  pub call : (n callee : ℕ) (edge : EdgeData) → IsCall p n callee edge → IsLawful p edge
  pub along : (n : ℕ) (edge : EdgeData) → IsAlong p n edge → IsLawful p edge
  pub back : (n callee : ℕ) (edge : EdgeData) → IsBack p n callee edge → IsLawful p edge

-- the edges of a program are lawful
abbrev pub EdgesAreLawful : Type 0
EdgesAreLawful = (p : Program) → AreLawful p

-- a node has one site
abbrev pub NodesHaveOneSite : Type 0
NodesHaveOneSite = (p : Program) (n : ℕ) (s t : Site) → IsSiteOf p n s → IsSiteOf p n t → s ≡ t
