-- What the theorems of the crate say, for any analysis over any supergraph.
use Rattle.std.specs.Prelude.{◌≡◌, ℕ, ◌<◌, ◌≤◌, Bool, List, [], ◌∷◌, ◌++◌, Option, Some}
use Rattle.ide_lattice.specs.Algebra.{LatticeAlgebra, EdgeAlgebra}
use Rattle.ide_problem.specs.Flow.{Targets}
use Rattle.ide_theory.specs.Frame.{Frame, Roots, AreRoots}
use Rattle.ide_theory.specs.Path.{Valid}
use Rattle.ide_theory.specs.Best.{IsBest}
use Rattle.ide_theory.specs.Bounds.{AreClaimsPaid, AreLoweringsFew}
use Rattle.ide_theory.specs.Image.{IsMet, HasRoots}
use Rattle.ide_theory.specs.Value.{IsStarted, value_at}
use Rattle.ide_theory.specs.State.{State}
use Rattle.ide_theory.specs.Run.{ArePartsOf, Run, Steps, seeds_in, IsQuiet}
use Rattle.ide_theory.specs.Parts.{NodeEdges, AreEdgesOf, parts_of, AreKeysInRange}
use Rattle.ide_theory.specs.Reached.{IsRunOf, DoRunsGoOn}
use Rattle.ide_wire.specs.declared.key.Key.{Key}
use Rattle.ide_wire.specs.declared.key.Key.TheVariants.{Jump}
use Rattle.ide_theory.specs.Images.{Procedures, Image, Root, with_state, seeded_below, absent_below, step, after_steps_of, image_steps_in, IsSame, AreSeeds}
use Rattle.ide_theory.specs.Invariant.{IsInvariant, unclaimed}
use Rattle.ide_text.specs.declared.program.Program.{Program}
use Rattle.ide_graph.specs.Ends.{AreEndsNodes}
use Rattle.ide_graph.specs.GraphOf.{IsGraphOf}
use Rattle.ide_graph.specs.Joined.{AreJoined, start_at}
use Rattle.ide_graph.specs.ProgramEdges.{HasEdgesOf}
use Rattle.ide_graph.specs.Supergraph.{Supergraph as Graph}
use Rattle.ide_theory.specs.Sites.{HaveEdgesOf, edges_of, node_edges}
use Rattle.ide_graph.specs.declared.site.Site.{Site}
use Rattle.ide_theory.specs.Given.{Edge, Edges, IsGraph, frame_of, roots_of}
use Rattle.ide_theory.specs.Graphs.{frame_at}
use Rattle.ide_theory.specs.Within.{AreAllWithin}

-- where nothing is pending, the roots have their identities and the start values stand, the values
-- that follow are best, at each node and fact
abbrev pub GivesBest : (K : Frame) → Roots K → State K.F → Type 0
GivesBest K R s =
    IsQuiet s → HasRoots K R s.get → (start : ℕ → ℕ → K.L) → IsStarted K R s.get start
    → (n d : ℕ) → d < K.facts → IsBest K R n d (value_at K s.get start n d)

-- two best values are the same
abbrev pub HasOneBest : (K : Frame) → Roots K → Type 0
HasOneBest K R = (n d : ℕ) (v w : K.L) → IsBest K R n d v → IsBest K R n d w → v ≡ w

-- where no valid path from a root leads, top is best
abbrev pub HasTopUnreached : (K : Frame) → Roots K → Type 0
HasTopUnreached K R =
    (n d : ℕ) → ((r : ℕ) (es : List K.graph.Edge) → R.IsRoot r → Valid K.graph r es n → ⊥) → IsBest K R n d K.lattice.top

module _ {L F : Type 0} (lattice : LatticeAlgebra L) (functions : EdgeAlgebra F L) (targets : Targets F) where
  -- it holds over each supergraph with roots
  abbrev pub ForEach : ((K : Frame) → Roots K → Type 0) → Type 0
  ForEach P =
      (G : Edges) → IsGraph G → (roots : List ℕ) (entry : ℕ → L)
      → AreRoots (frame_of lattice functions targets G) (roots_of (frame_of lattice functions targets G) roots entry)
      → P (frame_of lattice functions targets G) (roots_of (frame_of lattice functions targets G) roots entry)

  -- a state that keeps the invariant gives best values
  abbrev pub ValuesAreBest : Type 0
  ValuesAreBest = ForEach (λ K R. (s : State K.F) → IsInvariant K s → GivesBest K R s)

  -- a run from nothing on, by any hands, gives best values
  abbrev pub RunsAreBest : Type 0
  RunsAreBest = ForEach (λ K R. (s : State K.F) → Run K s → GivesBest K R s)

  abbrev pub BestIsUnique : Type 0
  BestIsUnique = ForEach HasOneBest

  abbrev pub TopIsBest : Type 0
  TopIsBest = ForEach HasTopUnreached

  -- the list of a key's parts is what a claim of it owes, in each state that a run comes to
  abbrev pub PartsAreOwed : Type 0
  PartsAreOwed =
      (G : Edges) → IsGraph G → (at : ℕ → NodeEdges (Edge G.facts)) → AreEdgesOf (frame_of lattice functions targets G) at
      → (s : State F) → Run (frame_of lattice functions targets G) s
      → (q : Key) → ArePartsOf (frame_of lattice functions targets G) s.get q (parts_of (frame_of lattice functions targets G) s.get at q)

  -- and so it is in each image whose keys are in range
  abbrev pub PartsInRangeAreOwed : Type 0
  PartsInRangeAreOwed =
      (G : Edges) → IsGraph G → (at : ℕ → NodeEdges (Edge G.facts)) → AreEdgesOf (frame_of lattice functions targets G) at
      → (get : Key → Option F) → AreKeysInRange (frame_of lattice functions targets G) get
      → (q : Key) → ArePartsOf (frame_of lattice functions targets G) get q (parts_of (frame_of lattice functions targets G) get at q)

  -- what each state that a run comes to is like
  abbrev pub RunsAreSound : Type 0
  RunsAreSound =
      (G : Edges) → IsGraph G → (s : State F) → Run (frame_of lattice functions targets G) s → IsRunOf (frame_of lattice functions targets G) s

  -- runs go on by steps
  abbrev pub RunsGoOn : Type 0
  RunsGoOn = (G : Edges) → IsGraph G → DoRunsGoOn (frame_of lattice functions targets G)

  -- where all claims of a run are given back, as at a stop, it is a run
  abbrev pub ReleasedRunsAreRuns : Type 0
  ReleasedRunsAreRuns =
      (G : Edges) (s : State F) → Run (frame_of lattice functions targets G) s → Run (frame_of lattice functions targets G) (unclaimed s)

  -- where a jump is present, the start of its procedure has received the identity of the jump's first fact
  abbrev pub StartsAreSeeded : Type 0
  StartsAreSeeded =
      (G : Edges) → IsGraph G → (s : State F) → Run (frame_of lattice functions targets G) s → (n a b : ℕ) (f : F) → s.get (Jump n a b) ≡ Some f
      → IsMet (frame_of lattice functions targets G) s.get (Jump (G.start_of n) a a) functions.id

  -- claims are paid by keys that wait no more, lowerings by ranks
  abbrev pub ClaimsArePaid : Type 0
  ClaimsArePaid = (G : Edges) → IsGraph G → AreClaimsPaid (frame_of lattice functions targets G)

  abbrev pub LoweringsAreFew : Type 0
  LoweringsAreFew = (G : Edges) → IsGraph G → AreLoweringsFew (frame_of lattice functions targets G)

  -- the steps of hands alone are those of an image
  abbrev pub WaysAreImageSteps : Type 0 → Type 0 → Type 0
  WaysAreImageSteps Code Name =
      (procedures : Procedures Code Name) (same : F → F → Bool) → IsSame same → (G : Edges) (i : Image Code Name F) (s t : State F)
      → (way : Steps (frame_of lattice functions targets G) s t) → seeds_in way ≡ 0
      → after_steps_of procedures functions same (with_state i s) (image_steps_in way) ≡ with_state i t

  -- and a root's step of an image is its absent entries, one after the other
  abbrev pub RootsAreWays : Type 0 → Type 0 → Type 0
  RootsAreWays Code Name =
      (procedures : Procedures Code Name) (same : F → F → Bool) (G : Edges) (i : Image Code Name F) (s : State F) (p : Code) (name : Name) (r : ℕ)
      → i.program ≡ Some p → procedures.start p name ≡ Some r → G.start_of r ≡ r → procedures.entries p ≤ G.facts
      → AreSeeds (frame_of lattice functions targets G) s (seeded_below functions s r (procedures.entries p)) (absent_below functions s r (procedures.entries p))
      × (step procedures functions same (with_state i s) (Root name)
      ≡ record (with_state i (seeded_below functions s r (procedures.entries p))) { roots = i.roots ++ name ∷ [] })

  -- sites that fit together make a supergraph, and their edges are what stands at its nodes
  abbrev pub SitesMakeAGraph : Type 0
  SitesMakeAGraph =
      (facts : ℕ) (sites : List Site) (all : HaveEdgesOf facts sites) (start_of : ℕ → ℕ) → AreJoined sites start_of
      → IsGraph (edges_of facts sites all start_of)
      × AreEdgesOf (frame_of lattice functions targets (edges_of facts sites all start_of)) (node_edges facts sites all)

  -- the graph of a program has lawful edges, is a supergraph, and has its sites' edges at its nodes
  abbrev pub GraphsAreSupergraphs : Type 0
  GraphsAreSupergraphs =
      (p : Program) (graph : Graph) → IsGraphOf p graph → HasEdgesOf p graph
      → (all : HaveEdgesOf graph.facts graph.sites)
      × IsGraph (edges_of graph.facts graph.sites all (start_at graph))
      × AreEdgesOf (frame_of lattice functions targets (edges_of graph.facts graph.sites all (start_at graph))) (node_edges graph.facts graph.sites all)

  -- the keys and the parts of a run stand at the nodes of its graph, where edges end at nodes
  abbrev pub KeysStandAtNodes : Type 0
  KeysStandAtNodes =
      (graph : Graph) → AreJoined graph.sites (start_at graph) → AreEndsNodes graph
      → (all : HaveEdgesOf graph.facts graph.sites) (s : State F) → Run (frame_at lattice functions targets graph all) s
      → AreAllWithin graph s
