-- A core that was loaded and rooted is ready to be drained.
use Rattle.std.proofs.Common.{◌≡◌, ℕ, ◌<◌, List, [], Option, Some, None, map, refl, ap, sym, subst, ◌∙◌, arith}
use Rattle.std.specs.Prelude.{slice_index, slice_index_or}
use Rattle.std.specs.Option.{IsSomeAnd}
use Rattle.ide_graph.specs.Closed.{GraphsOfProgramsAreClosed}
use Rattle.ide_graph.specs.Ends.{EndsOfProgramsAreNodes}
use Rattle.ide_graph.specs.Exits.{ExitsOfProgramsAreOwned}
use Rattle.ide_graph.specs.GraphOf.{IsGraphOf}
use Rattle.ide_graph.specs.Joined.{AreJoined, SitesOfProgramsAreJoined, start_at}
use Rattle.ide_graph.specs.ProgramEdges.{HasEdgesOf}
use Rattle.ide_graph.specs.Supergraph.{Supergraph}
use Rattle.ide_lattice.specs.Algebra.{LatticeAlgebra, EdgeAlgebra}
use Rattle.ide_problem.specs.Flow.{Targets}
use Rattle.ide_text.specs.Parsed.{IsParsed}
use Rattle.ide_text.specs.Program.{value_of}
use Rattle.ide_text.specs.declared.program.Program.{Program}
use Rattle.ide_theory.specs.Graphs.{frame_at, roots_at}
use Rattle.ide_theory.specs.Image.{HasRoots}
use Rattle.ide_theory.specs.Member.{IsIn}
use Rattle.ide_theory.specs.Members.{not-in-empty}
use Rattle.ide_theory.specs.Reached.{DoRunsGoOn}
use Rattle.ide_theory.specs.Run.{Run, begins}
use Rattle.ide_theory.specs.Sites.{HaveEdgesOf}
use Rattle.ide_theory.specs.State.{nothing_done}
use Rattle.ide_theory.specs.Theorem.{GraphsAreSupergraphs}
use Rattle.ide_steps.specs.Core.{CoreData}
use Rattle.ide_steps.specs.State.{state_of}
use Rattle.ide_solver.specs.Begun.{AreBegun, IsInOrder}
use Rattle.ide_solver.specs.Solve.{AreRootNames}
use Rattle.ide_solver.specs.Started.{IsPrepared}

-- the laws of programs' graphs and of runs that are called on
pub record Laws {F L : Type 0} (A : LatticeAlgebra L) (B : EdgeAlgebra F L) (targets : Targets F) : Type 0 where
  pub supergraphs : GraphsAreSupergraphs A B targets
  pub joined : SitesOfProgramsAreJoined
  pub closed : GraphsOfProgramsAreClosed
  pub exits : ExitsOfProgramsAreOwned
  pub ends : EndsOfProgramsAreNodes
  pub goes : (graph : Supergraph) (all : HaveEdgesOf graph.facts graph.sites) → AreJoined graph.sites (start_at graph) → DoRunsGoOn (frame_at A B targets graph all)

held : {T : Type 0} (P : T → Type 0) (o : Option T) → IsSomeAnd o P → (x : T) × (o ≡ Some x)
held P None h = absurd h
held P (Some x) h = (x, refl)

module _ {F L : Type 0} (A : LatticeAlgebra L) (B : EdgeAlgebra F L) (targets : Targets F) (laws : Laws A B targets) where
  pub started : (text : List ℕ) (names : List (List ℕ)) (p : Program) → IsParsed text p → (loaded rooted : CoreData F)
      → loaded.program ≡ Some (value_of p) → IsSomeAnd loaded.graph (IsGraphOf p) → IsSomeAnd loaded.graph (HasEdgesOf p) → state_of B targets loaded ≡ nothing_done F → loaded.roots ≡ []
      → loaded.pile.claims ≡ [] → AreBegun A B targets loaded rooted names
      → (graph : Supergraph) × IsPrepared A B targets text names rooted graph
  started text names p parsed loaded rooted has_program has_graph has_edges state no_roots no_claims begun = (
    graph,
    record {
      is = begun.same ∙ at_load;
      spelled = record { program = p; parsed = parsed; counted = numbered; edges = edges };
      loaded = begun.program ∙ has_program;
      named = subst (λ rs. AreRootNames graph rs names rooted.roots) no_roots (begun.named graph at_load);
      within = begun.within graph at_load none_before;
      fit = record {
        joined = joined;
        few = omega (arith, numbered.few.1);
        exits = laws.exits p graph numbered edges;
        ends = laws.ends p graph numbered edges;
      };
      all = all;
      run = goes_on.run (state_of B targets loaded) (state_of B targets rooted) run_load (begun.steps graph at_load all ready run_load);
      begun = begun.begun graph at_load all ready run_load has_none;
      unclaimed = begun.unclaimed (λ h. ap (λ claims. slice_index_or claims h None) no_claims);
    },
  )
    where
      graph : Supergraph
      graph = (held (IsGraphOf p) loaded.graph has_graph).0

      at_load : loaded.graph ≡ Some graph
      at_load = (held (IsGraphOf p) loaded.graph has_graph).1

      numbered : IsGraphOf p graph
      numbered = subst (λ o. IsSomeAnd o (IsGraphOf p)) at_load has_graph

      edges : HasEdgesOf p graph
      edges = subst (λ o. IsSomeAnd o (HasEdgesOf p)) at_load has_edges

      all : HaveEdgesOf graph.facts graph.sites
      all = (laws.supergraphs p graph numbered edges).0

      joined : AreJoined graph.sites (start_at graph)
      joined = laws.joined p graph numbered edges

      ready : IsInOrder graph
      ready = record {
        joined = joined;
        home = λ i h. ap (slice_index graph.starts) ((laws.closed p graph numbered edges).home i h);
        entries = omega (arith, numbered.counts.0, numbered.counts.1);
      }

      goes_on : DoRunsGoOn (frame_at A B targets graph all)
      goes_on = laws.goes graph all joined

      run_load : Run (frame_at A B targets graph all) (state_of B targets loaded)
      run_load = subst (Run (frame_at A B targets graph all)) (sym state) begins

      has_none : HasRoots (frame_at A B targets graph all) (roots_at A B targets graph all loaded.roots) (state_of B targets loaded).get
      has_none r d start within = elim (not-in-empty (subst (λ rs. IsIn r (map (slice_index graph.starts) rs)) no_roots start)) [ ]

      none_before : (i : ℕ) → IsIn i loaded.roots → i < graph.procedures
      none_before i among = elim (not-in-empty (subst (IsIn i) no_roots among)) [ ]
