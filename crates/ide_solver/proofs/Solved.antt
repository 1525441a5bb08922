-- From a core that was started and drained to the best values.
use Rattle.std.proofs.Common.{◌≡◌, ℕ, ◌⊎◌, inl, inr, cond, nat_lt, List, [], Some, map, IsTrue, ap, sym, subst, ◌∙◌}
use Rattle.std.specs.Prelude.{slice_index}
use Rattle.std.specs.List.{list_any}
use Rattle.std.proofs.lemmas.Option.{same_Some}
use Rattle.ide_graph.specs.Joined.{AreJoined, start_at}
use Rattle.ide_graph.specs.Supergraph.{Supergraph}
use Rattle.ide_lattice.specs.Algebra.{LatticeAlgebra, EdgeAlgebra}
use Rattle.ide_problem.specs.Flow.{Targets}
use Rattle.ide_image.specs.Tables.{Table, found}
use Rattle.ide_text.specs.Program.{value_of as program_value}
use Rattle.ide_theory.specs.Frame.{Frame}
use Rattle.ide_theory.specs.Graphs.{frame_at}
use Rattle.ide_theory.specs.Image.{IsMet}
use Rattle.ide_theory.specs.Member.{IsIn}
use Rattle.ide_theory.specs.Reached.{DoRunsGoOn}
use Rattle.ide_theory.specs.Run.{Steps}
use Rattle.ide_theory.specs.Sites.{HaveEdgesOf}
use Rattle.ide_wire.specs.Key.{same_key}
use Rattle.ide_wire.specs.declared.key.Key.TheVariants.{Jump}
use Rattle.ide_steps.specs.Core.{CoreData}
use Rattle.ide_steps.specs.Going.{GoesOn}
use Rattle.ide_steps.specs.State.{state_of}
use Rattle.ide_values.specs.Best.{AreBest, AreOf, TablesRest}
use Rattle.ide_values.specs.Values.{ValuesData, value_there}
use Rattle.ide_solver.specs.Solve.{AreRootNames, AreSolved}
use Rattle.ide_solver.specs.Started.{IsPrepared}

module _ {F L : Type 0} (A : LatticeAlgebra L) (B : EdgeAlgebra F L) (targets : Targets F)
    (goes_on : (graph : Supergraph) (all : HaveEdgesOf graph.facts graph.sites) → AreJoined graph.sites (start_at graph) → DoRunsGoOn (frame_at A B targets graph all))
    (proper_id : IsTrue (B.proper B.id)) where
  pub solved : (text : List ℕ) (names : List (List ℕ)) (rooted drained : CoreData F) (graph : Supergraph) (values : ValuesData L) (table : Table F)
      → IsPrepared A B targets text names rooted graph → GoesOn A B targets 0 rooted drained → drained.pile.pending ≡ []
      → drained.program ≡ Some values.program → drained.graph ≡ Some values.graph → values.roots ≡ drained.roots → table ≡ drained.table
      → AreBest A B targets values.graph values.roots table (value_there A values)
      → AreSolved A B targets text names values
  solved text names rooted drained before values table started goes quiet program_end at_end roots_end table_is best =
      record {
        spelled = is.spelled;
        program = same_Some values.program (program_value is.spelled.program) (sym program_end ∙ (goes.by.same.program ∙ is.loaded));
        named = subst (AreRootNames graph [] names) (sym roots_are) is.named;
        all = is.all;
        best = best is.spelled.program of is.all is_solved;
      }
    where
      graph : Supergraph
      graph = values.graph

      at_roots : rooted.graph ≡ Some graph
      at_roots = sym goes.by.same.graph ∙ at_end

      is : IsPrepared A B targets text names rooted graph
      is = subst (IsPrepared A B targets text names rooted) (same_Some before graph (sym started.is ∙ at_roots)) started

      roots_are : values.roots ≡ rooted.roots
      roots_are = roots_end ∙ goes.by.same.roots

      K : Frame
      K = frame_at A B targets graph is.all

      on : DoRunsGoOn K
      on = goes_on graph is.all is.fit.joined

      steps : Steps K (state_of B targets rooted) (state_of B targets drained)
      steps = (goes.by.steps graph at_roots is.all is.fit is.run).0

      kept : (r d : ℕ) → (cond (nat_lt d graph.entries) A.bottom A.top ≡ A.top) ⊎ IsMet K (state_of B targets rooted).get (Jump r d d) B.id
          → (cond (nat_lt d graph.entries) A.bottom A.top ≡ A.top) ⊎ IsMet K (state_of B targets drained).get (Jump r d d) B.id
      kept r d (inl top) = inl top
      kept r d (inr has) = inr (on.keeps (state_of B targets rooted) (state_of B targets drained) is.run steps (Jump r d d) B.id proper_id has)

      is_solved : TablesRest A B targets graph is.all values.roots table
      is_solved = record {
        state = state_of B targets drained;
        run = on.run (state_of B targets rooted) (state_of B targets drained) is.run steps;
        image = ap found (sym table_is);
        quiet = λ key. ap (list_any (same_key key)) quiet;
        begun = λ r d start within. kept r d (is.begun r d (subst (λ rs. IsIn r (map (slice_index graph.starts) rs)) roots_are start) within);
      }

      of : AreOf graph values.roots is.spelled.program
      of = record {
        numbered = is.spelled.counted;
        edges = is.spelled.edges;
        rooted = λ i among. is.within i (subst (IsIn i) roots_are among);
      }
