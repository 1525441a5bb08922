-- What is known of the graphs of programs: their frames are lawful, procedures begin at starts, and there is room for the
-- keys of a run.
use Rattle.std.proofs.Common.{◌≡◌, ◌∙◌, ◌<◌, ◌≤◌, ℕ, List, Option, Some, None, refl, ap, sym, subst, arith}
use Rattle.std.specs.Prelude.{slice_index}
use Rattle.std.specs.Option.{option_map}
use Rattle.ide_batch.proofs.Imaged.{starts_as}
use Rattle.ide_batch.specs.Fold.{procedures}
use Rattle.ide_text.proofs.Positions.{position_within}
use Rattle.ide_graph.specs.Closed.{GraphsOfProgramsAreClosed}
use Rattle.ide_graph.specs.Ends.{EndsOfProgramsAreNodes}
use Rattle.ide_graph.specs.Joined.{SitesOfProgramsAreJoined, start_at}
use Rattle.ide_graph.specs.Numbers.{procedure_of, start_of}
use Rattle.ide_lattice.specs.Algebra.{LatticeAlgebra, EdgeAlgebra}
use Rattle.ide_lattice.specs.Laws.{IsLattice, IsEdgeAlgebra}
use Rattle.ide_problem.specs.Flow.{Targets, IsFlow}
use Rattle.ide_steps.proofs.Room.{all_keys, in-all, length-all}
use Rattle.ide_text.specs.Names.{is_named}
use Rattle.ide_text.specs.Program.{procedures_of}
use Rattle.ide_text.specs.Value.{ProgramValue}
use Rattle.ide_theory.specs.Given.{IsGraph}
use Rattle.ide_theory.specs.Sites.{edges_of}
use Rattle.ide_theory.specs.Theorem.{KeysStandAtNodes}
use Rattle.ide_theory.proofs.Laws.Changes.{none-some, some-inj}
use Rattle.ide_theory.proofs.Laws.Given.{lawful-frame}
use Rattle.ide_theory.proofs.Laws.Reached.{run-reached}
use Rattle.ide_theory.proofs.Laws.Sites.{joined-graph}
use Rattle.ide_store.specs.Answers.{GraphBy}
use Rattle.ide_store.specs.Known.{Known}

module _ (closed : GraphsOfProgramsAreClosed) (joined : SitesOfProgramsAreJoined) where
  is_graph : {v : ProgramValue} (by : GraphBy v) → IsGraph (edges_of by.graph.facts by.graph.sites by.all (start_at by.graph))
  is_graph by = joined-graph by.graph.facts by.graph.sites by.all (start_at by.graph) (joined by.program by.graph by.graphed by.edges)

  -- a procedure's start is its own
  own_start : {v : ProgramValue} (by : GraphBy v) (i : ℕ) → i < by.graph.procedures
      → start_at by.graph (start_of (procedures_of by.program) i) ≡ start_of (procedures_of by.program) i
  own_start by i less =
      let is : slice_index by.graph.starts i ≡ start_of (procedures_of by.program) i = by.graphed.starts i (subst (λ (n : ℕ). i < n) by.graphed.procedures less) in
      subst (λ (n : ℕ). start_at by.graph n ≡ n) is
      (ap (slice_index by.graph.starts) ((closed by.program by.graph by.graphed by.edges).home i less))

  starts_at : {v : ProgramValue} (by : GraphBy v) (name : List ℕ) (r : ℕ) → procedures.start v name ≡ Some r → start_at by.graph r ≡ r
  starts_at by name r is = found (procedure_of (procedures_of by.program) name) refl
    where
      there : option_map (start_of (procedures_of by.program)) (procedure_of (procedures_of by.program) name) ≡ Some r
      there = sym (starts_as by.program name) ∙ ap (λ u. procedures.start u name) by.says ∙ is

      found : (o : Option ℕ) → procedure_of (procedures_of by.program) name ≡ o → start_at by.graph r ≡ r
      found None none = elim (none-some (sym (ap (option_map (start_of (procedures_of by.program))) none) ∙ there)) [ ]
      found (Some i) some =
          let same : start_of (procedures_of by.program) i ≡ r = some-inj (sym (ap (option_map (start_of (procedures_of by.program))) some) ∙ there) in
          subst (λ (n : ℕ). start_at by.graph n ≡ n) same (own_start by i (subst (λ (n : ℕ). i < n) (sym by.graphed.procedures) (position_within (is_named name) (procedures_of by.program) i some)))

  module _ {F L : Type 0} (A : LatticeAlgebra L) (B : EdgeAlgebra F L) (targets : Targets F)
      (lattice_laws : IsLattice A) (function_laws : IsEdgeAlgebra A B) (flow : IsFlow B targets)
      (ends : EndsOfProgramsAreNodes) (placed : KeysStandAtNodes A B targets) where
    pub known : Known A B targets
    known = record {
      lawful = λ by. lawful-frame A B targets lattice_laws function_laws flow _ (is_graph by);
      starts = λ by name r is. starts_at by name r is;
      fits = λ by. entries_fit by;
      keys = λ by. (
        all_keys by.graph,
        length-all by.graph,
        λ s run key f is.
            let within = placed by.graph (joined by.program by.graph by.graphed by.edges) (ends by.program by.graph by.graphed by.edges) by.all s run in
            let ranged = (run-reached _ (lawful-frame A B targets lattice_laws function_laws flow _ (is_graph by)) run).ranged in
            in-all by.graph (closed by.program by.graph by.graphed by.edges).sited key (within.keys key f is) (ranged.keys key f is),
      );
    }
      where
        entries_fit : {v : ProgramValue} (by : GraphBy v) → procedures.entries v ≤ by.graph.facts
        entries_fit by =
            let facts = by.graphed.counts.0 in
            subst (λ (u : ProgramValue). procedures.entries u ≤ by.graph.facts) by.says (omega (arith, facts))
