-- The values of an image that acts of a store led to are best. What was kept through all acts says that without its claims
-- the image is the end of a run over the graph of its program, and that its roots, which names tell, have their
-- identities; so have the roots that indices tell, since they are the same procedures.
use Rattle.std.proofs.Common.{◌≡◌, ◌∙◌, ◌<◌, ℕ, List, Option, Some, Result, Ok, Err, map, ap, sym, subst, inl, inr}
use Rattle.std.proofs.Math.Logic.{∥∥₁_map₂}
use Rattle.std.specs.Prelude.{IfOk, cond, nat_lt, slice_index, unwrap_or}
use Rattle.std.specs.Option.{option_map}
use Rattle.ide_batch.proofs.Imaged.{starts_as}
use Rattle.ide_batch.specs.Applied.{named_in}
use Rattle.ide_batch.specs.Fold.{procedures}
use Rattle.ide_text.proofs.Positions.{position_within}
use Rattle.ide_graph.specs.Numbers.{procedure_of, start_of}
use Rattle.ide_graph.specs.Supergraph.{Supergraph}
use Rattle.ide_store.specs.Versioned.{VersionedEntry}
use Rattle.ide_lattice.specs.Algebra.{LatticeAlgebra, EdgeAlgebra}
use Rattle.ide_problem.specs.Flow.{Targets}
use Rattle.ide_steps.specs.Frozen.{graph_in, program_in}
use Rattle.ide_steps.specs.Room.{IsGraphSaid, IsWholeCore}
use Rattle.ide_steps.specs.declared.closed.Closed.{Closed}
use Rattle.ide_store.proofs.Good.{IsGood, has_roots}
use Rattle.ide_store.proofs.Hands.{good_now}
use Rattle.ide_store.proofs.Places.{exact_at, laws_at}
use Rattle.ide_store.proofs.Reached.{Knows, reached_whole}
use Rattle.ide_store.specs.Answers.{GraphBy, frame_by, roots_by}
use Rattle.ide_store.specs.Freezing.{IsImageOf, IsImageOver}
use Rattle.ide_store.specs.Places.{Place}
use Rattle.ide_store.specs.Runs.{IsImageOfRun}
use Rattle.ide_store.specs.Table.{Analysis, StoreWorld, TableData, WorksOn, forms_of, store_at}
use Rattle.ide_text.specs.Names.{is_named}
use Rattle.ide_text.specs.Program.{procedures_of}
use Rattle.ide_text.specs.Value.{ProgramValue}
use Rattle.ide_theory.proofs.Laws.Changes.{some-inj}
use Rattle.ide_theory.specs.Graphs.{frame_at, roots_at}
use Rattle.ide_theory.specs.Image.{HasRoots}
use Rattle.ide_theory.specs.Images.{image_state}
use Rattle.ide_theory.specs.Member.{IsIn}
use Rattle.ide_theory.specs.Members.{in-map, of-map}
use Rattle.ide_theory.specs.Sites.{HaveEdgesOf}
use Rattle.ide_theory.specs.Theorem.{GraphsAreSupergraphs}
use Rattle.ide_values.specs.Best.{AreOf, TablesRest}
use Rattle.ide_values.specs.Frozen.{AreBestOf}
use Rattle.ide_values.specs.Values.{ValuesData}
use Rattle.ide_wire.specs.declared.key.Key.{Key}
use Rattle.ide_wire.specs.declared.refused.Refused.{Refused}
use Rattle.ide_solver.proofs.Results.{if-ok}
use Rattle.ide_service.specs.Served.{AreAnswersOfRun, AreAnswersOver, ValuesOfRunsAreBest}

module _ {v : ProgramValue} (by : GraphBy v) (names : List (List ℕ)) (roots : List ℕ)
    (same : map (named_in (Some by.graph)) names ≡ map (λ root. Some root) roots) where
  -- a root is the procedure of one of the names
  named_of : (i : ℕ) → IsIn i roots → (name : List ℕ) × IsIn name names × (procedure_of (procedures_of by.program) name ≡ Some i)
  named_of i among =
      let has : IsIn (Some i) (map (named_in (Some by.graph)) names) = subst (IsIn (Some i)) (sym same) (in-map (λ (root : ℕ). Some root) among) in
      let found = of-map (named_in (Some by.graph)) names has in
      (found.0, found.1, sym (by.graphed.named found.0) ∙ found.2)

  -- the program has it
  within : (i : ℕ) → IsIn i roots → i < by.graph.procedures
  within i among =
      let named = named_of i among in
      subst (λ (n : ℕ). i < n) (sym by.graphed.procedures) (position_within (is_named named.0) (procedures_of by.program) i named.2)

  -- where the procedure of a name begins
  abbrev start_named : List ℕ → ℕ
  start_named name = unwrap_or (procedures.start v name) 0

  -- a root begins where one of the names says
  begins : (i : ℕ) → IsIn i roots → IsIn (slice_index by.graph.starts i) (map start_named names)
  begins i among =
      let named = named_of i among in
      let less : i < by.graph.procedures = within i among in
      let told : procedures.start v named.0 ≡ Some (start_of (procedures_of by.program) i) =
      ap (λ u. procedures.start u named.0) (sym by.says) ∙ starts_as by.program named.0 ∙ ap (option_map (start_of (procedures_of by.program))) named.2 in
      subst (λ (n : ℕ). IsIn n (map start_named names))
      (ap (λ (o : Option ℕ). unwrap_or o 0) told ∙ sym (by.graphed.starts i (subst (λ (n : ℕ). i < n) by.graphed.procedures less)))
      (in-map start_named named.1)

  module _ {F L : Type 0} (A : LatticeAlgebra L) (B : EdgeAlgebra F L) (targets : Targets F) where
    -- roots that have their identities by their names have them by their indices
    have_roots : (get : Key → Option F) → HasRoots (frame_by A B targets by) (roots_by A B targets by names) get
        → HasRoots (frame_at A B targets by.graph by.all) (roots_at A B targets by.graph by.all roots) get
    have_roots get has r d root less =
        let found = of-map (slice_index by.graph.starts) roots root in
        let there = subst (λ (n : ℕ). IsIn n (map start_named names)) found.2 (begins found.0 found.1) in
        elim (has r d there less) [
          | inl top ↦ inl (sym (ap (λ (n : ℕ). cond (nat_lt d n) A.bottom A.top) entries) ∙ top)
          | inr met ↦ inr met
        ]
      where
        entries : procedures.entries v ≡ by.graph.entries
        entries = ap procedures.entries (sym by.says) ∙ sym by.graphed.counts.1

module _ (P : Type 0) {F L : Type 0} (a : Analysis F L) (knows : Knows a) (graphs : GraphsAreSupergraphs a.lattice a.functions a.targets) where
  pub values_are_best : ValuesOfRunsAreBest P a
  values_are_best closed values said program graph roots best place w reached image = record {
    program = image.program ∙ ap (λ u. Some u) (sym program);
    graphed = graphed;
    roots = named;
    quiet = image.quiet;
    all = all;
    best = best graphed.program of all at_rest;
  }
    where
      graphed : IsGraphSaid (Some values.program) values.graph
      graphed =
          subst (λ (g : Supergraph). IsGraphSaid (Some values.program) g) (sym graph)
          (subst (λ (u : ProgramValue). IsGraphSaid (Some u) (graph_in closed)) (sym program) said)

      all : HaveEdgesOf values.graph.facts values.graph.sites
      all = (graphs graphed.program values.graph graphed.graphed graphed.edges).0

      by : GraphBy values.program
      by = record {
        program = graphed.program;
        says = some-inj graphed.says;
        graph = values.graph;
        graphed = graphed.graphed;
        edges = graphed.edges;
        all = all;
      }

      named : map (named_in (Some values.graph)) w.world.image.roots ≡ map (λ root. Some root) values.roots
      named =
          ap (λ (g : Supergraph). map (named_in (Some g)) w.world.image.roots) graph ∙ image.roots
          ∙ ap (map (λ root. Some root)) (sym roots)

      of : AreOf values.graph values.roots graphed.program
      of = record {
        numbered = graphed.graphed;
        edges = graphed.edges;
        rooted = within by w.world.image.roots values.roots named;
      }

      good : IsGood procedures (frame_by a.lattice a.functions a.targets by) values.program w.world.image
      good =
          let exact = exact_at a knows.prefix_free place in
          let laws = laws_at a place in
          let whole = reached_whole a knows place w reached in
          good_now a.lattice a.functions a.targets a.same (forms_of a) (store_at a place) knows.is_same exact laws knows.known w whole.held
          values.program (image.program ∙ ap (λ u. Some u) (sym program)) by

      at_rest : TablesRest a.lattice a.functions a.targets values.graph all values.roots closed.tables.table
      at_rest = record {
        state = image_state w.world.image;
        run = good.run;
        image = λ i key. image.functions key i;
        quiet = image.quiet;
        begun = have_roots by w.world.image.roots values.roots named a.lattice a.functions a.targets w.world.image.get
            (has_roots procedures (frame_by a.lattice a.functions a.targets by) values.program (knows.known.lawful by) w.world.image good);
      }

module _ {P F L : Type 0} (a : Analysis F L) (table : TableData F) (closed : Closed P L F) (whole : IsWholeCore table.core)
    (at : table.core.graph ≡ Some (graph_in closed)) where
  -- the graph of a frozen half is that of its program
  pub said_in : (place : Place) (w : StoreWorld a place) (handed : List VersionedEntry) → WorksOn a place w table handed → IsImageOf a place w closed
      → IsGraphSaid (Some (program_in closed)) (graph_in closed)
  said_in place w handed works image =
      subst (λ (o : Option ProgramValue). IsGraphSaid o (graph_in closed)) (sym works.image.program ∙ image.program) (whole.said (graph_in closed) at)

  -- so the values of its image are best in each world on which it works
  pub answers_over : ValuesOfRunsAreBest P a → (result : Result (ValuesData L) Refused) → IsImageOver a table closed
      → IfOk result (λ values. values.program ≡ program_in closed)
      → IfOk result (λ values. values.graph ≡ graph_in closed)
      → IfOk result (λ values. values.roots ≡ closed.roots.items)
      → IfOk result (AreBestOf a.lattice a.functions a.targets closed.tables.table)
      → IfOk result (AreAnswersOver a table)
  answers_over law result frozen programs graphs rooted bests =
      if-ok {S = AreAnswersOver a table} result programs graphs rooted bests (λ values program graph roots best place w handed reached works.
      let image = frozen place w handed reached works in
      law closed values (said_in place w handed works image) program graph roots best place w reached image)

-- the values of a frozen image of a run, with the graph of its program, are best in the run's world
pub answers_of_run : {P F L : Type 0} (a : Analysis F L) (closed : Closed P L F) → ValuesOfRunsAreBest P a → IsImageOfRun a closed
    → IsGraphSaid (Some (program_in closed)) (graph_in closed) → (result : Result (ValuesData L) Refused)
    → IfOk result (λ values. values.program ≡ program_in closed)
    → IfOk result (λ values. values.graph ≡ graph_in closed)
    → IfOk result (λ values. values.roots ≡ closed.roots.items)
    → IfOk result (AreBestOf a.lattice a.functions a.targets closed.tables.table)
    → IfOk result (AreAnswersOfRun a)
answers_of_run a closed law run said result programs graphs rooted bests =
    if-ok {S = AreAnswersOfRun a} result programs graphs rooted bests (λ values program graph roots best.
    record {
      place = run.place;
      world = run.world;
      reached = run.reached;
      answers = law closed values said program graph roots best run.place run.world run.reached run.image;
    })

-- and so they are where that is told
pub answers_told : {P F L : Type 0} (a : Analysis F L) (closed : Closed P L F) → ValuesOfRunsAreBest P a → ∥ IsImageOfRun a closed ∥₁
    → ∥ IsGraphSaid (Some (program_in closed)) (graph_in closed) ∥₁ → (result : Result (ValuesData L) Refused)
    → IfOk result (λ values. values.program ≡ program_in closed)
    → IfOk result (λ values. values.graph ≡ graph_in closed)
    → IfOk result (λ values. values.roots ≡ closed.roots.items)
    → IfOk result (AreBestOf a.lattice a.functions a.targets closed.tables.table)
    → IfOk result (λ values. ∥ AreAnswersOfRun a values ∥₁)
answers_told a closed law run said (Ok values) program graph roots best = ∥∥₁_map₂ run said (λ (r : IsImageOfRun a closed) (s : IsGraphSaid (Some (program_in closed)) (graph_in closed)).
    answers_of_run a closed law r s (Ok values) program graph roots best)
answers_told a closed law run said (Err refused) program graph roots best = tt
