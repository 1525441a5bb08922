-- The claim of a hand is an act of the store: its parts are those that the key owes over each graph of the program.
use Rattle.std.proofs.Common.{◌≡◌, ◌∙◌, ◌≤◌, ◌^◌, ℕ, true, List, Option, Some, slice_get, option_map, refl, ap, sym, subst, arith, true≢false}
use Rattle.std.specs.Option.{is_some}
use Rattle.ide_graph.specs.SameGraphs.{AreSameGraphs}
use Rattle.ide_graph.specs.Supergraph.{Supergraph}
use Rattle.ide_graph.specs.declared.site.Site.{Site}
use Rattle.ide_graph.specs.declared.site.Site.TheVariants.{Normal, Call, Exit}
use Rattle.ide_lattice.specs.Algebra.{EdgeAlgebra}
use Rattle.ide_problem.specs.Flow.{Targets}
use Rattle.ide_steps.specs.Claiming.{FindsTask, KeepsAllBut}
use Rattle.ide_steps.specs.Kept.{IsTaskWhere}
use Rattle.ide_steps.specs.Room.{IsWholeCore}
use Rattle.ide_steps.specs.State.{ArePartnersOf, IsTaskOf, claim_of}
use Rattle.ide_image.specs.Tables.{Table, found}
use Rattle.ide_tasks.specs.Parts.{owed}
use Rattle.ide_tasks.specs.Sources.{reaching_of, sources_at}
use Rattle.ide_tasks.specs.Task.{TaskData}
use Rattle.ide_tasks.specs.declared.partners.Partners.{Partners}
use Rattle.ide_tasks.specs.declared.partners.Partners.TheVariants.{Entries, Callers}
use Rattle.ide_text.proofs.RoundTrip.{equal_text, parsed_again}
use Rattle.ide_text.specs.Parsed.{IsParsed}
use Rattle.ide_text.specs.Program.{text_of}
use Rattle.ide_text.specs.Value.{ProgramValue}
use Rattle.ide_theory.proofs.Laws.Changes.{map-tells}
use Rattle.ide_theory.proofs.Laws.Reached.{run-reached}
use Rattle.ide_theory.specs.Parts.{AreKeysInRange}
use Rattle.ide_theory.specs.Run.{ArePartsOf}
use Rattle.ide_theory.specs.State.{Claim, State, new_claim, with_claim}
use Rattle.ide_wire.specs.Key.{node_of}
use Rattle.ide_wire.specs.declared.key.Key.{Key}
use Rattle.ide_wire.specs.declared.key.Key.TheVariants.{Jump, Summary}
use Rattle.ide_image.specs.Worklist.{claim_at}
use Rattle.ide_store.proofs.HandActs.{some_of, state_is, then_stays, works_on}
use Rattle.ide_store.proofs.Hands.{run_now}
use Rattle.ide_store.proofs.Reached.{Knows, reached_whole}
use Rattle.ide_store.proofs.Said.{graph_kept}
use Rattle.ide_store.proofs.Unloaded.{image_still}
use Rattle.ide_store.specs.Answers.{GraphBy, frame_by}
use Rattle.ide_store.proofs.Places.{exact_at, laws_at}
use Rattle.ide_store.specs.Places.{Place}
use Rattle.ide_store.specs.Table.{Analysis, IsReached, KeepsRest, StoreWorld, TableData, WorksOn, forms_of, store_at}
use Rattle.ide_store.specs.TableCalls.{TakesTask}
use Rattle.ide_store.specs.Versioned.{VersionedEntry}

module _ {F L : Type 0} (functions : EdgeAlgebra F L) (targets : Targets F) (graph other : Supergraph) (table : Table F)
    (facts : graph.facts ≡ other.facts) where
  -- partners are those over each graph with as many facts
  partners_on : (key : Key) (site : Site) (partners : Partners F) → ArePartnersOf functions targets graph table key site partners
      → ArePartnersOf functions targets other table key site partners
  partners_on (Jump n from to) (Normal edges) partners are = tt
  partners_on (Jump n from to) (Call calls along) (Entries summaries) are = are
  partners_on (Jump n from to) (Call calls along) (Callers reaching) are = absurd are
  partners_on (Jump n from to) (Exit start callers) (Entries summaries) are = absurd are
  partners_on (Jump n from to) (Exit start callers) (Callers reaching) are =
      are ∙ ap (λ (count : ℕ). reaching_of from (sources_at targets count (Exit start callers))) facts
  partners_on (Summary c from to) (Normal edges) partners are = tt
  partners_on (Summary c from to) (Call calls along) (Entries jumps) are = are
  partners_on (Summary c from to) (Call calls along) (Callers reaching) are = absurd are
  partners_on (Summary c from to) (Exit start callers) partners are = tt

  -- and so are tasks, where the sites are the same
  task_on : (task : TaskData F) → graph.sites ≡ other.sites → IsTaskOf functions targets graph table task → IsTaskOf functions targets other table task
  task_on task sites is = record {
    function = is.function;
    site = ap (λ all. slice_get all (node_of task.key)) (sym sites) ∙ is.site;
    partners = partners_on task.key task.site task.partners is.partners;
  }

module _ {F L : Type 0} (a : Analysis F L) (knows : Knows a) where
  -- graphs of programs that say the same are the same
  same_graphs : {v : ProgramValue} (one other : GraphBy v) → AreSameGraphs one.graph other.graph
  same_graphs one other =
      let text : text_of other.program ≡ text_of one.program = equal_text other.program one.program (other.says ∙ sym one.says) in
      knows.same_graphs (text_of one.program) one.graph other.graph
      (record { program = one.program; parsed = (parsed_again one.program).itself; counted = one.graphed; edges = one.edges })
      (record {
        program = other.program;
        parsed = subst (λ t. IsParsed t other.program) text (parsed_again other.program).itself;
        counted = other.graphed;
        edges = other.edges;
      })

  module _ (place : Place) (w : StoreWorld a place) (table : TableData F) {handed : List VersionedEntry} (reached : IsReached a place w) (on : WorksOn a place w table handed) where
    -- where a key waits, a program is loaded
    loaded_where : (key : Key) → w.world.image.pending key ≡ true → (v : ProgramValue) × (w.world.image.program ≡ Some v)
    loaded_where key waits =
        some_of w.world.image.program (λ none. true≢false (sym waits ∙ image_still a place knows w reached on.running none key))

    -- the task of a key that waits owes what a claim of it does, over each graph of the program
    owes_parts : (task : TaskData F) → IsWholeCore table.core → w.world.image.pending task.key ≡ true
        → ((graph : Supergraph) → IsTaskWhere a.functions a.targets graph table.core task)
        → (v : ProgramValue) → w.world.image.program ≡ Some v → (by : GraphBy v)
        → ArePartsOf (frame_by a.lattice a.functions a.targets by) w.world.image.get task.key (owed a.functions a.targets task)
    owes_parts task kept_whole waits is_task v is by =
        let whole = reached_whole a knows place w reached in
        let exact = exact_at a knows.prefix_free place in
        let laws = laws_at a place in
        let K = frame_by a.lattice a.functions a.targets by in
        let run =
        run_now a.lattice a.functions a.targets a.same (forms_of a) (store_at a place) knows.is_same exact laws knows.known w whole.held v is by in
        let reaches = run-reached K (knows.known.lawful by) run in
        let graph = graph_kept table.core kept_whole on.image.graphed v (sym on.image.program ∙ is) in
        let kept : GraphBy v = graph.0 in
        let same = same_graphs kept by in
        let get : w.world.image.get ≡ found table.core.table = λ i key. on.image.get key i in
        let present = reaches.present task.key waits in
        let few : by.graph.facts ≤ 2 ^ 16 = let most = by.graphed.few.1 in omega (arith, most) in
        let there : is_some (found table.core.table task.key) ≡ true = ap is_some (sym (on.image.get task.key) ∙ present.1) in
        let exits = knows.exits kept.program kept.graph kept.graphed kept.edges in
        subst (λ (g : Key → Option F). ArePartsOf K g task.key (owed a.functions a.targets task)) (sym get)
        (knows.owed by.graph by.all (knows.joined by.program by.graph by.graphed by.edges) few table.core.table task
        (task_on a.functions a.targets kept.graph by.graph table.core.table same.facts task same.sites (is_task kept.graph graph.1 exits there))
        (subst (λ (g : Key → Option F). AreKeysInRange K g) get reaches.ranged.keys))

  pub hands_claim : (hand : ℕ) (old new : TableData F) (task : TaskData F) → IsWholeCore old.core → KeepsRest old new
      → KeepsAllBut hand old.core new.core → FindsTask a.functions a.targets hand old.core new.core task → TakesTask a hand old new task
  hands_claim hand old new task kept_whole rest keeps finds place w handed reached on =
      let waits : w.world.image.pending task.key ≡ true = on.image.pending task.key ∙ finds.taken.pending in
      let loaded = loaded_where place w old reached on task.key waits in (
        record {
          running = on.running;
          free = on.claims hand ∙ ap (option_map (claim_of a.functions a.targets)) finds.taken.free;
          pending = waits;
          alone = λ j c mine same.
              let of = map-tells (claim_of a.functions a.targets) (claim_at old.core.pile j) (sym (on.claims j) ∙ mine) in
              finds.taken.unclaimed j of.0 of.1 (ap (λ (d : Claim F). d.key) of.2 ∙ same);
          program = loaded.0;
          loaded = loaded.1;
          owes = owes_parts place w old reached on task kept_whole waits finds.is_task loaded.0 loaded.1;
        },
        works_on a place w old new _ _ _ _ on rest keeps.stays refl refl
            (ap (λ (s : State F). with_claim s hand (Some (new_claim task.key (owed a.functions a.targets task)))) (state_is a place w old on)
            ∙ sym finds.taken.state)
            (then_stays old.core new.core keeps.table keeps.pending keeps.changes),
      )
