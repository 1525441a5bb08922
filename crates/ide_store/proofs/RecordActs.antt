-- A program is loaded, or a procedure becomes a root, and the record of it is sealed.
use Rattle.std.proofs.Common.{◌≡◌, ◌∙◌, ◌+◌, ◌<◌, ◌++◌, ℕ, List, [], ◌∷◌, Option, Some, None, length, map, refl, ap, sym, subst, arith, append_assoc}
use Rattle.std.specs.Prelude.{slice_index, slice_index_or}
use Rattle.std.specs.Option.{option_map}
use Rattle.std.proofs.lemmas.List.{map-append}
use Rattle.ide_batch.proofs.Imaged.{has_loaded, starts_as}
use Rattle.ide_batch.specs.Applied.{HasImage, IsGraphed, IsLoadedWith, named_in}
use Rattle.ide_batch.specs.Fold.{ProgramImage, procedures}
use Rattle.ide_batch.specs.Records as records
use Rattle.ide_graph.specs.Numbers.{start_of}
use Rattle.ide_journal.specs.Format.{Entry}
use Rattle.ide_steps.specs.Core.{CoreData}
use Rattle.ide_steps.specs.Room.{IsGraphSaid, IsWholeCore}
use Rattle.ide_steps.specs.Rooted.{IsBegun}
use Rattle.ide_steps.specs.State.{claim_of, state_of as core_state}
use Rattle.ide_text.specs.Parsed.{IsParsed}
use Rattle.ide_text.specs.Program.{procedures_of, value_of}
use Rattle.ide_text.specs.Value.{ProgramValue}
use Rattle.ide_text.specs.declared.program.Program.{Program}
use Rattle.ide_theory.specs.Images.{Load, Root, entered, loaded, seeded_below, step}
use Rattle.ide_theory.specs.State.{State}
use Rattle.ide_store.proofs.BatchActs.{batch_folded, can_batch, counts_more, entries_anew, finds_nothing, fits_next, has_anew}
use Rattle.ide_store.proofs.BatchActs.{seals_batch, waits_more}
use Rattle.ide_store.proofs.Marks.{folded_pushed, pushed}
use Rattle.ide_store.proofs.Reached.{Knows, reached_whole}
use Rattle.ide_store.proofs.Said.{graph_said}
use Rattle.ide_store.proofs.Working.{root_is}
use Rattle.ide_store.specs.Acting.{BeginsAnew, SpellsFirst, SpellsRecord, WaitsFor}
use Rattle.ide_store.specs.Answers.{GraphBy, frame_by}
use Rattle.ide_store.specs.Hands.{Batches, CanGoFirst, FitsNext, Loads, Roots, sealing_first}
use Rattle.ide_store.specs.Machine.{Does}
use Rattle.ide_store.proofs.Places.{does_at}
use Rattle.ide_store.specs.Places.{Place}
use Rattle.ide_store.specs.Table.{Analysis, IsAct, MayDo, StoreWorld, TableData, WorksOn, after_act, forms_of, rules_at, store_at}
use Rattle.ide_store.specs.TableCalls.{behind_first}
use Rattle.ide_store.specs.Tally.{state_with}
use Rattle.ide_store.specs.Versioned.{VersionedEntry}
use Rattle.ide_store.specs.World.{IsFolded, after_all, contents}

module _ {F L : Type 0} (a : Analysis F L) where
  -- ---- a program is loaded
  pub seals_load : (program : Program) (text : List ℕ) (entry : Entry) (old new : TableData F) → IsWholeCore old.core
      → IsParsed text program → SpellsRecord a old (records.Load text) entry → old.sealed < 4294967295
      → WaitsFor (entry ∷ []) old new → IsLoadedWith program new.core → new.core.changes ≡ Some []
      → IsAct a old new (λ place. Loads (value_of program) (old.version, entry))
  seals_load program text entry old new whole parsed spells less waits loads anew place w handed reached works =
      let v : ProgramValue = value_of program in
      let now : ProgramImage F = loaded (Some v) in
      let mark : ℕ = length (w.world.history ++ Load v ∷ []) in
      let r : VersionedEntry = (old.version, entry) in
      let does : Does a.functions a.same (forms_of a) r works.base.image now = record {
        value = records.Load text;
        spelled = spells.spelled;
        leads = (program, parsed, refl);
      } in
      let has : HasImage now new.core = has_loaded program new.core loads in (
        record {
          running = works.running;
          text = text;
          program = program;
          parsed = parsed;
          says = refl;
          spelled = spells.spelled;
          fits = fits_next a place w.world.work w.world.sealed r works.version spells.proper (let sealed = works.sealed in omega arith);
        },
        record {
          running = works.running;
          working = waits.failed ∙ works.working;
          version = waits.version ∙ works.version;
          image = has;
          claims = λ hand. sym (ap (λ claims. option_map (claim_of a.functions a.targets) (slice_index_or claims hand None)) loads.claims);
          base = record {
            image = now;
            folded = folded_pushed (rules_at a place) w.world.sealed r mark works.base.image now works.base.folded
                (does_at a place r works.base.image now does);
            program = refl;
            roots = refl;
            entries = entries_anew a now new.core has anew;
          };
          sealed = counts_more a w.world.sealed (old.version, entry) mark old.sealed new.sealed works.sealed waits.sealed;
          waits = waits_more a w.world.sealed handed old.version new.version old.waiting new.waiting entry mark works.waits waits.version waits.waiting;
        },
      )

  -- ---- a procedure becomes a root
  module _ (place : Place) (w : StoreWorld a place) (old : TableData F) {handed : List VersionedEntry} (works : WorksOn a place w old handed) (whole : IsWholeCore old.core)
      (mid : CoreData F) (name : List ℕ) (begins : IsBegun a.lattice a.functions a.targets old.core mid name) where
    -- the program of the graph, and where the procedure begins
    abbrev said : IsGraphSaid old.core.program begins.graph
    said = whole.said begins.graph begins.is

    abbrev v : ProgramValue
    v = value_of said.program

    loads : w.world.image.program ≡ Some v
    loads = works.image.program ∙ sym said.says

    abbrev start : ℕ
    start = slice_index begins.graph.starts begins.root

    starts : procedures.start v name ≡ Some start
    starts =
        starts_as said.program name
        ∙ ap (option_map (start_of (procedures_of said.program))) (sym (said.graphed.named name) ∙ begins.named.named)
        ∙ ap (λ n. Some n) (sym (said.graphed.starts begins.root (subst (λ n. begins.root < n) said.graphed.procedures begins.within)))

    by : GraphBy v
    by = graph_said old.core begins.graph said v (sym said.says)

    -- the image with one root more
    abbrev rooted : ProgramImage F
    rooted = step procedures a.functions a.same w.world.image (Root name)

    -- the image with the claims of hands is the core's state then
    rooted_state : state_with rooted (entered procedures a.functions a.same w.world.image.program name (state_with w.world.image w.claims)).claims
        ≡ core_state a.functions a.targets mid
    rooted_state =
        let same : state_with w.world.image w.claims ≡ core_state a.functions a.targets old.core =
        λ i. record { get = λ key. works.image.get key i; pending = λ key. works.image.pending key i; claims = λ h. works.claims h i } in
        root_is procedures (frame_by a.lattice a.functions a.targets by) a.same w.world.image w.claims v name start loads starts
        ∙ ap (λ (s : State F). seeded_below a.functions s start (procedures.entries v)) same
        ∙ ap (seeded_below a.functions (core_state a.functions a.targets old.core) start) (sym said.graphed.counts.1)
        ∙ sym begins.state

    -- and the new core has it
    has_rooted : HasImage rooted mid
    has_rooted = record {
      program = works.image.program ∙ sym begins.program;
      graphed = subst (λ o. IsGraphed o mid.graph) (sym begins.program) (subst (IsGraphed old.core.program) (sym begins.same) works.image.graphed);
      roots =
          ap (λ graph. map (named_in graph) (w.world.image.roots ++ name ∷ [])) begins.same
          ∙ map-append (named_in old.core.graph) w.world.image.roots (name ∷ [])
          ∙ ap (λ rs. rs ++ named_in old.core.graph name ∷ []) works.image.roots
          ∙ ap (λ (o : Option ℕ). map (λ root. Some root) old.core.roots ++ o ∷ []) (ap (λ graph. named_in graph name) begins.is ∙ begins.named.named)
          ∙ sym (map-append (λ (root : ℕ). Some root) old.core.roots (begins.root ∷ []))
          ∙ ap (map (λ root. Some root)) (sym begins.roots);
      get = λ key. ap (λ (s : State F). s.get key) rooted_state;
      pending = λ key. ap (λ (s : State F). s.pending key) rooted_state;
    }

    -- it may become one, where what changed is sealed first, if anything did
    can_begin : (first : Option VersionedEntry) (entry : Entry) → SpellsRecord a old (records.Root name) entry
        → CanGoFirst a.lattice a.functions a.targets a.same (forms_of a) (rules_at a place) (store_at a place) w first
        → FitsNext a.lattice a.functions a.targets a.same (forms_of a) (rules_at a place) (store_at a place)
        (after_all (rules_at a place) w.world (sealing_first first [])) (old.version, entry)
        → MayDo a place w (Roots name first (old.version, entry))
    can_begin first entry spells goes fits = record {
      running = works.running;
      program = v;
      loaded = loads;
      start = start;
      starts = starts;
      first = goes;
      spelled = spells.spelled;
      fits = fits;
    }

    -- where the records give back the image, the half works on the world in which the procedure is a root
    works_rooted : IsFolded (rules_at a place) (contents w.world.sealed) w.world.image → (entry : Entry) (new : TableData F)
        → SpellsRecord a old (records.Root name) entry → BeginsAnew mid new.core → WaitsFor (entry ∷ []) old new
        → WorksOn a place (after_act a place w (Roots name None (old.version, entry))) new handed
    works_rooted folded entry new spells anew waits =
        let mark : ℕ = length (w.world.history ++ Root name ∷ []) in
        let r : VersionedEntry = (old.version, entry) in
        let does : Does a.functions a.same (forms_of a) r w.world.image rooted = record {
          value = records.Root name;
          spelled = spells.spelled;
          leads = refl;
        } in
        let has : HasImage rooted new.core = has_anew a rooted mid new.core anew has_rooted in
        record {
          running = works.running;
          working = waits.failed ∙ works.working;
          version = waits.version ∙ works.version;
          image = has;
          claims = λ hand.
              ap (λ (s : State F). s.claims hand) rooted_state
              ∙ ap (λ (core : CoreData F). (core_state a.functions a.targets core).claims hand) (sym anew);
          base = record {
            image = rooted;
            folded = folded_pushed (rules_at a place) w.world.sealed r mark w.world.image rooted folded (does_at a place r w.world.image rooted does);
            program = refl;
            roots = refl;
            entries = entries_anew a rooted new.core has (ap (λ (core : CoreData F). core.changes) anew);
          };
          sealed = counts_more a w.world.sealed (old.version, entry) mark old.sealed new.sealed works.sealed waits.sealed;
          waits = waits_more a w.world.sealed handed old.version new.version old.waiting new.waiting entry mark works.waits waits.version waits.waiting;
        }

  -- the half once what changed is sealed, before a root's record
  abbrev half_between : Entry → TableData F → TableData F
  half_between batch old = record {
    core = record old.core { changes = Some [] };
    version = old.version;
    sealed = old.sealed + 1;
    waiting = old.waiting ++ batch ∷ [];
    failed = old.failed;
  }

  -- other notes do not keep a root from beginning
  begins_between : (batch : Entry) (old : TableData F) (mid : CoreData F) (name : List ℕ) → IsBegun a.lattice a.functions a.targets old.core mid name
      → IsBegun a.lattice a.functions a.targets (half_between batch old).core mid name
  begins_between batch old mid name begins = record {
    graph = begins.graph;
    is = begins.is;
    root = begins.root;
    named = begins.named;
    within = begins.within;
    program = begins.program;
    same = begins.same;
    roots = begins.roots;
    state = begins.state;
    tasks = begins.tasks;
    unclaimed = begins.unclaimed;
    steps = begins.steps;
    met = begins.met;
  }

  -- what changed is sealed first, if anything did, and then the root
  pub seals_root : Knows a → (name : List ℕ) (first : Option Entry) (entry : Entry) (old new : TableData F) (mid : CoreData F) → IsWholeCore old.core
      → SpellsFirst a old first → SpellsRecord a old (records.Root name) entry → old.sealed < 4294967294
      → IsBegun a.lattice a.functions a.targets old.core mid name → BeginsAnew mid new.core
      → WaitsFor (behind_first first entry) old new → IsAct a old new (λ place. Roots name (option_map (λ batch. (old.version, batch)) first) (old.version, entry))
  seals_root knows name None entry old new mid whole unchanged spells less begins anew waits place w handed reached works =
      let nothing = finds_nothing a knows old whole unchanged place w reached works in
      let noted = (reached_whole a knows place w reached).noted nothing.base nothing.folded in
      let same : nothing.base ≡ w.world.image =
      λ i. record {
        program = noted.program i;
        roots = noted.roots i;
        get = λ key. (nothing.entries key i).0;
        pending = λ key. (nothing.entries key i).1;
      } in
      let folded = subst (λ (image : ProgramImage F). IsFolded (rules_at a place) (contents w.world.sealed) image) same nothing.folded in
      let r : VersionedEntry = (old.version, entry) in
      let fits = fits_next a place w.world.work w.world.sealed r works.version spells.proper (let sealed = works.sealed in omega arith) in (
        can_begin place w old works whole mid name begins None entry spells nothing fits,
        works_rooted place w old works whole mid name begins folded entry new spells anew waits,
      )
  seals_root knows name (Some batch) entry old new mid whole changed spells less begins anew waits place w handed reached works =
      let between : TableData F = half_between batch old in
      let can = can_batch a knows place w reached old works whole batch changed (omega arith) in
      let folded = batch_folded a knows place w reached old works whole batch changed in
      let first : WaitsFor (batch ∷ []) old between = record { version = refl; failed = refl; waiting = refl; sealed = refl } in
      let before = seals_batch a knows batch old between whole changed (omega arith) first refl place w handed reached works in
      let rest : WaitsFor (entry ∷ []) between new = record {
        version = waits.version;
        failed = waits.failed;
        waiting = waits.waiting ∙ sym (append_assoc old.waiting (batch ∷ []) (entry ∷ []));
        sealed = waits.sealed ∙ omega arith;
      } in
      let mark : ℕ = length w.world.history in
      let r : VersionedEntry = (old.version, entry) in
      let first_r : VersionedEntry = (old.version, batch) in
      let fits = fits_next a place w.world.work (pushed w.world.sealed first_r mark) r works.version spells.proper (let sealed = before.1.sealed in omega arith) in (
        can_begin place w old works whole mid name begins (Some first_r) entry spells can fits,
        works_rooted place (after_act a place w (Batches first_r)) between before.1
            (record { distinct = whole.distinct; sited = whole.sited; said = whole.said }) mid name (begins_between batch old mid name begins)
            folded entry new (record { spelled = spells.spelled; proper = spells.proper }) anew rest,
      )
