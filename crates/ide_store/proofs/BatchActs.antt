-- What changed since the last record is sealed; and where nothing did, the records give back the image.
use Rattle.std.proofs.Common.{◌≡◌, ◌∙◌, ◌+◌, ◌≤◌, ◌<◌, ◌++◌, ℕ, Bool, true, false, List, [], ◌∷◌, Option, Some, None, length}
use Rattle.std.proofs.Common.{refl, ap, sym, subst, arith, true≢false, append_assoc}
use Rattle.std.specs.Prelude.{unwrap_or}
use Rattle.std.specs.Option.{is_some}
use Rattle.std.proofs.lemmas.List.{length-append, length-map, map-append, take_all}
use Rattle.ide_batch.proofs.Folding.{lead}
use Rattle.ide_batch.specs.Applied.{HasImage, IsGraphed}
use Rattle.ide_batch.specs.Fold.{IsBatch, ProgramImage, SaysChange, image_entry, named, procedures}
use Rattle.ide_batch.specs.Items.{Item}
use Rattle.ide_batch.specs.Records as records
use Rattle.ide_journal.specs.Format.{Entry, IsEntry}
use Rattle.ide_journal.specs.declared.version.Version.{Version}
use Rattle.ide_image.specs.Notes.{noted}
use Rattle.ide_steps.specs.Changed.{standing_entry, entry_then}
use Rattle.ide_steps.specs.Core.{CoreData}
use Rattle.ide_steps.specs.Items.{AreChangedItems}
use Rattle.ide_steps.specs.Room.{IsWholeCore}
use Rattle.ide_steps.specs.State.{state_of as core_state}
use Rattle.ide_image.specs.Tables.{found}
use Rattle.ide_text.specs.Value.{ProgramValue}
use Rattle.ide_theory.proofs.Laws.Changes.{none-some}
use Rattle.ide_theory.proofs.Laws.Reached.{present-run}
use Rattle.ide_wire.specs.declared.key.Key.{Key}
use Rattle.ide_store.proofs.Good.{IsGood}
use Rattle.ide_store.proofs.Hands.{good_now}
use Rattle.ide_store.proofs.Marks.{folded_pushed, pushed}
use Rattle.ide_store.proofs.Reached.{Knows, reached_whole}
use Rattle.ide_store.proofs.Said.{graph_kept}
use Rattle.ide_store.proofs.Told.{says_change}
use Rattle.ide_store.proofs.Unloaded.{IsStill, base_still, image_still}
use Rattle.ide_store.specs.Acting.{BeginsAnew, SpellsChanges, WaitsFor}
use Rattle.ide_store.specs.Answers.{GraphBy, frame_by}
use Rattle.ide_store.specs.Hands.{Batches}
use Rattle.ide_store.specs.Machine.{Does}
use Rattle.ide_store.proofs.Places.{does_at, exact_at, fits_at, laws_at}
use Rattle.ide_store.specs.Places.{Place, version_on}
use Rattle.ide_store.specs.Table.{Analysis, HasNothingNew, IsAct, IsReached, KeepsRest, MayDo, StoreWorld, TableData, WorksOn, forms_of, rules_at, told, store_at}
use Rattle.ide_store.specs.TableCalls.{FindsNothing}
use Rattle.ide_store.specs.Versioned.{VersionedEntry, in_version}
use Rattle.ide_store.specs.World.{IsFolded, Sealed, contents}

module _ {F L : Type 0} (a : Analysis F L) where
  -- over each graph of its program the image is good
  abbrev IsGoodImage : ProgramImage F → Type 0
  IsGoodImage image = (v : ProgramValue) → image.program ≡ Some v → (by : GraphBy v) → IsGood procedures (frame_by a.lattice a.functions a.targets by) v image

  -- an absent key of an image does not wait
  absent_still : Knows a → (image : ProgramImage F) (core : CoreData F) → IsWholeCore core → IsGraphed core.program core.graph
      → image.program ≡ core.program → IsStill image → IsGoodImage image → (key : Key) → image.get key ≡ None → image.pending key ≡ false
  absent_still knows image core whole graphed program still good key none = by core.program refl
    where
      by : (o : Option ProgramValue) → core.program ≡ o → image.pending key ≡ false
      by None unloaded = still (program ∙ unloaded) key
      by (Some v) is = waiting (image.pending key) refl
        where
          waiting : (b : Bool) → image.pending key ≡ b → image.pending key ≡ false
          waiting false waits = waits
          waiting true waits =
              let graph = (graph_kept core whole graphed v is).0 in
              let lawful = knows.known.lawful graph in
              let present = present-run (frame_by a.lattice a.functions a.targets graph) lawful (good v (program ∙ is) graph).run key waits in
              absurd (none-some (sym none ∙ present.1))

  -- what a core has whose notes begin anew
  pub entries_anew : (image : ProgramImage F) (core : CoreData F) → HasImage image core → core.changes ≡ Some [] → (key : Key)
      → image_entry image key ≡ told (entry_then core key)
  entries_anew image core has anew key =
      let now : image_entry image key ≡ told (standing_entry core key) = λ i. (has.get key i, has.pending key i) in
      now ∙ sym (ap (λ notes. told (unwrap_or (noted notes key) (standing_entry core key))) anew)

  -- other notes make no other image
  pub has_anew : (image : ProgramImage F) (old new : CoreData F) → BeginsAnew old new → HasImage image old → HasImage image new
  has_anew image old new anew has = subst (HasImage image) (sym anew) (record {
    program = has.program;
    graphed = has.graphed;
    roots = has.roots;
    get = has.get;
    pending = has.pending;
  })

  -- one record more is sealed
  pub waits_more : (sealed : List (Sealed VersionedEntry)) (handed : List VersionedEntry) (version new_version : Version) (waiting new_waiting : List Entry)
      (entry : Entry) (mark : ℕ) → contents sealed ≡ handed ++ in_version version waiting → new_version ≡ version → new_waiting ≡ waiting ++ entry ∷ []
      → contents (pushed sealed (version, entry) mark) ≡ handed ++ in_version new_version new_waiting
  waits_more sealed handed version new_version waiting new_waiting entry mark waits same more =
      map-append (λ (s : Sealed VersionedEntry). s.content) sealed (record { content = (version, entry); mark = mark } ∷ [])
      ∙ ap (λ (records : List VersionedEntry). records ++ (version, entry) ∷ []) waits
      ∙ append_assoc handed (in_version version waiting) ((version, entry) ∷ [])
      ∙ ap (λ (records : List VersionedEntry). handed ++ records) (sym (map-append (λ (e : Entry). (version, e)) waiting (entry ∷ [])))
      ∙ (λ i. handed ++ in_version (sym same i) (sym more i))

  -- and counted
  pub counts_more : (sealed : List (Sealed VersionedEntry)) (r : VersionedEntry) (mark old new : ℕ) → length sealed ≡ old → new ≡ old + 1
      → length (pushed sealed r mark) ≡ new
  counts_more sealed r mark old new is more =
      let longer = length-append sealed (record { content = r; mark = mark } ∷ []) in omega arith

  -- a record may be the next one, of the version in which records are sealed
  pub fits_next : (place : Place) (work : (store_at a place).Work) (sealed : List (Sealed VersionedEntry)) (r : VersionedEntry)
      → r.0 ≡ version_on a.functions a.same (forms_of a) place work → IsEntry r.1 → length sealed ≤ 4294967294
      → (store_at a place).Fits work (length (contents sealed)) r
  fits_next place work sealed r is proper less =
      fits_at a place work (length (contents sealed)) r is proper
      (let long = length-map sealed (λ (s : Sealed VersionedEntry). s.content) in omega (arith, long, less))

  module _ (knows : Knows a) (place : Place) (w : StoreWorld a place) (reached : IsReached a place w) (table : TableData F)
      {handed : List VersionedEntry} (works : WorksOn a place w table handed) (whole : IsWholeCore table.core) where
    -- the image is good
    now_good : IsGoodImage w.world.image
    now_good =
        good_now a.lattice a.functions a.targets a.same (forms_of a) (store_at a place) knows.is_same
        (exact_at a knows.prefix_free place) (laws_at a place) knows.known
        w (reached_whole a knows place w reached).held

    -- and so is what the records give back
    base_good : IsGoodImage works.base.image
    base_good =
        let all = take_all (length w.world.sealed) w.world.sealed (omega arith) in
        (reached_whole a knows place w reached).held.stored (length w.world.sealed) works.base.image
        (subst (λ (sealed : List (Sealed VersionedEntry)). IsFolded (rules_at a place) (contents sealed) works.base.image) (sym all) works.base.folded)

    -- an absent key was absent, and did not wait
    was_absent : (key : Key) → found table.core.table key ≡ None → told (entry_then table.core key) ≡ told (standing_entry table.core key)
    was_absent key none =
        sym (works.base.entries key) ∙ (λ i. (base_none i, base_waits i)) ∙ (λ i. (sym now_none i, sym now_waits i))
        ∙ (λ i. (works.image.get key i, works.image.pending key i))
      where
        now_none : w.world.image.get key ≡ None
        now_none = works.image.get key ∙ none

        base_none : works.base.image.get key ≡ None
        base_none = by (works.base.image.get key) refl
          where
            by : (o : Option F) → works.base.image.get key ≡ o → works.base.image.get key ≡ None
            by None is = is
            by (Some f) is =
                let noted = (reached_whole a knows place w reached).noted works.base.image works.base.folded in
                absurd (true≢false (sym (noted.present key (ap is_some is)) ∙ ap is_some now_none))

        now_waits : w.world.image.pending key ≡ false
        now_waits =
            absent_still knows w.world.image table.core whole works.image.graphed works.image.program
            (image_still a place knows w reached works.running) now_good key now_none

        base_waits : works.base.image.pending key ≡ false
        base_waits =
            absent_still knows works.base.image table.core whole works.image.graphed (works.base.program ∙ works.image.program)
            (base_still a place knows w reached works.base.image works.base.folded) base_good key base_none

    -- the items that changed lead from what the records give back to the image
    pub changes_told : (items : List (Item F)) → AreChangedItems table.core items → IsBatch items works.base.image w.world.image
    changes_told items changed key =
        let now : told (standing_entry table.core key) ≡ image_entry w.world.image key = λ i. (sym (works.image.get key) i, sym (works.image.pending key) i) in
        subst (λ (e : Option F × Bool). SaysChange (named items key) e (image_entry w.world.image key)) (sym (works.base.entries key))
        (subst (λ (e : Option F × Bool). SaysChange (named items key) (told (entry_then table.core key)) e) now
        (says_change a.same knows.is_same table.core items key changed (was_absent key)))

    -- a record of them may be the next one
    pub can_batch : (entry : Entry) → SpellsChanges a table entry → table.sealed < 4294967295 → MayDo a place w (Batches (table.version, entry))
    can_batch entry spells less = record {
      running = works.running;
      base = works.base.image;
      folded = works.base.folded;
      items = spells.items;
      exact = changes_told spells.items spells.changed;
      spelled = spells.spells.spelled;
      fits = fits_next place w.world.work w.world.sealed (table.version, entry) works.version spells.spells.proper (let sealed = works.sealed in omega arith);
    }

    -- and its record gives back the image
    pub batch_folded : (entry : Entry) → SpellsChanges a table entry
        → IsFolded (rules_at a place) (contents (pushed w.world.sealed (table.version, entry) (length w.world.history))) w.world.image
    batch_folded entry spells =
        let r : VersionedEntry = (table.version, entry) in
        let does : Does a.functions a.same (forms_of a) r works.base.image w.world.image = record {
          value = records.Batch spells.items;
          spelled = spells.spells.spelled;
          leads = sym (lead spells.items works.base.image w.world.image works.base.program works.base.roots (changes_told spells.items spells.changed));
        } in
        folded_pushed (rules_at a place) w.world.sealed r (length w.world.history) works.base.image w.world.image works.base.folded
        (does_at a place r works.base.image w.world.image does)

  -- where no item changed, entries are as the records give them back
  still_entries : Knows a → (table : TableData F) → IsWholeCore table.core → AreChangedItems table.core []
      → (place : Place) (w : StoreWorld a place) {handed : List VersionedEntry} → IsReached a place w → (works : WorksOn a place w table handed)
      → (key : Key) → image_entry works.base.image key ≡ image_entry w.world.image key
  still_entries knows table whole unchanged place w reached works key = changes_told knows place w reached table works whole [] unchanged key

  -- so nothing is new
  pub finds_nothing : Knows a → (table : TableData F) → IsWholeCore table.core → AreChangedItems table.core []
      → (place : Place) (w : StoreWorld a place) {handed : List VersionedEntry} → IsReached a place w → WorksOn a place w table handed → HasNothingNew a place w
  finds_nothing knows table whole unchanged place w reached works = record {
    base = works.base.image;
    folded = works.base.folded;
    entries = still_entries knows table whole unchanged place w reached works;
  }

  -- and notes may begin anew
  pub forgets_nothing : Knows a → (old new : TableData F) → IsWholeCore old.core → AreChangedItems old.core [] → KeepsRest old new
      → BeginsAnew old.core new.core → FindsNothing a old new
  forgets_nothing knows old new whole unchanged rest anew = record {
    rest = rest;
    caught_up = λ place w handed reached works.
        let still = still_entries knows old whole unchanged place w reached works in
        let has : HasImage w.world.image new.core = has_anew w.world.image old.core new.core anew works.image in (
          record { base = works.base.image; folded = works.base.folded; entries = still },
          record {
            running = works.running;
            working = rest.failed ∙ works.working;
            version = rest.version ∙ works.version;
            image = has;
            claims = λ hand. works.claims hand ∙ ap (λ (core : CoreData F). (core_state a.functions a.targets core).claims hand) (sym anew);
            base = record {
              image = works.base.image;
              folded = works.base.folded;
              program = works.base.program;
              roots = works.base.roots;
              entries = λ key. still key ∙ entries_anew w.world.image new.core has (ap (λ (core : CoreData F). core.changes) anew) key;
            };
            sealed = works.sealed ∙ sym rest.sealed;
            waits = works.waits ∙ (λ i. handed ++ in_version (sym rest.version i) (sym rest.waiting i));
          },
        );
  }

  -- the record of the items that changed is sealed
  pub seals_batch : Knows a → (entry : Entry) (old new : TableData F) → IsWholeCore old.core → SpellsChanges a old entry → old.sealed < 4294967295
      → WaitsFor (entry ∷ []) old new → BeginsAnew old.core new.core → IsAct a old new (λ place. Batches (old.version, entry))
  seals_batch knows entry old new whole spells less waits anew place w handed reached works =
      let has : HasImage w.world.image new.core = has_anew w.world.image old.core new.core anew works.image in (
        can_batch knows place w reached old works whole entry spells less,
        record {
          running = works.running;
          working = waits.failed ∙ works.working;
          version = waits.version ∙ works.version;
          image = has;
          claims = λ hand. works.claims hand ∙ ap (λ (core : CoreData F). (core_state a.functions a.targets core).claims hand) (sym anew);
          base = record {
            image = w.world.image;
            folded = batch_folded knows place w reached old works whole entry spells;
            program = refl;
            roots = refl;
            entries = entries_anew w.world.image new.core has (ap (λ (core : CoreData F). core.changes) anew);
          };
          sealed = counts_more w.world.sealed (old.version, entry) (length w.world.history) old.sealed new.sealed works.sealed waits.sealed;
          waits = waits_more w.world.sealed handed old.version new.version old.waiting new.waiting entry (length w.world.history) works.waits waits.version
              waits.waiting;
        },
      )
