-- The half that works, where others of the sealed records are stored or handed over.
use Rattle.std.proofs.Common.{◌≡◌, ◌∙◌, ◌++◌, ℕ, List, refl, ap, sym, subst}
use Rattle.ide_batch.specs.Applied.{HasImage}
use Rattle.ide_journal.specs.Format.{Entry}
use Rattle.ide_steps.specs.Changed.{entry_then}
use Rattle.ide_store.specs.Places.{Place, version_on}
use Rattle.ide_store.specs.Table.{Analysis, StoreWorld, TableData, WorksOn, forms_of, store_at, table_state, told}
use Rattle.ide_store.specs.Versioned.{VersionedEntry, in_version}
use Rattle.ide_store.specs.World.{contents}

module _ {F L : Type 0} (a : Analysis F L) (place : Place) where
  -- the half works on a world of which others are stored, where other records are left with it, in the version in which records
  -- are sealed then
  pub works_sealing : (w : StoreWorld a place) (table new : TableData F) (stored : ℕ) (work : (store_at a place).Work)
      (disks : (store_at a place).Disks) (handed : List VersionedEntry) {before : List VersionedEntry} → WorksOn a place w table before
      → new ≡ record table { version = new.version; waiting = new.waiting } → new.version ≡ version_on a.functions a.same (forms_of a) place work
      → contents w.world.sealed ≡ handed ++ in_version new.version new.waiting
      → WorksOn a place (record w { world = record w.world { stored = stored; work = work; disks = disks } }) new handed
  works_sealing w table new stored work disks handed works is same split = record {
    running = works.running;
    working = ap (λ (t : TableData F). t.failed) is ∙ works.working;
    version = same;
    image = subst (λ (t : TableData F). HasImage w.world.image t.core) (sym is) works.image;
    claims = λ hand. works.claims hand ∙ ap (λ (t : TableData F). (table_state a t).claims hand) (sym is);
    base = record {
      image = works.base.image;
      folded = works.base.folded;
      program = works.base.program;
      roots = works.base.roots;
      entries = λ key. works.base.entries key ∙ ap (λ (t : TableData F). told (entry_then t.core key)) (sym is);
    };
    sealed = works.sealed ∙ ap (λ (t : TableData F). t.sealed) (sym is);
    waits = split;
  }

  -- the version stays where the writer seals in the one that it did
  abbrev pub works_after : (w : StoreWorld a place) (table : TableData F) (stored : ℕ) (work : (store_at a place).Work)
      (disks : (store_at a place).Disks) (handed : List VersionedEntry) (left : List Entry) {before : List VersionedEntry}
      → WorksOn a place w table before → table.version ≡ version_on a.functions a.same (forms_of a) place work
      → contents w.world.sealed ≡ handed ++ in_version table.version left
      → WorksOn a place (record w { world = record w.world { stored = stored; work = work; disks = disks } }) (record table { waiting = left }) handed
  works_after w table stored work disks handed left works same split =
      works_sealing w table (record table { waiting = left }) stored work disks handed works refl same split
