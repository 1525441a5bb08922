-- A half that works begins on a new store, and goes on from an opening.
use Rattle.std.proofs.Common.{◌≡◌, ◌∙◌, ℕ, Bool, List, [], ◌∷◌, Some, None, length, take, refl, ap, sym, subst}
use Rattle.std.specs.Option.{option_map}
use Rattle.std.proofs.lemmas.List.{append-nil, length-take-le}
use Rattle.ide_batch.specs.Applied.{HasImage}
use Rattle.ide_batch.specs.AppliedAll.{AreEntriesOf, LeadOver}
use Rattle.ide_batch.specs.Fold.{ProgramImage}
use Rattle.ide_batch.specs.Fold as fold
use Rattle.ide_batch.specs.Items.{Functions}
use Rattle.ide_batch.specs.Records.{RecordValue}
use Rattle.ide_journal.specs.Format.{Entry}
use Rattle.ide_journal.specs.declared.version.Version.{Version}
use Rattle.ide_lattice.specs.Algebra.{EdgeAlgebra}
use Rattle.ide_steps.specs.Core.{CoreData}
use Rattle.ide_steps.specs.State.{claim_of}
use Rattle.ide_theory.specs.Images.{loaded}
use Rattle.ide_image.specs.Worklist.{IsFree}
use Rattle.ide_store.specs.Machine.{machine}
use Rattle.ide_store.specs.Opening.{HaveFold, BeginsOn, GoesOnFrom, HalvesBegin, half_over}
use Rattle.ide_store.specs.Places.{Place}
use Rattle.ide_store.specs.Table.{Analysis, forms_of, rules_at}
use Rattle.ide_store.specs.TwoDisks.{GiveTheSame}
use Rattle.ide_store.specs.Versioned.{VersionedEntry, in_version}
use Rattle.ide_store.specs.World.{IsFolded, LeadTo, contents}
use Rattle.ide_store.proofs.Places.{does_at, exact_at, laws_at}
use Rattle.ide_store.proofs.Reached.{Knows, reached_whole}
use Rattle.ide_store.proofs.World.{IsRead, one_image, read}

-- what values lead to, the records that spell them lead to
spelled_lead : {F L : Type 0} (functions : EdgeAlgebra F L) (same : F → F → Bool) (forms : Functions F) (version : Version)
    → (values : List (RecordValue F)) (entries : List Entry) (before now : ProgramImage F) → AreEntriesOf forms version values entries
    → fold.RecordsLead functions same values before now → LeadTo (machine functions same forms) (in_version version entries) before now
spelled_lead functions same forms version [] [] before now spelled leads = leads
spelled_lead functions same forms version [] (entry ∷ entries) before now spelled leads = absurd spelled
spelled_lead functions same forms version (value ∷ values) [] before now spelled leads = absurd spelled
spelled_lead functions same forms version (value ∷ values) (entry ∷ entries) before now spelled (between, first, rest) = (
  between,
  record { value = value; spelled = spelled.0; leads = first },
  spelled_lead functions same forms version values entries between now spelled.1 rest,
)

-- an image does not tell what changed
noting_image : {F : Type 0} (image : ProgramImage F) (core : CoreData F) → HasImage image core → HasImage image (record core { changes = Some [] })
noting_image image core has = record { program = has.program; graphed = has.graphed; roots = has.roots; get = has.get; pending = has.pending }

module _ {F L : Type 0} (a : Analysis F L) where
  -- what records lead to on one disk, they lead to wherever the store stands
  pub leads_there : (place : Place) (records : List VersionedEntry) (before now : ProgramImage F)
      → LeadTo (machine a.functions a.same (forms_of a)) records before now → LeadTo (rules_at a place) records before now
  leads_there place [] before now same = same
  leads_there place (r ∷ records) before now (between, first, rest) =
      (between, does_at a place r before between first, leads_there place records between now rest)

module _ {F L : Type 0} (a : Analysis F L) (knows : Knows a) where
  begins : (core : CoreData F) (version : Version) → HasImage (loaded None) core → IsFree core.pile → BeginsOn a (half_over core version 0)
  begins core version has free place work disks same = record {
    running = refl;
    working = refl;
    version = same;
    image = noting_image (loaded None) core has;
    claims = λ hand. ap (option_map (claim_of a.functions a.targets)) (sym (free hand));
    base = record {
      image = loaded None;
      folded = refl;
      program = refl;
      roots = refl;
      entries = λ key. λ i. (has.get key i, has.pending key i);
    };
    sealed = refl;
    waits = refl;
  }

  -- what the records that were found fold to is the image of a core to which others were applied that give back the same
  found_image : (old new : CoreData F) (place : Place) (version : Version) (given : List Entry) (found : List VersionedEntry) (image : ProgramImage F)
      → HasImage (loaded None) old → LeadOver (forms_of a) version a.functions a.same given old new
      → GiveTheSame (rules_at a place) (in_version version given) found → IsFolded (rules_at a place) found image → HasImage image new
  found_image old new place version given found image has over alike folded =
      let now = over.leads (loaded None) has in
      let leads = leads_there a place (in_version version given) (loaded None) now.0
      (spelled_lead a.functions a.same (forms_of a) version over.values given (loaded None) now.0 over.spelled now.1) in
      let one : now.0 ≡ image =
      one_image (rules_at a place) (exact_at a knows.prefix_free place) (laws_at a place) found (loaded None) now.0 image ((alike now.0).0 leads) folded in
      subst (λ (i : ProgramImage F). HasImage i new) one now.2

  goes_on : (old new : CoreData F) (version : Version) (given : List Entry) (sealed : ℕ) → HasImage (loaded None) old
      → LeadOver (forms_of a) version a.functions a.same given old new → IsFree new.pile → GoesOnFrom a given (half_over new version sealed)
  goes_on old new version given sealed empty over free place w reached found count alike image work disks same may =
      let held = (reached_whole a knows place w reached).held.world in
      let is : IsRead (rules_at a place) w.world found = read (rules_at a place) (exact_at a knows.prefix_free place) (laws_at a place) w.world found held may.1.0 in
      let has : HasImage image new =
      found_image old new place version given found image empty over alike may.1.1 in (
        is.holds,
        record {
          running = refl;
          working = refl;
          version = same;
          image = noting_image image new has;
          claims = λ hand. ap (option_map (claim_of a.functions a.targets)) (sym (free hand));
          base = record {
            image = image;
            folded = is.image image may.1.1;
            program = refl;
            roots = refl;
            entries = λ key. λ i. (has.get key i, has.pending key i);
          };
          sealed = length-take-le (length found) w.world.sealed is.most ∙ count;
          waits = sym (append-nil (contents (take (length found) w.world.sealed)));
        },
      )

  -- they give an image back
  have_fold : (old new : CoreData F) (version : Version) (given : List Entry) → HasImage (loaded None) old
      → LeadOver (forms_of a) version a.functions a.same given old new → HaveFold a version given
  have_fold old new version given empty over =
      let now = over.leads (loaded None) empty in
      record { image = now.0; folded = spelled_lead a.functions a.same (forms_of a) version over.values given (loaded None) now.0 over.spelled now.1 }

  pub halves_begin : HalvesBegin a
  halves_begin = record {
    begins = begins;
    goes_on = λ old new version given sealed empty over free.
        (have_fold old new version given empty over, goes_on old new version given sealed empty over free);
  }
