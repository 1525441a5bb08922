-- Parts of a slot lead where the batches of their items do.
use Rattle.std.proofs.Common.{◌≡◌, ◌∙◌, ℕ, Bool, true, false, cond, List, [], ◌∷◌, map, refl, ap, sym, subst, arith, inl, inr}
use Rattle.std.specs.Prelude.{nat_eq}
use Rattle.ide_theory.proofs.Laws.Targets.{nat_eq-exact}
use Rattle.ide_batch.specs.Bodies.{IsEntryOf}
use Rattle.ide_batch.specs.Fold.{ProgramImage, RecordLeads}
use Rattle.ide_batch.specs.Items.{Functions}
use Rattle.ide_batch.specs.Records.{Batch, Load, RecordValue, Root, record_kind}
use Rattle.ide_journal.specs.Format.{Entry}
use Rattle.ide_journal.specs.declared.version.Version.{Version}
use Rattle.ide_lattice.specs.Algebra.{EdgeAlgebra}
use Rattle.ide_store.specs.Machine.{Does, SetsPart, slot_machine}
use Rattle.ide_store.specs.Versioned.{in_version}
use Rattle.ide_store.specs.World.{LeadTo}
use Rattle.ide_slot_store.specs.Batches.{batch_of}

module _ {F L : Type 0} (functions : EdgeAlgebra F L) (same : F → F → Bool) (forms : Functions F) (version : Version) where
  abbrev Leads : Entry → ProgramImage F → ProgramImage F → Type 0
  Leads entry = (slot_machine functions same forms).Leads (version, entry)

  -- a record of kind 3 is a batch
  batch_sets : (body : List ℕ) (before now : ProgramImage F) → Does functions same forms (version, (3, body)) before now
      → SetsPart functions same forms (version, (4, body)) before now
  batch_sets body before now does = by does.value refl
    where
      by : (value : RecordValue F) → does.value ≡ value → SetsPart functions same forms (version, (4, body)) before now
      by (Load text) is = absurd (omega (arith, does.spelled.kind ∙ ap record_kind is))
      by (Root name) is = absurd (omega (arith, does.spelled.kind ∙ ap record_kind is))
      by (Batch items) is =
          let spelled = subst (λ (value : RecordValue F). IsEntryOf forms version value (3, body)) is does.spelled in
          record {
            items = items;
            kind = refl;
            spelled = spelled.body;
            leads = subst (λ (value : RecordValue F). RecordLeads functions same value before now) is does.leads;
          }

  -- a part leads where the batch of its items does
  part_from : (body : List ℕ) (before now : ProgramImage F) → Leads (3, body) before now → Leads (4, body) before now
  part_from body before now leads = elim leads [
    | inl does ↦ inr (batch_sets body before now does)
    | inr part ↦ absurd (omega (arith, part.kind))
  ]

  -- and back
  part_to : (body : List ℕ) (before now : ProgramImage F) → Leads (4, body) before now → Leads (3, body) before now
  part_to body before now leads = elim leads [
    | inl does ↦ absurd (no_kind does.value does.spelled.kind)
    | inr part ↦ inl (record { value = Batch part.items; spelled = record { kind = refl; body = part.spelled }; leads = part.leads })
  ]
    where
      no_kind : (value : RecordValue F) → 4 ≡ record_kind value → ⊥
      no_kind (Load text) is = omega (arith, is)
      no_kind (Root name) is = omega (arith, is)
      no_kind (Batch items) is = omega (arith, is)

  one_from : (entry : Entry) (before now : ProgramImage F) → Leads (batch_of entry) before now → Leads entry before now
  one_from (kind, body) before now = by (nat_eq kind 4) refl
    where
      by : (b : Bool) → nat_eq kind 4 ≡ b → Leads (cond b 3 kind, body) before now → Leads (kind, body) before now
      by true is leads = subst (λ (k : ℕ). Leads (k, body) before now) (sym (nat_eq-exact kind 4 is)) (part_from body before now leads)
      by false is leads = leads

  one_to : (entry : Entry) (before now : ProgramImage F) → Leads entry before now → Leads (batch_of entry) before now
  one_to (kind, body) before now = by (nat_eq kind 4) refl
    where
      by : (b : Bool) → nat_eq kind 4 ≡ b → Leads (kind, body) before now → Leads (cond b 3 kind, body) before now
      by true is leads = part_to body before now (subst (λ (k : ℕ). Leads (k, body) before now) (nat_eq-exact kind 4 is) leads)
      by false is leads = leads

  -- so do lists of records
  pub lead_from : (entries : List Entry) (before now : ProgramImage F) → LeadTo (slot_machine functions same forms) (in_version version (map batch_of entries)) before now
      → LeadTo (slot_machine functions same forms) (in_version version entries) before now
  lead_from [] before now is = is
  lead_from (entry ∷ entries) before now (between, first, rest) =
      (between, one_from entry before between first, lead_from entries between now rest)

  pub lead_to : (entries : List Entry) (before now : ProgramImage F) → LeadTo (slot_machine functions same forms) (in_version version entries) before now
      → LeadTo (slot_machine functions same forms) (in_version version (map batch_of entries)) before now
  lead_to [] before now is = is
  lead_to (entry ∷ entries) before now (between, first, rest) =
      (between, one_to entry before between first, lead_to entries between now rest)
