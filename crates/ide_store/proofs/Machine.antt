-- A journal's record leads from an image to one other at most.
use Rattle.std.proofs.Common.{◌≡◌, ◌∙◌, ℕ, ◌≤◌, List, [], Bool, inl, inr, refl, ap, sym, subst, arith}
use Rattle.ide_batch.proofs.Apart.{apart}
use Rattle.ide_batch.specs.Fold.{RecordLeads, ProgramImage, procedures}
use Rattle.ide_batch.specs.Items.{Functions}
use Rattle.ide_batch.specs.Records.{RecordValue, Load, Root, Batch, record_kind}
use Rattle.ide_lattice.specs.Algebra.{EdgeAlgebra}
use Rattle.ide_text.specs.Parsed.{IsParsed}
use Rattle.ide_text.specs.Program.{value_of}
use Rattle.ide_text.specs.declared.program.Program.{Program}
use Rattle.ide_text.proofs.RoundTrip.{parsed_again, printed_again}
use Rattle.ide_theory.specs.Images.{step}
use Rattle.ide_theory.specs.Images as images
use Rattle.ide_wire.specs.Form.{IsPrefixFree}
use Rattle.ide_store.specs.Machine.{Does, SetsPart, machine, slot_machine}
use Rattle.ide_store.specs.Versioned.{VersionedEntry}
use Rattle.ide_store.specs.World.{AreExact}

-- programs of one text say the same
one_value : (text : List ℕ) (p q : Program) → IsParsed text p → IsParsed text q → value_of p ≡ value_of q
one_value text p q parsed other =
    sym ((parsed_again p).equal q (subst (λ (t : List ℕ). IsParsed t q) (sym (printed_again text p parsed)) other))

module _ {F L : Type 0} (functions : EdgeAlgebra F L) (same : F → F → Bool) where
  leads_once : (value : RecordValue F) (before now other : ProgramImage F) → RecordLeads functions same value before now
      → RecordLeads functions same value before other → now ≡ other
  leads_once (Load text) before now other (p, parsed, is) (q, parsed_other, is_other) =
      is ∙ ap (λ v. step procedures functions same before (images.Load v)) (one_value text p q parsed parsed_other) ∙ sym is_other
  leads_once (Root name) before now other is is_other = is ∙ sym is_other
  leads_once (Batch items) before now other is is_other = is ∙ sym is_other

  pub machine_is_exact : (forms : Functions F) → IsPrefixFree forms.proper forms.form → AreExact (machine functions same forms)
  machine_is_exact forms free r before now other does does_other =
      let one : does.value ≡ does_other.value = apart forms free r.0 does.value does_other.value r.1.1 r.1.1 [] []
      (sym does.spelled.kind ∙ does_other.spelled.kind) does.spelled.body does_other.spelled.body refl refl in
      leads_once does_other.value before now other (subst (λ (value : RecordValue F). RecordLeads functions same value before now) one does.leads) does_other.leads

  kind_below : (value : RecordValue F) → record_kind value ≤ 3
  kind_below (Load text) = omega arith
  kind_below (Root name) = omega arith
  kind_below (Batch items) = omega arith

  module _ (forms : Functions F) (free : IsPrefixFree forms.proper forms.form) where
    part_is_no_record : (r : VersionedEntry) (before now next other : ProgramImage F) → Does functions same forms r before now
        → SetsPart functions same forms r next other → ⊥
    part_is_no_record r before now next other does part = omega (arith, kind_below does.value, does.spelled.kind, part.kind)

    parts_are_exact : (r : VersionedEntry) (before now other : ProgramImage F) → SetsPart functions same forms r before now
        → SetsPart functions same forms r before other → now ≡ other
    parts_are_exact r before now other part part_other =
        let one : Batch part.items ≡ Batch part_other.items = apart forms free r.0 (Batch part.items) (Batch part_other.items) r.1.1 r.1.1 [] []
        refl part.spelled part_other.spelled refl refl in
        leads_once (Batch part_other.items) before now other
        (subst (λ (value : RecordValue F). RecordLeads functions same value before now) one part.leads) part_other.leads

    pub slot_machine_is_exact : AreExact (slot_machine functions same forms)
    slot_machine_is_exact r before now other one two = elim one [
      | inl does ↦ elim two [
        | inl does_other ↦ machine_is_exact forms free r before now other does does_other
        | inr part ↦ absurd (part_is_no_record r before now before other does part)
      ]
      | inr part ↦ elim two [
        | inl does ↦ absurd (part_is_no_record r before other before now does part)
        | inr part_other ↦ parts_are_exact r before now other part part_other
      ]
    ]
