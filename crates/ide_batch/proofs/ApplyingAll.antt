-- That records are applied one after the other: one more, what they lead to, and where that stops.
use Rattle.std.specs.Prelude.{◌≡◌, ℕ, ◌+◌, ◌<◌, Bool, List, [], ◌∷◌, ◌++◌, Result, Ok, Err, IfErr, drop, get_or, length, take}
use Rattle.std.proofs.Common.{ap, sym, subst, refl, ◌∙◌, arith, append_assoc}
use Rattle.std.proofs.lemmas.List.{length-map, map-append, take_more, take-append-drop, length-take-le}
use Rattle.ide_journal.specs.Format.{Entry}
use Rattle.ide_journal.specs.Lists.{entries_of, entry_of}
use Rattle.ide_journal.specs.declared.record.RawRecord.{RawRecord}
use Rattle.ide_journal.specs.declared.version.Version.{Version}
use Rattle.ide_lattice.specs.Algebra.{EdgeAlgebra}
use Rattle.ide_steps.specs.Core.{CoreData}
use Rattle.ide_wire.specs.declared.refused.Refused.{Refused}
use Rattle.ide_batch.specs.Applied.{ApplyRefusal, HasImage, IsApplied}
use Rattle.ide_batch.specs.AppliedAll.{AreApplied, LeadOver, StopsAt}
use Rattle.ide_batch.specs.Items.{Functions}

-- the first records and the next one
entries_more : (records : List RawRecord) (n : ℕ) (raw : RawRecord) → n < length records → raw ≡ get_or records n raw
    → entries_of (take (n + 1) records) ≡ entries_of (take n records) ++ entry_of raw ∷ []
entries_more records n raw within is =
    ap entries_of (take_more records n raw within ∙ ap (λ (r : RawRecord). take n records ++ r ∷ []) (sym is))
    ∙ map-append entry_of (take n records) (raw ∷ [])

-- and those behind it
entries_split : (records : List RawRecord) (n : ℕ) (raw : RawRecord) → n < length records → raw ≡ get_or records n raw
    → entries_of records ≡ entries_of (take n records) ++ entry_of raw ∷ entries_of (drop (n + 1) records)
entries_split records n raw within is =
    ap entries_of (sym (take-append-drop (n + 1) records))
    ∙ map-append entry_of (take (n + 1) records) (drop (n + 1) records)
    ∙ ap (λ es. es ++ entries_of (drop (n + 1) records)) (entries_more records n raw within is)
    ∙ append_assoc (entries_of (take n records)) (entry_of raw ∷ []) (entries_of (drop (n + 1) records))

entries_count : (records : List RawRecord) (n : ℕ) → n < length records → length (entries_of (take n records)) ≡ n
entries_count records n within = length-map (take n records) entry_of ∙ length-take-le n records (omega (arith, within))

module _ {F L : Type 0} (functions : Functions F) (version : Version) (edge : EdgeAlgebra F L) (same : F → F → Bool) where
  applied-push : (entries : List Entry) (entry : Entry) (old mid new : CoreData F) → AreApplied functions version edge same entries old mid
      → IsApplied functions version edge same mid new entry → AreApplied functions version edge same (entries ++ entry ∷ []) old new
  applied-push [] entry old mid new is one = (new, subst (λ (core : CoreData F). IsApplied functions version edge same core new entry) (sym is) one, refl)
  applied-push (x ∷ entries) entry old mid new (between, first, more) one = (between, first, applied-push entries entry between mid new more one)

  pub applied_next : (records : List RawRecord) (n : ℕ) (raw : RawRecord) (old mid new : CoreData F) → n < length records → raw ≡ get_or records n raw
      → AreApplied functions version edge same (entries_of (take n records)) old mid → IsApplied functions version edge same mid new (entry_of raw)
      → AreApplied functions version edge same (entries_of (take (n + 1) records)) old new
  applied_next records n raw old mid new within is applied one =
      subst (λ es. AreApplied functions version edge same es old new) (sym (entries_more records n raw within is))
      (applied-push (entries_of (take n records)) (entry_of raw) old mid new applied one)

  pub lead_over : (entries : List Entry) (old new : CoreData F) → AreApplied functions version edge same entries old new
      → LeadOver functions version edge same entries old new
  lead_over [] old new is = record { values = []; spelled = tt; leads = λ image has. (image, refl, subst (HasImage image) is has) }
  lead_over (entry ∷ entries) old new (between, one, more) =
      let rest = lead_over entries between new more in
      record {
        values = one.value ∷ rest.values;
        spelled = (one.spelled, rest.spelled);
        leads = λ image has.
            let first = one.leads image has in
            let next = rest.leads first.0 first.2 in
            (next.0, (first.0, first.1, next.1), next.2);
      }

  pub stops_at : {T : Type 0} (result : Result T Refused) (records : List RawRecord) (n : ℕ) (raw : RawRecord) (old mid new : CoreData F)
      → n < length records → raw ≡ get_or records n raw
      → AreApplied functions version edge same (entries_of (take n records)) old mid → IfErr result (ApplyRefusal functions version n mid new (entry_of raw))
      → IfErr result (StopsAt functions version edge same (entries_of records) old new)
  stops_at (Ok x) records n raw old mid new within is applied refusal = tt
  stops_at (Err e) records n raw old mid new within is applied refusal = record {
    before = entries_of (take n records);
    entry = entry_of raw;
    after = entries_of (drop (n + 1) records);
    split = entries_split records n raw within is;
    between = mid;
    applied = applied;
    refusal = subst (λ k. ApplyRefusal functions version k mid new (entry_of raw) e) (sym (entries_count records n within)) refusal;
  }
