-- Lists of records, from bytes.
use Rattle.std.specs.Prelude.{◌≡◌, ◌≢◌, ℕ, suc, ◌+◌, ◌≤◌, List, [], ◌∷◌, ◌++◌, length, refl}
use Rattle.std.proofs.Common.{arith, sym, ap, subst, ◌∙◌, inl, inr}
use Rattle.std.proofs.lemmas.List.{append_assoc, append-nil, length-append}
use Rattle.ide_journal.specs.Bytes.{IsBefore, IsAfter, IsBeforeOrAfter}
use Rattle.ide_journal.specs.Format.{Entry, Head, header, after_gate, IsEntry, IsPages, Holds}
use Rattle.ide_journal.specs.Lists.{HoldsWithOrWithout}

-- one more record behind the others
pub pages_push : (number : ℕ) (entries : List Entry) (entry : Entry) (pages : List ℕ) (gate : ℕ) → IsPages number entries pages → gate ≢ 0 → IsEntry entry
    → IsPages number (entries ++ entry ∷ []) (pages ++ gate ∷ after_gate (number + length entries) entry)
pages_push number [] entry pages gate whole opened proper = (
  gate,
  [],
  opened,
  proper,
  ap (λ (p : List ℕ). p ++ gate ∷ after_gate (number + 0) entry) whole
      ∙ ap (λ (n : ℕ). gate ∷ after_gate n entry) (omega arith) ∙ sym (append-nil (gate ∷ after_gate number entry)),
  refl,
)
pages_push number (e ∷ entries) entry pages gate (g, rest, o, is, split, whole) opened proper =
    let same : number + 1 + length entries ≡ number + suc (length entries) = omega arith in (
      g,
      rest ++ gate ∷ after_gate (number + suc (length entries)) entry,
      o,
      is,
      ap (λ (p : List ℕ). p ++ gate ∷ after_gate (number + suc (length entries)) entry) split
          ∙ append_assoc (g ∷ after_gate number e) rest (gate ∷ after_gate (number + suc (length entries)) entry),
      subst (λ (n : ℕ). IsPages (number + 1) (entries ++ entry ∷ []) (rest ++ gate ∷ after_gate n entry)) same
          (pages_push (number + 1) entries entry rest gate whole opened proper),
    )

-- behind the pages and an open gate stands one page more
one_page : (header pages behind rest : List ℕ) (gate : ℕ)
    → (header ++ pages) ++ gate ∷ (behind ++ 0 ∷ []) ++ rest ≡ header ++ (pages ++ gate ∷ behind) ++ 0 ∷ rest
one_page header pages behind rest gate = simp append_assoc

pub holds_before : (head : Head) (entries : List Entry) (pages left : List ℕ) → IsPages 0 entries pages → length entries ≤ 4294967295
    → IsBefore (header head ++ pages) left → Holds head entries left
holds_before head entries pages left whole few before = record {
  pages = pages;
  rest = before.rest;
  whole = whole;
  few = few;
  split = before.split;
}

pub holds_after : (head : Head) (entries : List Entry) (entry : Entry) (pages left : List ℕ) → IsPages 0 entries pages → IsEntry entry
    → length entries + 1 ≤ 4294967295
    → IsAfter (header head ++ pages) (after_gate (length entries) entry ++ 0 ∷ []) left → Holds head (entries ++ entry ∷ []) left
holds_after head entries entry pages left whole proper few after = record {
  pages = pages ++ after.gate ∷ after_gate (length entries) entry;
  rest = after.rest;
  whole = subst (λ (n : ℕ). IsPages 0 (entries ++ entry ∷ []) (pages ++ after.gate ∷ after_gate n entry)) (omega arith)
      (pages_push 0 entries entry pages after.gate whole after.opened proper);
  few = omega (arith, length-append entries (entry ∷ []));
  split = after.split ∙ one_page (header head) pages (after_gate (length entries) entry) after.rest after.gate;
}

pub holds_either : (head : Head) (entries : List Entry) (entry : Entry) (pages left : List ℕ) → IsPages 0 entries pages → IsEntry entry
    → length entries + 1 ≤ 4294967295
    → IsBeforeOrAfter (header head ++ pages) (after_gate (length entries) entry ++ 0 ∷ []) left → HoldsWithOrWithout head entries entry left
holds_either head entries entry pages left whole proper few either =
    elim either [
      | inl before ↦ inl (holds_before head entries pages left whole (omega arith) before)
      | inr after ↦ inr (holds_after head entries entry pages left whole proper few after)
    ]
