-- The steps of the writer's seat.
use Rattle.std.proofs.Common.{◌≡◌, ℕ, ◌+◌, ◌<◌, ◌≤◌, ◌⊎◌, inl, inr, List, [], ◌∷◌, length, take, max, refl, ap, sym, subst, ◌∙◌, arith}
use mathlib.Core.List.{IsPrefix}
use Rattle.atomic_table.specs.Table.{Allows}
use Rattle.ide_board.specs.declared.view.Role.{Role}
use Rattle.ide_board.specs.declared.view.Role.TheVariants.{Table, Writer, Client}
use Rattle.ide_board.specs.declared.view.View.{View}
use Rattle.ide_board.specs.Records.{Marked, AreStoredBelow}
use Rattle.ide_board.specs.Roles.{Sitter, IsWriterRole, IsClientRole, without_note, sealed_in, handed_in, before_in, taken_in, stored_in, client_in, own_in, seen_in}
use Rattle.ide_board.specs.Rule.{Ledger, KnowsLedger, Recalls, Kept}
use Rattle.ide_board.specs.Steps.{Publishing, Confirming, Taking}
use Rattle.ide_board.proofs.Beginnings.{prefix_self, prefix_same, prefix_trans, prefix_shorter, prefix_take, length_taken}
use Rattle.ide_board.proofs.Pairs.{sealed_stored}
use Rattle.ide_board.proofs.Changes.{any_step, allows, still}
use Rattle.ide_board.proofs.Tables.{HasTableRole}

greater : (n m k : ℕ) → n ≡ m → k ≡ m + 1 → max n k ≡ m + 1
greater n m k e is = omega arith

-- how many were taken before, as the note has it
as_before : (taken before handed now_before now_handed : ℕ) → taken ≤ before → before ≤ handed → (taken ≡ now_before) ⊎ (taken ≡ now_handed)
    → ((before ≡ now_before) × (handed ≡ now_handed)) ⊎ (handed ≤ taken) → taken ≡ before
as_before taken before handed now_before now_handed few within (inl a) (inl b) = let c = b.0 in omega arith
as_before taken before handed now_before now_handed few within (inr a) (inl b) = let c = b.1 in omega arith
as_before taken before handed now_before now_handed few within exact (inr b) = omega arith

-- as many are taken now as were handed over, as the note has it
as_handed : (taken before handed now_before now_handed count : ℕ) → taken ≤ before → before ≤ handed → handed ≡ count → (taken ≡ now_before) ⊎ (taken ≡ now_handed)
    → ((before ≡ now_before) × (handed ≡ now_handed)) ⊎ (handed ≤ taken) → (count ≡ now_before) ⊎ (count ≡ now_handed)
as_handed taken before handed now_before now_handed count few within is exact (inl b) = let c = b.1 in inr (omega arith)
as_handed taken before handed now_before now_handed count few within is (inl a) (inr b) = inl (omega arith)
as_handed taken before handed now_before now_handed count few within is (inr a) (inr b) = inr (omega arith)

module _ {R : Type 0} where
  -- the writer's seat knows its two lists
  pub writer_known : (l : Ledger R) (seats at : ℕ) (role : Role R) → IsWriterRole role → KnowsLedger l seats at role → (at ≡ l.writer) × (taken_in role ≡ l.taken) × (stored_in role ≡ l.stored)
  writer_known l seats at role is k = subst (λ r. KnowsLedger l seats at r) is k

  pub publishes : (slots id : ℕ) (me : Sitter R) (k : ℕ) → IsWriterRole me.0.role → length (stored_in me.0.role) < length (taken_in me.0.role) → k ≡ length (stored_in me.0.role) + 1
      → Allows (Kept 0) slots id me 1 (λ n. max n k) (Publishing any_step me)
  publishes slots id me next is waits one = allows slots id 1 (λ n. max n next) me (Publishing any_step me) (λ l seats nested knows recalls.
      let role : Role R = me.0.role in
      let k = writer_known l seats id role is knows in
      let now : List (Marked R) = take (length (stored_in role) + 1) (taken_in role) in
      let count : length now ≡ length (stored_in role) + 1 = length_taken (length (stored_in role) + 1) (taken_in role) (omega arith) in
      let same : length l.stored ≡ length (stored_in role) = sym (ap length k.2) in
      let begins : IsPrefix now l.taken = prefix_trans now (taken_in role) l.taken (prefix_take (length (stored_in role) + 1) (taken_in role)) (prefix_same (taken_in role) l.taken k.1) in
      record {
        after = record l { stored = now };
        view = without_note (Writer (taken_in role) now);
        nested = record {
          taken = nested.taken;
          stored = begins;
          exact = nested.exact;
          before = nested.before;
          handed = nested.handed;
        };
        words = ap (λ n. length l.sealed ∷ n ∷ []) (greater (length l.stored) (length (stored_in role)) next same one ∙ sym count);
        grows = record {
          sealed = prefix_self l.sealed;
          taken = prefix_self l.taken;
          stored = prefix_shorter l.stored now l.taken nested.stored begins (omega arith);
          handed = inl (refl, refl);
          table = refl;
          writer = refl;
        };
        table = inr (record { sealed = refl; handed = refl; before = refl });
        writer = inl k.0;
        knows = (k.0, k.1, refl);
        recalls = tt;
        tells = refl;
      })

  pub confirms : (slots id : ℕ) (me : Sitter R) → IsWriterRole me.0.role → IsClientRole me.0.note → Allows (Kept 0) slots id me 0 (λ n. n) (Confirming any_step me)
  confirms slots id me is client = allows slots id 0 (λ n. n) me (Confirming any_step me) (λ l seats nested knows recalls.
      let role : Role R = me.0.role in
      let note : Role R = me.0.note in
      let k = writer_known l seats id role is knows in
      let t : Recalls l (Client (client_in note) (own_in note) (seen_in note)) = subst (Recalls l) client recalls in
      let begins : IsPrefix l.stored l.sealed = prefix_trans l.stored l.taken l.sealed nested.stored nested.taken in
      let below : AreStoredBelow (seen_in note) l.stored (client_in note) (own_in note) = sealed_stored l.sealed l.stored (client_in note) (seen_in note) (own_in note) begins t.2 t.1 in
      still l seats id 0 (λ n. n) me (Confirming any_step me) (without_note (Writer (taken_in role) (stored_in role))) nested refl k tt
      (refl, subst (λ r. AreStoredBelow (seen_in note) r (client_in note) (own_in note)) (sym k.2) below, subst (λ r. seen_in note ≤ length r) (sym k.2) t.2))

  pub takes_over : (slots id : ℕ) (me : Sitter R) → IsWriterRole me.0.role → HasTableRole me.0.note → length (taken_in me.0.role) ≤ before_in me.0.note
      → before_in me.0.note ≤ handed_in me.0.note → handed_in me.0.note ≡ length (sealed_in me.0.note) → Allows (Kept 0) slots id me 0 (λ n. n) (Taking any_step me)
  takes_over slots id me is table few within whole = allows slots id 0 (λ n. n) me (Taking any_step me) (λ l seats nested knows recalls.
      let role : Role R = me.0.role in
      let note : Role R = me.0.note in
      let k = writer_known l seats id role is knows in
      let t : Recalls l (Table (sealed_in note) (handed_in note) (before_in note)) = subst (Recalls l) table recalls in
      let same : length (taken_in role) ≡ length l.taken = ap length k.1 in
      let longer : IsPrefix l.taken (sealed_in note) = prefix_shorter l.taken (sealed_in note) l.sealed nested.taken t.0 (omega arith) in
      let few' : length l.taken ≤ before_in note = omega arith in
      record {
        after = record l { taken = sealed_in note };
        view = without_note (Writer (sealed_in note) (stored_in role));
        nested = record {
          taken = t.0;
          stored = prefix_trans l.stored l.taken (sealed_in note) nested.stored longer;
          exact = as_handed (length l.taken) (before_in note) (handed_in note) l.before l.handed (length (sealed_in note)) few' within whole nested.exact t.1;
          before = nested.before;
          handed = nested.handed;
        };
        words = refl;
        grows = record {
          sealed = prefix_self l.sealed;
          taken = longer;
          stored = prefix_self l.stored;
          handed = inl (refl, refl);
          table = refl;
          writer = refl;
        };
        table = inr (record { sealed = refl; handed = refl; before = refl });
        writer = inl k.0;
        knows = (k.0, refl, k.2);
        recalls = tt;
        tells = (refl, same ∙ as_before (length l.taken) (before_in note) (handed_in note) l.before l.handed few' within nested.exact t.1);
      })

  -- the same, where the writer was told of a hand over that the table has begun
  pub takes_told : (slots id : ℕ) (me : Sitter R) (writer table : Role R) → me.0 ≡ record { role = writer; note = Table (sealed_in table) (length (sealed_in table)) (handed_in table) } → IsWriterRole writer
      → length (taken_in writer) ≤ handed_in table → handed_in table ≤ length (sealed_in table) → Allows (Kept 0) slots id me 0 (λ n. n) (Taking any_step me)
  takes_told slots id me writer table e is few within =
      takes_over slots id me (subst (λ (v : View R). IsWriterRole v.role) (sym e) is) (subst (λ (v : View R). HasTableRole v.note) (sym e) refl)
      (subst (λ (v : View R). length (taken_in v.role) ≤ before_in v.note) (sym e) few)
      (subst (λ (v : View R). before_in v.note ≤ handed_in v.note) (sym e) within)
      (subst (λ (v : View R). handed_in v.note ≡ length (sealed_in v.note)) (sym e) refl)
