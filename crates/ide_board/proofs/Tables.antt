-- The steps of the table's seat, and what every seat's step needs of a ledger.
use Rattle.std.proofs.Common.{◌≡◌, ℕ, ◌+◌, ◌%◌, ◌^◌, ◌<◌, ◌≤◌, inl, inr, ⊎_elim, List, [], ◌∷◌, ◌++◌, length, refl, ap, sym, subst, ◌∙◌, arith, length-append}
use mathlib.Core.List.{IsPrefix}
use Rattle.atomic_table.specs.Table.{Allows}
use Rattle.ide_board.specs.declared.view.Role.{Role}
use Rattle.ide_board.specs.declared.view.Role.TheVariants.{Table, Writer, Client}
use Rattle.ide_board.specs.declared.view.View.{View}
use Rattle.ide_board.specs.Records.{Marked, AreSealed}
use Rattle.ide_board.specs.Roles.{Sitter, IsTableRole, IsWriterRole, IsClientRole, without_note, sealed_in, handed_in, before_in, taken_in, stored_in, client_in, own_in, seen_in}
use Rattle.ide_board.specs.Rule.{Ledger, IsNested, KnowsLedger, Recalls, Kept}
use Rattle.ide_board.specs.Steps.{Sealing, Comparing, Counting, Ending}
use Rattle.ide_board.proofs.Beginnings.{prefix_self, prefix_trans, prefix_length}
use Rattle.ide_board.proofs.Changes.{any_step, allows, still}

-- the table's seat, maybe with a hand over under way
abbrev pub HasTableRole : {R : Type 0} → Role R → Type 0
HasTableRole role = role ≡ Table (sealed_in role) (handed_in role) (before_in role)

one_more : (n : ℕ) → n < 4294967295 → (n + 1) % 2 ^ 64 ≡ n + 1
one_more n small = omega arith

module _ {R : Type 0} where
  pub table_has : (role : Role R) → IsTableRole role → HasTableRole role
  table_has role is = is ∙ ap (λ n. Table (sealed_in role) (handed_in role) n) (sym (ap before_in is))

  -- no more is taken than was handed over
  pub taken_handed : (l : Ledger R) → IsNested l → length l.taken ≤ l.handed
  taken_handed l n = let before = n.before in ⊎_elim (λ (e : length l.taken ≡ l.before). omega arith) (λ (e : length l.taken ≡ l.handed). omega arith) n.exact

  -- the table's seat knows its list and its number
  pub table_known : (l : Ledger R) (seats at : ℕ) (role : Role R) → HasTableRole role → KnowsLedger l seats at role
      → (at ≡ l.table) × (sealed_in role ≡ l.sealed) × (handed_in role ≡ l.handed) × (before_in role ≡ l.before)
  table_known l seats at role is k = subst (λ r. KnowsLedger l seats at r) is k

  pub seals : (slots id : ℕ) (me : Sitter R) (entry : List (Marked R)) → length entry ≡ 1 → IsTableRole me.0.role → length (sealed_in me.0.role) < 4294967295
      → Allows (Kept 0) slots id me 0 (λ n. (n + 1) % 2 ^ 64) (Sealing entry any_step me)
  seals slots id me entry one is room = allows slots id 0 (λ n. (n + 1) % 2 ^ 64) me (Sealing entry any_step me) (λ l seats nested knows recalls.
      let role : Role R = me.0.role in
      let k = table_known l seats id role (table_has role is) knows in
      let handed = nested.handed in
      let same : length (sealed_in role) ≡ length l.sealed = ap length k.1 in
      let more : length (l.sealed ++ entry) ≡ length l.sealed + 1 = length-append l.sealed entry ∙ ap (λ n. length l.sealed + n) one in
      record {
        after = record l { sealed = l.sealed ++ entry };
        view = without_note (Table (sealed_in role ++ entry) (handed_in role) (handed_in role));
        nested = record {
          taken = prefix_trans l.taken l.sealed (l.sealed ++ entry) nested.taken (entry, refl);
          stored = nested.stored;
          exact = nested.exact;
          before = nested.before;
          handed = omega arith;
        };
        words = ap (λ n. n ∷ length l.stored ∷ []) (one_more (length l.sealed) (omega arith) ∙ sym more);
        grows = record {
          sealed = (entry, refl);
          taken = prefix_self l.taken;
          stored = prefix_self l.stored;
          handed = inl (refl, refl);
          table = refl;
          writer = refl;
        };
        table = inl k.0;
        writer = inr (record { taken = refl; stored = refl });
        knows = (k.0, ap (λ r. r ++ entry) k.1, k.2, sym (ap before_in is) ∙ k.3);
        recalls = tt;
        tells = refl;
      })

  pub compares : (slots id : ℕ) (me : Sitter R) → IsTableRole me.0.role → IsClientRole me.0.note → Allows (Kept 0) slots id me 0 (λ n. n) (Comparing any_step me)
  compares slots id me is client = allows slots id 0 (λ n. n) me (Comparing any_step me) (λ l seats nested knows recalls.
      let role : Role R = me.0.role in
      let note : Role R = me.0.note in
      let k = table_known l seats id role (table_has role is) knows in
      let t : Recalls l (Client (client_in note) (own_in note) (seen_in note)) = subst (Recalls l) client recalls in
      let few = taken_handed l nested in
      let fewer = prefix_length l.stored l.taken nested.stored in
      let seen = t.2 in
      let handed = k.2 in
      still l seats id 0 (λ n. n) me (Comparing any_step me) (without_note (Table (sealed_in role) (handed_in role) (handed_in role))) nested refl
      (k.0, k.1, k.2, sym (ap before_in is) ∙ k.3) tt
      (refl, subst (λ r. AreSealed r (client_in note) (own_in note)) (sym k.1) t.1, t.0, omega arith))

  pub begins_hand_over : (slots id : ℕ) (me : Sitter R) → IsTableRole me.0.role → IsWriterRole me.0.note → Allows (Kept 0) slots id me 0 (λ n. n) (Counting any_step me)
  begins_hand_over slots id me is writer = allows slots id 0 (λ n. n) me (Counting any_step me) (λ l seats nested knows recalls.
      let role : Role R = me.0.role in
      let note : Role R = me.0.note in
      let k = table_known l seats id role (table_has role is) knows in
      let t : Recalls l (Writer (taken_in note) (stored_in note)) = subst (Recalls l) writer recalls in
      let before : handed_in role ≡ l.before = sym (ap before_in is) ∙ k.3 in
      let handed : handed_in role ≡ l.handed = k.2 in
      let all : length l.taken ≡ l.handed = ⊎_elim (λ (e : length l.taken ≡ l.before). omega arith) (λ (e : length l.taken ≡ l.handed). e) nested.exact in
      let taken = prefix_length (taken_in note) l.taken t.0 in
      let within = nested.handed in
      let same : length (sealed_in role) ≡ length l.sealed = ap length k.1 in
      record {
        after = record l { handed = length l.sealed; before = l.handed };
        view = without_note (Table (sealed_in role) (length (sealed_in role)) (handed_in role));
        nested = record {
          taken = nested.taken;
          stored = nested.stored;
          exact = inl all;
          before = nested.handed;
          handed = omega arith;
        };
        words = refl;
        grows = record {
          sealed = prefix_self l.sealed;
          taken = prefix_self l.taken;
          stored = prefix_self l.stored;
          handed = inr (omega arith);
          table = refl;
          writer = refl;
        };
        table = inl k.0;
        writer = inr (record { taken = refl; stored = refl });
        knows = (k.0, k.1, same, k.2);
        recalls = tt;
        tells = (
          refl,
          subst (IsPrefix (taken_in note)) (sym k.1) (prefix_trans (taken_in note) l.taken l.sealed t.0 nested.taken),
          omega arith,
          omega arith,
        );
      })

  pub ends_hand_over : (slots id : ℕ) (me : Sitter R) → HasTableRole me.0.role → IsWriterRole me.0.note → length (taken_in me.0.note) ≡ handed_in me.0.role
      → Allows (Kept 0) slots id me 0 (λ n. n) (Ending any_step me)
  ends_hand_over slots id me is writer took = allows slots id 0 (λ n. n) me (Ending any_step me) (λ l seats nested knows recalls.
      let role : Role R = me.0.role in
      let note : Role R = me.0.note in
      let k = table_known l seats id role is knows in
      let t : Recalls l (Writer (taken_in note) (stored_in note)) = subst (Recalls l) writer recalls in
      let handed : handed_in role ≡ l.handed = k.2 in
      let taken = prefix_length (taken_in note) l.taken t.0 in
      let most = taken_handed l nested in
      let all : length l.taken ≡ l.handed = omega arith in
      record {
        after = record l { before = l.handed };
        view = without_note (Table (sealed_in role) (handed_in role) (handed_in role));
        nested = record {
          taken = nested.taken;
          stored = nested.stored;
          exact = inl all;
          before = omega arith;
          handed = nested.handed;
        };
        words = refl;
        grows = record {
          sealed = prefix_self l.sealed;
          taken = prefix_self l.taken;
          stored = prefix_self l.stored;
          handed = inr (omega arith);
          table = refl;
          writer = refl;
        };
        table = inl k.0;
        writer = inr (record { taken = refl; stored = refl });
        knows = (k.0, k.1, k.2, k.2);
        recalls = tt;
        tells = refl;
      })

  -- the same, where the table's seat was told that the writer has taken its sealed records
  pub ends_told : (slots id : ℕ) (me : Sitter R) (sealed stored : List (Marked R)) (before : ℕ) → me.0 ≡ record { role = Table sealed (length sealed) before; note = Writer sealed stored }
      → Allows (Kept 0) slots id me 0 (λ n. n) (Ending any_step me)
  ends_told slots id me sealed stored before e =
      ends_hand_over slots id me (subst (λ (v : View R). HasTableRole v.role) (sym e) refl) (subst (λ (v : View R). IsWriterRole v.note) (sym e) refl)
      (subst (λ (v : View R). length (taken_in v.note) ≡ handed_in v.role) (sym e) refl)
