-- Ledgers that grow: what a seat knew or recalls of the one before is so of the one after.
use Rattle.std.proofs.Common.{◌≡◌, ◌≢◌, ℕ, ◌<◌, ◌≤◌, ◌⊎◌, inl, inr, ⊎_elim, List, length, refl, sym, subst, ◌∙◌, arith}
use mathlib.Core.List.{IsPrefix}
use Rattle.ide_board.specs.declared.view.Role.{Role}
use Rattle.ide_board.specs.declared.view.Role.TheVariants.{Founder, Table, Writer, Client, Nothing}
use Rattle.ide_board.specs.Roles.{IsSeated}
use Rattle.ide_board.specs.Rule.{Ledger, IsTrueOf, KnowsLedger, Recalls}
use Rattle.ide_board.proofs.Beginnings.{prefix_self, prefix_same, prefix_trans, prefix_length}
use Rattle.ide_board.proofs.Pairs.{sealed_longer}

module _ {R : Type 0} where
  -- each list of m begins with that of l, and the number handed over stays, unless the writer has taken all of it
  pub record Grows (l m : Ledger R) : Type 0 where
    pub sealed : IsPrefix l.sealed m.sealed
    pub taken : IsPrefix l.taken m.taken
    pub stored : IsPrefix l.stored m.stored
    pub handed : ((l.before ≡ m.before) × (l.handed ≡ m.handed)) ⊎ (l.handed ≤ length m.taken)
    pub table : l.table ≡ m.table
    pub writer : l.writer ≡ m.writer

  -- only the table's seat changes what that knows exactly
  pub record TableStays (l m : Ledger R) : Type 0 where
    pub sealed : l.sealed ≡ m.sealed
    pub handed : l.handed ≡ m.handed
    pub before : l.before ≡ m.before

  pub record WriterStays (l m : Ledger R) : Type 0 where
    pub taken : l.taken ≡ m.taken
    pub stored : l.stored ≡ m.stored

  pub grows_self : (l : Ledger R) → Grows l l
  grows_self l = record { sealed = prefix_self l.sealed; taken = prefix_self l.taken; stored = prefix_self l.stored; handed = inl (refl, refl); table = refl; writer = refl }

  pub table_stays : (l : Ledger R) → TableStays l l
  table_stays l = record { sealed = refl; handed = refl; before = refl }

  pub writer_stays : (l : Ledger R) → WriterStays l l
  writer_stays l = record { taken = refl; stored = refl }

  true_of_more : (l m : Ledger R) (number : ℕ) (own : List (ℕ × R)) (seen : ℕ) → Grows l m → IsTrueOf l number own seen → IsTrueOf m number own seen
  true_of_more l m number own seen g t = (t.0, sealed_longer l.sealed m.sealed number own g.sealed t.1, le_trans_to (prefix_length l.stored m.stored g.stored) t.2)
    where
      le_trans_to : length l.stored ≤ length m.stored → seen ≤ length l.stored → seen ≤ length m.stored
      le_trans_to a b = omega arith

  handed_more : (l m : Ledger R) (handed before : ℕ) → Grows l m → ((before ≡ l.before) × (handed ≡ l.handed)) ⊎ (handed ≤ length l.taken) → ((before ≡ m.before) × (handed ≡ m.handed)) ⊎ (handed ≤ length m.taken)
  handed_more l m handed before g (inl same) = ⊎_elim
      (λ (e : (l.before ≡ m.before) × (l.handed ≡ m.handed)). inl (same.0 ∙ e.0, same.1 ∙ e.1))
      (λ (e : l.handed ≤ length m.taken). inr (subst (λ n. n ≤ length m.taken) (sym same.1) e))
      g.handed
  handed_more l m handed before g (inr few) = let longer = prefix_length l.taken m.taken g.taken in inr (omega arith)

  -- a note stays so
  pub recalls_more : (l m : Ledger R) (note : Role R) → Grows l m → Recalls l note → Recalls m note
  recalls_more l m (Founder count) g r = tt
  recalls_more l m (Table sealed handed before) g r = (prefix_trans sealed l.sealed m.sealed r.0 g.sealed, handed_more l m handed before g r.1)
  recalls_more l m (Writer taken stored) g r = (prefix_trans taken l.taken m.taken r.0 g.taken, prefix_trans stored l.stored m.stored r.1 g.stored)
  recalls_more l m (Client number own seen) g r = true_of_more l m number own seen g r
  recalls_more l m Nothing g r = tt

  -- what one seat knows another may take as a note
  pub recalls_known : (l : Ledger R) (seats at : ℕ) (role : Role R) → KnowsLedger l seats at role → Recalls l role
  recalls_known l seats at (Founder count) k = tt
  recalls_known l seats at (Table sealed handed before) k = (prefix_same sealed l.sealed k.1, inl (k.3, k.2))
  recalls_known l seats at (Writer taken stored) k = (prefix_same taken l.taken k.1, prefix_same stored l.stored k.2)
  recalls_known l seats at (Client number own seen) k = k
  recalls_known l seats at Nothing k = tt

  -- what another seat knew is so after a step of the seat id
  pub knows_more : (l m : Ledger R) (seats id at : ℕ) (role : Role R) → Grows l m → (id ≡ l.table) ⊎ TableStays l m → (id ≡ l.writer) ⊎ WriterStays l m → at ≢ id → id < seats → at < seats → KnowsLedger l seats at role → KnowsLedger m seats at role
  knows_more l m seats id at (Founder count) g t w apart one two k = let e = k.0 in absurd (apart (omega arith))
  knows_more l m seats id at (Table sealed handed before) g t w apart one two k = ⊎_elim
      (λ (e : id ≡ l.table). absurd (apart (k.0 ∙ sym e)))
      (λ (s : TableStays l m). (k.0 ∙ g.table, k.1 ∙ s.sealed, k.2 ∙ s.handed, k.3 ∙ s.before))
      t
  knows_more l m seats id at (Writer taken stored) g t w apart one two k = ⊎_elim
      (λ (e : id ≡ l.writer). absurd (apart (k.0 ∙ sym e)))
      (λ (s : WriterStays l m). (k.0 ∙ g.writer, k.1 ∙ s.taken, k.2 ∙ s.stored))
      w
  knows_more l m seats id at (Client number own seen) g t w apart one two k = true_of_more l m number own seen g k
  knows_more l m seats id at Nothing g t w apart one two k = tt

  -- a seat that is not the first one knows as much among any number of seats
  pub knows_among : (l : Ledger R) (seats more at : ℕ) (role : Role R) → IsSeated role → KnowsLedger l seats at role → KnowsLedger l more at role
  knows_among l seats more at (Founder count) seated k = absurd seated
  knows_among l seats more at (Table sealed handed before) seated k = k
  knows_among l seats more at (Writer taken stored) seated k = k
  knows_among l seats more at (Client number own seen) seated k = k
  knows_among l seats more at Nothing seated k = tt

  -- where there is another seat at a place, the one here is not the first
  pub seated_among : (l : Ledger R) (seats at : ℕ) (role : Role R) → (seats ≡ 1 → ⊥) → KnowsLedger l seats at role → IsSeated role
  seated_among l seats at (Founder count) more k = absurd (more k.0)
  seated_among l seats at (Table sealed handed before) more k = tt
  seated_among l seats at (Writer taken stored) more k = tt
  seated_among l seats at (Client number own seen) more k = tt
  seated_among l seats at Nothing more k = tt
