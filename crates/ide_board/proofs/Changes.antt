-- A step of one seat keeps the rule where it makes a change of the ledger that keeps what the others know.
use Rattle.std.proofs.Common.{◌≡◌, ◌≢◌, ℕ, zero, suc, ◌<◌, ◌⊎◌, inr, ⊎_elim, List, [], ◌∷◌, length, set, sym, subst, arith}
use Rattle.std.specs.Prelude.{slice_index, slice_set}
use Rattle.std.proofs.lemmas.List.{length-set}
use mathlib.Core.Option.{some, none, some-ne-none}
use lib.ListN.{get_elem?}
use Rattle.atomic_table.specs.Table.{Allows, keeps, Step, step}
use Rattle.atomic_table.proofs.Lists.{at_set}
use Rattle.ide_board.specs.declared.view.View.{View}
use Rattle.ide_board.specs.Roles.{Sitter}
use Rattle.ide_board.specs.Rule.{Ledger, IsNested, counts, KnowsLedger, Recalls, Published, Kept}
use Rattle.ide_board.proofs.Ledgers.{Grows, TableStays, WriterStays, grows_self, table_stays, writer_stays, recalls_more, knows_more}

-- what a step tells here names no word and no operand, so any step stands for each
abbrev pub any_step : Step (Unit {0})
any_step = step 0 0 0 0 none

pub at_within : {A : Type 0} (l : List A) (i : ℕ) (a : A) → get_elem? l i ≡ some a → i < length l
at_within [] i a e = absurd (some-ne-none a (sym e))
at_within (x ∷ xs) zero a e = omega arith
at_within (x ∷ xs) (suc i) a e = let deeper = at_within xs i a e in omega arith

module _ {R : Type 0} where
  -- What a step of the seat id does to the ledger: it goes on, the others keep what they know, and the seat has a new view
  pub record Change (l : Ledger R) (seats id i : ℕ) (f : ℕ → ℕ) (me : Sitter R) (then : ℕ → Sitter R → Type 0) : Type 0 where
    pub after : Ledger R
    pub view : View R
    pub nested : IsNested after
    pub words : slice_set (counts l) i (f (slice_index (counts l) i)) ≡ counts after
    pub grows : Grows l after
    pub table : (id ≡ l.table) ⊎ TableStays l after
    pub writer : (id ≡ l.writer) ⊎ WriterStays l after
    pub knows : KnowsLedger after seats id view.role
    pub recalls : Recalls after view.note
    pub tells : then (slice_index (counts l) i) (view, me.1)

  -- the rule over the ledger m, where the seat id has the view w now
  pub moved : (words new : List ℕ) (views : List (View R)) (id : ℕ) (v w : View R) (p : Published words views) (m : Ledger R) → IsNested m → new ≡ counts m → Grows p.ledger m
      → (id ≡ p.ledger.table) ⊎ TableStays p.ledger m → (id ≡ p.ledger.writer) ⊎ WriterStays p.ledger m → get_elem? views id ≡ some v
      → KnowsLedger m (length views) id w.role → Recalls m w.note → Published new (set views id w)
  moved words new views id v w p m nested is g t r here knows recalls = record {
    ledger = m;
    nested = nested;
    counted = is;
    seats = λ j u e. subst (λ n. KnowsLedger m n j u.role × Recalls m u.note) (sym (length-set views id w)) (⊎_elim
        (λ (s : (j ≡ id) × (w ≡ u)). subst (λ (y : ℕ × View R). KnowsLedger m (length views) y.0 y.1.role × Recalls m y.1.note) (λ k. (sym s.0 k, s.1 k)) (knows, recalls))
        (λ (s : (j ≢ id) × (get_elem? views j ≡ some u)).
        let old = p.seats j u s.1 in
        (knows_more p.ledger m (length views) id j u.role g t r s.0 (at_within views id v here) (at_within views j u s.1) old.0, recalls_more p.ledger m u.note g old.1))
        (at_set views id j w u e));
  }

  -- a step is allowed where each ledger that the seat can be at has its change
  pub allows : (slots id i : ℕ) (f : ℕ → ℕ) (me : Sitter R) (then : ℕ → Sitter R → Type 0)
      → ((l : Ledger R) (seats : ℕ) → IsNested l → KnowsLedger l seats id me.0.role → Recalls l me.0.note → Change l seats id i f me then)
      → Allows (Kept 0) slots id me i f then
  allows slots id i f me then change s p homes here small =
      let mine = p.seats id me.0 here in
      let c = change p.ledger (length s.views) p.nested mine.0 mine.1 in
      let words : slice_set s.words i (f (slice_index s.words i)) ≡ counts c.after = subst (λ ws. slice_set ws i (f (slice_index ws i)) ≡ counts c.after) (sym p.counted) c.words in
      let tells : then (slice_index s.words i) (c.view, me.1) = subst (λ ws. then (slice_index ws i) (c.view, me.1)) (sym p.counted) c.tells in
      (c.view, keeps, tt, moved s.words _ s.views id me.0 c.view p c.after c.nested words c.grows c.table c.writer here c.knows c.recalls, tells)

  -- a step that changes no list and no number
  pub still : (l : Ledger R) (seats id i : ℕ) (f : ℕ → ℕ) (me : Sitter R) (then : ℕ → Sitter R → Type 0) (view : View R) → IsNested l → slice_set (counts l) i (f (slice_index (counts l) i)) ≡ counts l
      → KnowsLedger l seats id view.role → Recalls l view.note → then (slice_index (counts l) i) (view, me.1) → Change l seats id i f me then
  still l seats id i f me then view nested words knows recalls tells = record {
    after = l;
    view = view;
    nested = nested;
    words = words;
    grows = grows_self l;
    table = inr (table_stays l);
    writer = inr (writer_stays l);
    knows = knows;
    recalls = recalls;
    tells = tells;
  }

  -- the rule where the seat id has the view w, and the ledger stays
  pub unmoved : (words : List ℕ) (views : List (View R)) (id : ℕ) (v w : View R) (p : Published words views) → get_elem? views id ≡ some v
      → KnowsLedger p.ledger (length views) id w.role → Recalls p.ledger w.note → Published words (set views id w)
  unmoved words views id v w p here knows recalls =
      moved words words views id v w p p.ledger p.nested p.counted (grows_self p.ledger) (inr (table_stays p.ledger)) (inr (writer_stays p.ledger)) here knows recalls
