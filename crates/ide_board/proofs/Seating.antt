-- How seats come about, and how one tells another what it knows.
use Rattle.std.proofs.Common.{◌≡◌, ℕ, zero, suc, ◌≤◌, inl, ⊎_elim, List, [], ◌∷◌, ◌++◌, length, set, refl, ap, sym, subst, ◌∙◌, arith}
use mathlib.Core.Option.{some, some-ne-none, some-injective}
use lib.ListN.{get_elem?}
use Rattle.atomic_table.specs.Table.{Splits, Joins, opening}
use Rattle.atomic_table.proofs.Lists.{at_snoc, set_again, set_else}
use Rattle.ide_board.specs.declared.view.Role.{Role}
use Rattle.ide_board.specs.declared.view.Role.TheVariants.{Founder, Table, Writer, Client, Nothing}
use Rattle.ide_board.specs.declared.view.View.{View}
use Rattle.ide_board.specs.Records.{unmarked}
use Rattle.ide_board.specs.Roles.{IsSeated, IsTableRole, IsWriterRole, IsClientRole, without_note, stored_in}
use Rattle.ide_board.specs.Rule.{Ledger, IsNested, KnowsLedger, Recalls, Published, Kept, counts}
use Rattle.ide_board.specs.Steps.{founder, table_of, writer_of, client_of, carrier_of, with_carried}
use Rattle.ide_board.proofs.Beginnings.{prefix_self}
use Rattle.ide_board.proofs.Ledgers.{recalls_known, knows_among}
use Rattle.ide_board.proofs.Changes.{at_within, unmoved}
use Rattle.ide_board.proofs.Writers.{writer_known}

module _ {R : Type 0} where
  pub table_seated : (role : Role R) → IsTableRole role → IsSeated role
  table_seated role is = subst IsSeated (sym is) tt

  pub writer_seated : (role : Role R) → IsWriterRole role → IsSeated role
  writer_seated role is = subst IsSeated (sym is) tt

  pub client_seated : (role : Role R) → IsClientRole role → IsSeated role
  client_seated role is = subst IsSeated (sym is) tt

  -- where one seat is not the first, none is
  all_seated : (l : Ledger R) (views : List (View R)) (id j : ℕ) (v u : View R) → get_elem? views id ≡ some v → get_elem? views j ≡ some u → IsSeated v.role
      → (role : Role R) → u.role ≡ role → KnowsLedger l (length views) j role → IsSeated role
  all_seated l views id j v u here there seated (Founder count) is k =
      let a = at_within views id v here in
      let b = at_within views j u there in
      let one = k.0 in
      let same : j ≡ id = omega arith in
      let equal : v ≡ u = some-injective v u (sym here ∙ (ap (get_elem? views) (sym same) ∙ there)) in
      subst IsSeated is (subst (λ (w : View R). IsSeated w.role) equal seated)
  all_seated l views id j v u here there seated (Table sealed handed before) is k = tt
  all_seated l views id j v u here there seated (Writer taken stored) is k = tt
  all_seated l views id j v u here there seated (Client number own seen) is k = tt
  all_seated l views id j v u here there seated Nothing is k = tt

  -- the rule with a seat more, made beside one that is not the first
  joined : (words : List ℕ) (views : List (View R)) (id : ℕ) (v right : View R) (p : Published words views) → get_elem? views id ≡ some v → IsSeated v.role
      → ((seats at : ℕ) → KnowsLedger p.ledger seats at right.role) → Recalls p.ledger right.note → Published words (set views id v ++ right ∷ [])
  joined words views id v right p here seated knows recalls = record {
    ledger = p.ledger;
    nested = p.nested;
    counted = p.counted;
    seats = λ j u e. ⊎_elim
        (λ (was : get_elem? (set views id v) j ≡ some u).
        let there : get_elem? views j ≡ some u = subst (λ vs. get_elem? vs j ≡ some u) (set_again views id v here) was in
        let old = p.seats j u there in
        (knows_among p.ledger (length views) (length (set views id v ++ right ∷ [])) j u.role (all_seated p.ledger views id j v u here there seated u.role refl old.0) old.0, old.1))
        (λ (same : right ≡ u). subst (λ (w : View R). KnowsLedger p.ledger (length (set views id v ++ right ∷ [])) j w.role × Recalls p.ledger w.note) same (knows (length (set views id v ++ right ∷ [])) j, recalls))
        (at_snoc (set views id v) right u j e);
  }

  pub notes_given : (id : ℕ) (v : View R) → IsSeated v.role → Splits (Kept 0) id v v (carrier_of v)
  notes_given id v seated s p here = joined s.words s.views id v (carrier_of v) p here seated (λ seats at. tt) (recalls_known p.ledger (length s.views) id v.role (p.seats id v here).0)

  pub notes_taken : (id : ℕ) (v : View R) (other : ℕ) (w : View R) → Joins (Kept 0) id v other w (with_carried v w) (without_note Nothing)
  notes_taken id v other w s p here apart there =
      let before : get_elem? s.views other ≡ some w = sym (set_else s.views id other (with_carried v w) apart) ∙ there in
      let q = unmoved s.words s.views id v (with_carried v w) p here (p.seats id v here).0 (p.seats other w before).1 in
      unmoved s.words (set s.views id (with_carried v w)) other w (without_note Nothing) q there tt tt

  pub admits : (id number : ℕ) (v : View R) → IsWriterRole v.role → Splits (Kept 0) id v v (client_of number v)
  admits id number v is s p here =
      let k = writer_known p.ledger (length s.views) id v.role is (p.seats id v here).0 in
      let few : length (stored_in v.role) ≤ length p.ledger.stored = let e = ap length k.2 in omega arith in
      joined s.words s.views id v (client_of number v) p here (writer_seated v.role is) (λ seats at. (tt, tt, few)) tt

  -- the ledger of records that are all stored
  abbrev base : List R → Ledger R
  base records = record { sealed = unmarked records; taken = unmarked records; stored = unmarked records; handed = length records; before = length records; table = 0; writer = 1 }

  base_count : (records : List R) → length (unmarked records) ≡ length records
  base_count [] = refl
  base_count (x ∷ xs) = ap suc (base_count xs)

  base_nested : (records : List R) → IsNested (base records)
  base_nested records = let same = base_count records in record {
    taken = prefix_self (unmarked records);
    stored = prefix_self (unmarked records);
    exact = inl same;
    before = omega arith;
    handed = omega arith;
  }

  -- the rule of a new board, whose one seat is the first
  pub begins : (count : ℕ) (records : List R) → length records ≡ count → Kept {R = R} 0 (opening (count ∷ count ∷ []) [] (founder count))
  begins count records n = record {
    ledger = base records;
    nested = base_nested records;
    counted = λ i. sym same i ∷ sym same i ∷ [];
    seats = one;
  }
    where
      same : length (unmarked records) ≡ count
      same = base_count records ∙ n

      one : (at : ℕ) (v : View R) → get_elem? (founder count ∷ []) at ≡ some v → KnowsLedger (base records) 1 at v.role × Recalls (base records) v.note
      one zero v e = subst (λ (w : View R). KnowsLedger (base records) 1 zero w.role × Recalls (base records) w.note) (some-injective _ _ e) ((refl, same, same), tt)
      one (suc at) v e = absurd (some-ne-none v (sym e))

  -- the rule of a board with the table's seat and the writer's
  founded : (words : List ℕ) (records : List R) → words ≡ counts (base records) → Published words (table_of records ∷ writer_of records ∷ [])
  founded words records is = record {
    ledger = base records;
    nested = base_nested records;
    counted = is;
    seats = two;
  }
    where
      two : (at : ℕ) (v : View R) → get_elem? (table_of records ∷ writer_of records ∷ []) at ≡ some v → KnowsLedger (base records) 2 at v.role × Recalls (base records) v.note
      two zero v e = subst (λ (w : View R). KnowsLedger (base records) 2 zero w.role × Recalls (base records) w.note) (some-injective _ _ e) ((refl, refl, refl, refl), tt)
      two (suc zero) v e = subst (λ (w : View R). KnowsLedger (base records) 2 1 w.role × Recalls (base records) w.note) (some-injective _ _ e) ((refl, refl, refl), tt)
      two (suc (suc at)) v e = absurd (some-ne-none v (sym e))

  founds_both : (count : ℕ) (records : List R) (words : List ℕ) (views : List (View R)) (id : ℕ) → length records ≡ count → Published words views → get_elem? views id ≡ some (founder count)
      → Published words (set views id (table_of records) ++ writer_of records ∷ [])
  founds_both count records words [] id n p here = absurd (some-ne-none _ (sym here))
  founds_both count records words (x ∷ []) zero n p here =
      let k = (p.seats zero (founder count) here).0 in
      let same : length (unmarked records) ≡ count = base_count records ∙ n in
      founded words records (p.counted ∙ (λ i. (k.1 ∙ sym same) i ∷ (k.2 ∙ sym same) i ∷ []))
  founds_both count records words (x ∷ []) (suc id) n p here = absurd (some-ne-none _ (sym here))
  founds_both count records words (x ∷ y ∷ ys) id n p here = let one = (p.seats id (founder count) here).0.0 in absurd (omega arith)

  -- the first seat becomes the table's, and the writer's is made beside it
  pub founds : (count id : ℕ) (v : View R) (records : List R) → v ≡ founder count → length records ≡ count → Splits (Kept {R = R} 0) id v (table_of records) (writer_of records)
  founds count id v records is n s p here = founds_both count records s.words s.views id n p (here ∙ ap some is)
