-- Lowering by each entry that cells show comes to the meet over all facts, in whatever order the cells stand.
use Rattle.std.proofs.Common.{◌≡◌, ℕ, zero, suc, ◌+◌, ◌-◌, ◌*◌, ◌/◌, ◌%◌, ◌<◌, ◌≤◌, ◌⊎◌, inl, inr, take, ◌&&◌, true, false, cond, List, [], ◌∷◌, Option, Some, None, length, get_or, ap, sym, subst, refl, ◌∙◌, arith}
use Rattle.std.specs.Prelude.{IsTrue, fold, nat_eq, slice_index, slice_get, unwrap_or}
use Rattle.std.specs.List.{All, IsDistinct}
use Rattle.std.proofs.lemmas.List.{append-nil, get_or_past, take_all}
use Rattle.std.proofs.lemmas.List.Elements.{All-get_or}
use Rattle.std.proofs.lemmas.List.Sums.{fold-append}
use Rattle.std.proofs.lemmas.Option.{slice_get_cases}
use Rattle.std.specs.Map.{lookup, keys_of}
use Rattle.std.proofs.lemmas.Bool.Decides.{nat_tests}
use Rattle.std.proofs.lemmas.Map.Entries.{lookup_from_place, place_from_lookup}
use Rattle.ide_lattice.specs.Algebra.{LatticeAlgebra, EdgeAlgebra}
use Rattle.ide_lattice.specs.Laws.{IsLattice, IsEdgeAlgebra}
use Rattle.ide_lattice.specs.Meets.{meet_of, meet_of-below, below-meet_of, proper-meet_of}
use Rattle.ide_lattice.specs.Order.{IsBelow, below-refl, below-trans, below-top, below-meet, below-antisym, meet-below-left, meet-below-right}
use Rattle.ide_wire.specs.declared.key.Key.{Key}
use Rattle.ide_wire.specs.declared.key.Key.TheVariants.{Jump, Summary}
use Rattle.ide_wire.specs.Key.{node_of, same_key, same_key_laws, same_key_exact}
use Rattle.ide_graph.specs.Supergraph.{Supergraph}
use Rattle.ide_image.specs.Cells.{AreAlike, BeginsWith, HasOthers, IsAtOther, ShowTable, TablesData, function_shown_in, shown_entries}
use Rattle.ide_image.specs.Tables.{Table, found}
use Rattle.ide_values.specs.Fill.{Fills, FillsFrom, IsFilledAt, IsFilledBy, Meets, lowered, value_from}
use Rattle.ide_values.specs.Near.{AreNear, HasNoJump}
use Rattle.ide_values.specs.Start.{AreTops, value_before}
use Rattle.ide_values.proofs.Lowered.{meets_elsewhere, meets_summary}
use Rattle.ide_values.proofs.Places.{place_within}
use Rattle.ide_values.proofs.Shown.{nothing_shown, shown_is_found, shown_more}

module _ {F L : Type 0} (A : LatticeAlgebra L) (laws : IsLattice A) (B : EdgeAlgebra F L) (functions : IsEdgeAlgebra A B)
    (start : ℕ → ℕ → L) (started : (n a : ℕ) → IsTrue (A.proper (start n a))) (n d : ℕ) where
  abbrev pub after : L → List (Key × F) → L
  after v es = fold (λ u e. lowered A B start n d u e.0 e.1) v es

  -- each entry's function is proper
  abbrev pub AreProper : List (Key × F) → Type 0
  AreProper es = (i : ℕ) (e : Key × F) → slice_get es i ≡ Some e → IsTrue (B.proper e.1)

  pub proper_term : (m a : ℕ) (f : F) → IsTrue (B.proper f) → IsTrue (A.proper (B.apply f (start m a)))
  proper_term m a f p = functions.proper_apply f (start m a) p (started m a)

  pub lowered-below : (v : L) (key : Key) (f : F) → IsTrue (A.proper v) → IsTrue (B.proper f) → IsBelow A (lowered A B start n d v key f) v
  lowered-below v (Jump m a b) f p q =
      elim (nat_eq m n && nat_eq b d) as (λ t. IsBelow A (cond t (A.meet v (B.apply f (start m a))) v) v) [
        | true ↦ meet-below-left A laws v (B.apply f (start m a)) p (proper_term m a f q)
        | false ↦ below-refl A laws v p
      ]
  lowered-below v (Summary c a b) f p q = below-refl A laws v p

  pub after-below : (es : List (Key × F)) (v : L) → IsTrue (A.proper v) → AreProper es → IsBelow A (after v es) v
  after-below [] v p each = below-refl A laws v p
  after-below (e ∷ es) v p each =
      let once : IsBelow A (lowered A B start n d v e.0 e.1) v = lowered-below v e.0 e.1 p (each zero e refl) in
      below-trans A laws (after v (e ∷ es)) (lowered A B start n d v e.0 e.1) v
      (after-below es (lowered A B start n d v e.0 e.1) once.left (λ i x is. each (suc i) x is)) once

  -- the value that an entry for the place gives is above what is left
  pub once-below : (a : ℕ) (f : F) (v : L) → IsTrue (A.proper v) → IsTrue (B.proper f) → IsBelow A (lowered A B start n d v (Jump n a d) f) (B.apply f (start n a))
  once-below a f v p q =
      let here : (nat_eq n n && nat_eq d d) ≡ true = grind (arith, nat_tests) in
      subst (λ t. IsBelow A (cond t (A.meet v (B.apply f (start n a))) v) (B.apply f (start n a))) (sym here)
      (meet-below-right A laws v (B.apply f (start n a)) p (proper_term n a f q))

  pub after-below_term : (es : List (Key × F)) (v : L) → IsTrue (A.proper v) → AreProper es
      → (i a : ℕ) (f : F) → slice_get es i ≡ Some (Jump n a d, f) → IsBelow A (after v es) (B.apply f (start n a))
  after-below_term [] v p each i a f is = cc
  after-below_term (e ∷ es) v p each zero a f is =
      let head : e ≡ (Jump n a d, f) = cc in
      let q : IsTrue (B.proper f) = subst (λ x. IsTrue (B.proper x.1)) head (each zero e refl) in
      let once : IsBelow A (lowered A B start n d v e.0 e.1) (B.apply f (start n a)) =
      subst (λ x. IsBelow A (lowered A B start n d v x.0 x.1) (B.apply f (start n a))) (sym head) (once-below a f v p q) in
      below-trans A laws (after v (e ∷ es)) (lowered A B start n d v e.0 e.1) (B.apply f (start n a))
      (after-below es (lowered A B start n d v e.0 e.1) once.left (λ j x at. each (suc j) x at)) once
  after-below_term (e ∷ es) v p each (suc i) a f is =
      let once : IsBelow A (lowered A B start n d v e.0 e.1) v = lowered-below v e.0 e.1 p (each zero e refl) in
      after-below_term es (lowered A B start n d v e.0 e.1) once.left (λ j x at. each (suc j) x at) i a f is

  -- what is below a value and below what an entry gives the place is below the lowered value
  pub below-lowered : (w v : L) (key : Key) (f : F) → IsBelow A w v
      → ((a : ℕ) → key ≡ Jump n a d → IsBelow A w (B.apply f (start n a))) → IsBelow A w (lowered A B start n d v key f)
  below-lowered w v (Jump m a b) f under each =
      elim (nat_eq m n && nat_eq b d) as (λ t. (nat_eq m n && nat_eq b d) ≡ t → IsBelow A w (cond t (A.meet v (B.apply f (start m a))) v)) [
        | true ↦ λ e.
            let row : m ≡ n = grind (arith, nat_tests) in
            let fact : b ≡ d = grind (arith, nat_tests) in
            let key : Jump m a b ≡ Jump n a d = cc in
            below-meet A laws w v (B.apply f (start m a)) under
            (subst (λ r. IsBelow A w (B.apply f (start r a))) (sym row) (each a key))
        | false ↦ λ e. under
      ] refl
  below-lowered w v (Summary c a b) f under each = under

  pub below-after : (es : List (Key × F)) (w v : L) → IsBelow A w v
      → ((i a : ℕ) (f : F) → slice_get es i ≡ Some (Jump n a d, f) → IsBelow A w (B.apply f (start n a))) → IsBelow A w (after v es)
  below-after [] w v under each = under
  below-after (e ∷ es) w v under each =
      below-after es w (lowered A B start n d v e.0 e.1)
      (below-lowered w v e.0 e.1 under (λ a key. each zero a e.1 (ap (λ q. Some (q, e.1)) key)))
      (λ i a f at. each (suc i) a f at)

  module _ (es : List (Key × F)) (distinct : IsDistinct same_key (keys_of es)) (facts : ℕ)
      (within : (a : ℕ) (f : F) → lookup (same_key (Jump n a d)) es ≡ Some f → a < facts)
      (proper : (key : Key) (f : F) → lookup (same_key key) es ≡ Some f → IsTrue (B.proper f)) where
    abbrev pub get : Key → Option F
    get key = lookup (same_key key) es

    pub are_proper : AreProper es
    are_proper i e is = proper e.0 e.1 (lookup_from_place same_key_laws es i e.0 e.1 distinct is)

    -- what fact a at the start gives the place
    abbrev pub term : ℕ → L
    term a = B.apply (unwrap_or (get (Jump n a d)) B.all_top) (start n a)

    pub proper_function : (key : Key) (found : Option F) → get key ≡ found → IsTrue (B.proper (unwrap_or found B.all_top))
    proper_function key None is = functions.proper_all_top
    proper_function key (Some f) is = proper key f is

    pub proper_of : (a : ℕ) → IsTrue (A.proper (term a))
    proper_of a = proper_term n a (unwrap_or (get (Jump n a d)) B.all_top) (proper_function (Jump n a d) (get (Jump n a d)) refl)

    pub filled-below : (a : ℕ) (found : Option F) → get (Jump n a d) ≡ found → IsBelow A (after A.top es) (B.apply (unwrap_or found B.all_top) (start n a))
    filled-below a None is =
        subst (IsBelow A (after A.top es)) (sym (functions.apply_all_top (start n a) (started n a)))
        (after-below es A.top laws.proper_top are_proper)
    filled-below a (Some f) is =
        let (i, key, stands, same) = place_from_lookup (same_key (Jump n a d)) es f is in
        let stands_here : slice_get es i ≡ Some (Jump n a d, f) = stands ∙ ap (λ q. Some (q, f)) (sym (same_key_exact (Jump n a d) key same)) in
        after-below_term es A.top laws.proper_top are_proper i a f stands_here

    pub filled-is : after A.top es ≡ value_from A B get (start n) facts n d
    filled-is =
        let all : IsTrue (A.proper (meet_of A term facts)) = proper-meet_of A laws term facts (λ k h. proper_of k) in
        below-antisym A laws (after A.top es) (meet_of A term facts)
        (below-meet_of A laws (after A.top es) term facts (after-below es A.top laws.proper_top are_proper).left
        (λ k h. filled-below k (get (Jump n k d)) refl))
        (below-after es (meet_of A term facts) A.top (below-top A laws (meet_of A term facts) all)
        (λ i a f at.
        let found : get (Jump n a d) ≡ Some f = lookup_from_place same_key_laws es i (Jump n a d) f distinct at in
        subst (λ o. IsBelow A (meet_of A term facts) (B.apply (unwrap_or o B.all_top) (start n a))) found
        (meet_of-below A laws term facts (λ k h. proper_of k) a (within a f found))))

-- a value of a list of proper ones, or top, is proper
pub proper_at : {L : Type 0} (A : LatticeAlgebra L) → IsLattice A → (xs : List L) → All (λ v. IsTrue (A.proper v)) xs
    → (i : ℕ) → IsTrue (A.proper (get_or xs i A.top))
proper_at A laws xs all i = elim (inside xs i) [
  | inl h ↦ All-get_or (λ v. IsTrue (A.proper v)) xs i A.top h all
  | inr h ↦ subst (λ v. IsTrue (A.proper v)) (sym (get_or_past xs i A.top h)) laws.proper_top
]
  where
    inside : {X : Type 0} (xs : List X) (i : ℕ) → (i < length xs) ⊎ (length xs ≤ i)
    inside xs i = grind (arith)

module _ {F L : Type 0} (A : LatticeAlgebra L) (B : EdgeAlgebra F L) (graph : Supergraph) (tables : TablesData F) (starts : List L) (first : ℕ) where
  -- before the first cell the rows are tops
  pub none_filled : (rows : List L) → AreTops A rows → IsFilledBy A B graph tables starts first 0 rows
  none_filled rows tops = record { filled = λ image k n d within h r place. tops k }

  -- a cell that shows nothing changes nothing
  pub filled_none : (i : ℕ) (rows : List L) → None ≡ get_or tables.cells i None → IsFilledBy A B graph tables starts first i rows
      → IsFilledBy A B graph tables starts first (i + 1) rows
  filled_none i rows shows so_far = record {
    filled = λ image k n d within h r place.
        let lower : L → Key × F → L = λ v e. lowered A B (value_before A graph starts) n d v e.0 e.1 in
        so_far.filled image k n d within h r place
        ∙ ap (fold lower A.top)
        (sym (shown_more tables.cells i None shows ∙ append-nil (shown_entries (take i tables.cells))));
  }

  -- the entry that a cell shows lowers what it ends at
  pub filled_more : (i : ℕ) (old new : List L) (e : Key × F) → Some e ≡ get_or tables.cells i None → found tables.table e.0 ≡ Some e.1
      → length new ≡ length old → Meets A B graph starts first e.0 e.1 old new → IsFilledBy A B graph tables starts first i old
      → IsFilledBy A B graph tables starts first (i + 1) new
  filled_more i old new e shows present same step so_far = record {
    filled = λ image k n d within h r place.
        let there : k < length old = omega (arith, within, same) in
        let lower : L → Key × F → L = λ v e. lowered A B (value_before A graph starts) n d v e.0 e.1 in
        step (image.facts e.0 e.1 present) k n d there h r place
        ∙ ap (λ v. lower v e) (so_far.filled image k n d there h r place)
        ∙ sym (ap (fold lower A.top) (shown_more tables.cells i (Some e) shows) ∙ fold-append lower A.top (shown_entries (take i tables.cells)) (e ∷ []));
  }

  -- nor do cells side by side that are all like the first of them, where that shows nothing
  pub passed_none : (rows : List L) (base begin end : ℕ) → begin ≤ end → AreAlike tables (base + begin) (base + end)
      → function_shown_in tables (base + begin) ≡ None
      → IsFilledBy A B graph tables starts first (base + begin) rows → IsFilledBy A B graph tables starts first (base + end) rows
  passed_none rows base begin end order alike none so_far =
      let last : base + begin + (end - begin) ≡ base + end = omega (arith, order) in
      subst (λ n. IsFilledBy A B graph tables starts first n rows) last (past (end - begin) (omega (arith, order)))
    where
      past : (count : ℕ) → begin + count ≤ end → IsFilledBy A B graph tables starts first (base + begin + count) rows
      past zero within =
          let same : base + begin ≡ base + begin + 0 = omega arith in
          subst (λ n. IsFilledBy A B graph tables starts first n rows) same so_far
      past (suc count) within =
          let cell = base + begin + count in
          let next : cell + 1 ≡ base + begin + suc count = omega arith in
          let shows = nothing_shown tables cell (alike cell (omega arith) (omega (arith, within)) ∙ none) in
          subst (λ n. IsFilledBy A B graph tables starts first n rows) next
          (filled_none cell rows (sym shows) (past count (omega (arith, within))))

  module _ (show : ShowTable tables) (rows : List L) where
    -- a cell whose entry lowers none of the rows is passed over
    passed_more : (i : ℕ) (o : Option (Key × F)) → o ≡ get_or tables.cells i None
        → ((e : Key × F) → get_or tables.cells i None ≡ Some e → Meets A B graph starts first e.0 e.1 rows rows)
        → IsFilledBy A B graph tables starts first i rows → IsFilledBy A B graph tables starts first (i + 1) rows
    passed_more i None shows apart so_far = filled_none i rows shows so_far
    passed_more i (Some e) shows apart so_far =
        filled_more i rows rows e shows (shown_is_found tables show i e (sym shows)) refl (apart e (sym shows)) so_far

    -- and so are such cells in a row
    passed_all : (count begin : ℕ)
        → ((i : ℕ) (e : Key × F) → begin ≤ i → i < begin + count → get_or tables.cells i None ≡ Some e → Meets A B graph starts first e.0 e.1 rows rows)
        → IsFilledBy A B graph tables starts first begin rows → IsFilledBy A B graph tables starts first (begin + count) rows
    passed_all zero begin apart so_far =
        let same : begin ≡ begin + 0 = omega arith in
        subst (λ n. IsFilledBy A B graph tables starts first n rows) same so_far
    passed_all (suc count) begin apart so_far =
        let before : IsFilledBy A B graph tables starts first (begin + count) rows =
        passed_all count begin (λ i e from to. apart i e from (omega (arith, to))) so_far in
        let next : begin + count + 1 ≡ begin + suc count = omega arith in
        subst (λ n. IsFilledBy A B graph tables starts first n rows) next
        (passed_more (begin + count) (get_or tables.cells (begin + count) None) refl (λ e. apart (begin + count) e (omega arith) (omega arith)) before)

    -- a page that has no jump is passed over
    pub passed_page : (page : ℕ) → HasNoJump tables page
        → IsFilledBy A B graph tables starts first (64 * page) rows → IsFilledBy A B graph tables starts first (64 * page + 64) rows
    passed_page page none so_far =
        passed_all 64 (64 * page)
        (λ i e from to shows. meets_summary A B graph starts first e.0 e.1 rows (none i e (omega (arith, from, to)) shows))
        so_far

    -- nor are pages side by side that have jumps at the nodes of other blocks alone
    pub passed_pages : (more : ℕ) → (0 < graph.facts → length rows < (more + 1) * graph.facts) → (from to begin end : ℕ) → from ≤ to
        → 64 * begin ≤ first → first + more < 64 * end → ((page : ℕ) → from ≤ page → page < to → HasOthers tables begin end page)
        → IsFilledBy A B graph tables starts first (64 * from) rows → IsFilledBy A B graph tables starts first (64 * to) rows
    passed_pages more few from to begin end order low high others so_far =
        let whole : 64 * from + 64 * (to - from) ≡ 64 * to = omega (arith, order) in
        subst (λ n. IsFilledBy A B graph tables starts first n rows) whole
        (passed_all (64 * (to - from)) (64 * from)
        (λ i e least most shows. meets_other e.0 e.1 (others (i / 64) (omega (arith, least)) (omega (arith, most, order)) i e refl shows))
        so_far)
      where
        meets_other : (key : Key) (f : F) → IsAtOther begin end key → Meets A B graph starts first key f rows rows
        meets_other (Jump n a b) f other =
            meets_elsewhere A B graph starts first more (Jump n a b) f rows few
            (λ has. elim other [
              | inl less ↦ omega (arith, less, low, has.0)
              | inr past ↦ omega (arith, past, high, has.1)
            ])
        meets_other (Summary n a b) f other = meets_summary A B graph starts first (Summary n a b) f rows tt

    module _ (more : ℕ) (few : 0 < graph.facts → length rows < (more + 1) * graph.facts)
        (page node from to begin end : ℕ) (at : BeginsWith tables page (Jump node from to)) (near : AreNear first more node begin end) where
      -- an entry at a node that has none of the rows lowers none of them
      others : (i : ℕ) (e : Key × F) → i / 64 ≡ page → ((begin ≤ i % 64) × (i % 64 < end) → ⊥) → get_or tables.cells i None ≡ Some e
          → Meets A B graph starts first e.0 e.1 rows rows
      others i e on outside shows =
          meets_elsewhere A B graph starts first more e.0 e.1 rows few
          (λ has.
          let node_is : node_of e.0 ≡ node + i % 64 = ap node_of (at i e on shows) in
          outside (near.all (i % 64) (omega arith) (omega (arith, has.0, node_is)) (omega (arith, has.1, node_is))))

      -- the cells of a page in front of those that are near, and behind them
      pub passed_before : IsFilledBy A B graph tables starts first (64 * page) rows → IsFilledBy A B graph tables starts first (64 * page + begin) rows
      passed_before so_far =
          let order = near.order in
          let page_end = near.page in
          passed_all begin (64 * page)
          (λ i e from to.
          others i e (omega (arith, from, to, order, page_end)) (λ inside. let low = inside.0 in omega (arith, from, to, order, page_end, low)))
          so_far

      pub passed_behind : IsFilledBy A B graph tables starts first (64 * page + end) rows → IsFilledBy A B graph tables starts first (64 * page + 64) rows
      passed_behind so_far =
          let page_end = near.page in
          let whole : 64 * page + end + (64 - end) ≡ 64 * page + 64 = omega (arith, page_end) in
          subst (λ n. IsFilledBy A B graph tables starts first n rows) whole
          (passed_all (64 - end) (64 * page + end)
          (λ i e from to.
          others i e (omega (arith, from, to, page_end)) (λ inside. let high = inside.1 in omega (arith, from, to, page_end, high)))
          so_far)

  -- past the last cell the values are those that follow
  pub all_filled : IsLattice A → IsEdgeAlgebra A B → ShowTable tables
      → (i : ℕ) (rows : List L) → length tables.cells ≤ i → IsFilledBy A B graph tables starts first i rows → FillsFrom A B graph tables.table starts first rows
  all_filled laws functions show i rows past so_far k within image proper n d h r place =
      let es = shown_entries tables.cells in
      let lower : L → Key × F → L = λ v e. lowered A B (value_before A graph starts) n d v e.0 e.1 in
      let same : (λ (key : Key). lookup (same_key key) es) ≡ found tables.table = λ at key. sym (show.found key) at in
      so_far.filled image k n d within h r place
      ∙ ap (λ (cells : List (Option (Key × F))). fold lower A.top (shown_entries cells)) (take_all i tables.cells past)
      ∙ filled-is A laws B functions (value_before A graph starts)
      (λ m a. proper_at A laws starts proper (slice_index graph.owners m * graph.facts + a)) n d
      es show.distinct graph.facts (λ a f is. (image.facts (Jump n a d) f (show.found (Jump n a d) ∙ is)).0) (λ key f is. image.proper key f (show.found key ∙ is))
      ∙ ap (λ (get : Key → Option F). value_from A B get (value_before A graph starts n) graph.facts n d) same

module _ {F L : Type 0} (A : LatticeAlgebra L) (B : EdgeAlgebra F L) (graph : Supergraph) (table : Table F) (starts : List L) where
  -- rows that are filled from the first node on are the rows of all nodes
  pub all_rows : (rows : List L) → length rows ≡ graph.nodes * graph.facts
      → ((k : ℕ) → k < length rows → IsFilledAt A B graph table starts k (get_or rows k A.top)) → Fills A B graph table starts rows
  all_rows rows count each image proper n d h r =
      each (n * graph.facts + d) (omega (arith, count, place_within n d graph.nodes graph.facts h r)) image proper n d h r refl

-- where nothing stands, the list has ended
pub none_past : {X : Type 0} (xs : List X) (i : ℕ) → slice_get xs i ≡ None → length xs ≤ i
none_past xs i none = elim (slice_get_cases xs i).1 [
  | inl (x, within, is, same) ↦ let no : ⊥ = cc (none, is) in elim no [ ]
  | inr past ↦ past.0
]
