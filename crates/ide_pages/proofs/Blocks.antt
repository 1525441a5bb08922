-- The numbers of blocks of facts, which are read off their pages, are exact and ascend. `get` gives the number at an offset of the page at an
-- index, where that is not 0.
use Rattle.std.proofs.Common.{◌≡◌, ◌≢◌, ℕ, zero, suc, ◌+◌, ◌*◌, ◌/◌, ◌%◌, ◌<◌, ◌≤◌, ◌^◌, refl, sym, ap, subst, ◌∙◌, arith, List, [], ◌∷◌, ◌++◌, Option, None, Some, true, false, cond, ⊎_elim}
use Rattle.std.specs.BTreeMap.{is_at}
use Rattle.std.specs.List.{filter_map, cons_option, range_with_len, AllByRecursion}
use Rattle.std.specs.List.Sorted.{IsStrictlySortedBy}
use Rattle.std.specs.Map.{lookup, keys_of}
use Rattle.std.specs.Option.{option_map}
use Rattle.std.specs.Ordering.{nat_cmp}
use Rattle.std.specs.declared.cmp.Ordering.TheVariants.{Less}
use Rattle.std.proofs.lemmas.Bool.{cases_eq, cases_lt}
use Rattle.std.proofs.lemmas.Bool.Decides.{nat_tests}
use Rattle.std.proofs.lemmas.List.Quantifiers.{position-Some}
use Rattle.ide_wire.specs.declared.key.Key.{Key}
use Rattle.ide_wire.specs.declared.key.Key.TheVariants.{Jump, Summary}
use Rattle.ide_wire.specs.Key.{same_key, same_key_exact}
use Rattle.ide_pages.specs.Pages.{AreBlocks, ArePages, IsRowOfSummaries, IsSmall, nonzero, number_by, number_in, numbers_of, numbers_within, page_at, read_block, read_blocks, row_of}
use Rattle.ide_pages.specs.Rows.{IsRow, RowsData, page_in, row_at}
use Rattle.ide_pages.proofs.KeyCells.{number-in-cell}
use Rattle.ide_pages.proofs.Partners.{at_exact, got, lookup-above, number-listed}

-- ---- lists of facts

is-own : (a : ℕ) → is_at (nat_cmp a) a ≡ true
is-own a = grind (arith, nat_tests)

not-other : (a b : ℕ) → a ≢ b → is_at (nat_cmp a) b ≡ false
not-other a b other = ⊎_elim (λ same. absurd (other same)) (λ apart. grind (arith, nat_tests)) (cases_eq a b)

not-same : (a b : ℕ) → is_at (nat_cmp a) b ≡ false → a ≢ b
not-same a b other same = absurd (cc (sym other ∙ ap (is_at (nat_cmp a)) (sym same) ∙ is-own a))

weaker : (P Q : ℕ → Type 0) → ((k : ℕ) → P k → Q k) → (ks : List ℕ) → AllByRecursion P ks → AllByRecursion Q ks
weaker P Q so [] all = tt
weaker P Q so (k ∷ ks) all = (so k all.0, weaker P Q so ks all.1)

above : (a b : ℕ) → a + 1 ≤ b → nat_cmp a b ≡ Less
above a b up = grind (arith, nat_tests)

up-from : (a b : ℕ) → nat_cmp a b ≡ Less → a + 1 ≤ b
up-from a b less = grind (arith, nat_tests)

-- what holds of each fact that a row lists, with the page that it has there
listed-each : (P : ℕ → Type 0) (row : List (ℕ × ℕ)) → IsStrictlySortedBy nat_cmp (keys_of row) → ((d page : ℕ) → page_in row d ≡ Some page → P d)
    → AllByRecursion P (keys_of row)
unfolding IsStrictlySortedBy
listed-each P [] sorted each = tt
listed-each P (e ∷ es) sorted each = (
  each e.0 e.1 (ap (λ b. cond b (Some e.1) (page_in es e.0)) (is-own e.0)),
  listed-each P es sorted.1 (λ d page is. each d page (behind d page is)),
)
  where
    behind : (d page : ℕ) → page_in es d ≡ Some page → page_in (e ∷ es) d ≡ Some page
    behind d page is =
        elim (is_at (nat_cmp d) e.0) as (λ b. is_at (nat_cmp d) e.0 ≡ b → cond b (Some e.1) (page_in es d) ≡ Some page) [
          | true ↦ λ own.
              let none = lookup-above e.0 es sorted.0 in
              absurd (cc (sym none ∙ ap (page_in es) (sym (at_exact d e.0 own)) ∙ is))
          | false ↦ λ other. is
        ] refl

-- a fact that a row lists is one of those that fit
within-found : (row : List (ℕ × ℕ)) (d page : ℕ) → AllByRecursion (λ k. k < 2 ^ 16) (keys_of row) → page_in row d ≡ Some page → d < 2 ^ 16
within-found [] d page all is = absurd (cc (is))
within-found (e ∷ es) d page all is =
    elim (is_at (nat_cmp d) e.0) as (λ b. is_at (nat_cmp d) e.0 ≡ b → cond b (Some e.1) (page_in es d) ≡ Some page → d < 2 ^ 16) [
      | true ↦ λ own there. subst (λ k. k < 2 ^ 16) (sym (at_exact d e.0 own)) all.0
      | false ↦ λ other there. within-found es d page all.1 there
    ] refl is

-- ---- blocks

module _ (get : (index offset : ℕ) → Option ℕ) where
  abbrev entry : ℕ × ℕ → ℕ → Option (ℕ × ℕ)
  entry listed offset = option_map (λ n. (64 * listed.0 + offset, n)) (get listed.1 offset)

  abbrev read : List (ℕ × ℕ) → List (ℕ × ℕ)
  read [] = []
  read (listed ∷ more) = filter_map (entry listed) (range_with_len 0 64) ++ read more

  -- so many offsets of a block, and others behind them
  abbrev then_read : ℕ × ℕ → (from count : ℕ) → List (ℕ × ℕ) → List (ℕ × ℕ)
  then_read listed from zero rest = rest
  then_read listed from (suc n) rest = cons_option (entry listed from) (then_read listed (from + 1) n rest)

  cons-before : (o : Option (ℕ × ℕ)) (xs ys : List (ℕ × ℕ)) → cons_option o xs ++ ys ≡ cons_option o (xs ++ ys)
  cons-before None xs ys = refl
  cons-before (Some x) xs ys = refl

  read-then : (listed : ℕ × ℕ) (from n : ℕ) (rest : List (ℕ × ℕ)) → filter_map (entry listed) (range_with_len from n) ++ rest ≡ then_read listed from n rest
  read-then listed from zero rest = refl
  read-then listed from (suc n) rest =
      cons-before (entry listed from) (filter_map (entry listed) (range_with_len (from + 1) n)) rest
      ∙ ap (cons_option (entry listed from)) (read-then listed (from + 1) n rest)

  -- what holds of the facts at each of the offsets, and of the others
  then-each : (P : ℕ → Type 0) (listed : ℕ × ℕ) (from n : ℕ) (rest : List (ℕ × ℕ)) → ((o : ℕ) → from ≤ o → o < from + n → P (64 * listed.0 + o))
      → AllByRecursion P (keys_of rest) → AllByRecursion P (keys_of (then_read listed from n rest))
  then-each P listed from zero rest own all = all
  then-each P listed from (suc n) rest own all =
      let more = then-each P listed (from + 1) n rest (λ o least less. own o (omega (arith, least)) (omega (arith, less))) all in
      elim (get listed.1 from) as (λ got. AllByRecursion P (keys_of (cons_option (option_map (λ m. (64 * listed.0 + from, m)) got) (then_read listed (from + 1) n rest)))) [
        | None ↦ more
        | Some m ↦ (own from (omega arith) (omega arith), more)
      ]

  read-each : (P : ℕ → Type 0) (row : List (ℕ × ℕ)) → AllByRecursion (λ block. (o : ℕ) → o < 64 → P (64 * block + o)) (keys_of row) → AllByRecursion P (keys_of (read row))
  read-each P [] all = tt
  read-each P (e ∷ es) all =
      subst (λ xs. AllByRecursion P (keys_of xs)) (sym (read-then e 0 64 (read es)))
      (then-each P e 0 64 (read es) (λ o least less. all.0 o (omega (arith, less))) (read-each P es all.1))

  -- they are above all of a block that is below theirs
  read-above : (block : ℕ) (row : List (ℕ × ℕ)) → AllByRecursion (λ other. nat_cmp block other ≡ Less) (keys_of row) → AllByRecursion (λ d. 64 * block + 64 ≤ d) (keys_of (read row))
  read-above block row above_it =
      read-each (λ d. 64 * block + 64 ≤ d) row
      (weaker (λ other. nat_cmp block other ≡ Less) (λ other. (o : ℕ) → o < 64 → 64 * block + 64 ≤ 64 * other + o)
      (λ other less o few. let up = up-from block other less in omega (arith, up)) (keys_of row) above_it)

  then-ascending : (listed : ℕ × ℕ) (from n : ℕ) (rest : List (ℕ × ℕ)) → AllByRecursion (λ d. 64 * listed.0 + (from + n) ≤ d) (keys_of rest)
      → IsStrictlySortedBy nat_cmp (keys_of rest) → IsStrictlySortedBy nat_cmp (keys_of (then_read listed from n rest))
  unfolding IsStrictlySortedBy
  then-ascending listed from zero rest low sorted = sorted
  then-ascending listed from (suc n) rest low sorted =
      let same : from + 1 + n ≡ from + suc n = omega arith in
      let more = then-ascending listed (from + 1) n rest (subst (λ k. AllByRecursion (λ d. 64 * listed.0 + k ≤ d) (keys_of rest)) (sym same) low) sorted in
      let up =
      then-each (λ d. nat_cmp (64 * listed.0 + from) d ≡ Less) listed (from + 1) n rest
      (λ o least less. above (64 * listed.0 + from) (64 * listed.0 + o) (omega (arith, least)))
      (weaker (λ d. 64 * listed.0 + (from + suc n) ≤ d) (λ d. nat_cmp (64 * listed.0 + from) d ≡ Less)
      (λ d least. above (64 * listed.0 + from) d (omega (arith, least))) (keys_of rest) low) in
      elim (get listed.1 from) as (λ got. IsStrictlySortedBy nat_cmp (keys_of (cons_option (option_map (λ m. (64 * listed.0 + from, m)) got) (then_read listed (from + 1) n rest)))) [
        | None ↦ more
        | Some m ↦ (up, more)
      ]

  read-ascending : (row : List (ℕ × ℕ)) → IsStrictlySortedBy nat_cmp (keys_of row) → IsStrictlySortedBy nat_cmp (keys_of (read row))
  unfolding IsStrictlySortedBy
  read-ascending [] sorted = tt
  read-ascending (e ∷ es) sorted =
      subst (λ xs. IsStrictlySortedBy nat_cmp (keys_of xs)) (sym (read-then e 0 64 (read es)))
      (then-ascending e 0 64 (read es) (read-above e.0 es sorted.0) (read-ascending es sorted.1))

  -- ---- the number of a fact

  -- of a fact at one of the offsets
  then-inside : (listed : ℕ × ℕ) (from n : ℕ) (rest : List (ℕ × ℕ)) (o : ℕ) → from ≤ o → o < from + n → AllByRecursion (λ d. 64 * listed.0 + (from + n) ≤ d) (keys_of rest)
      → lookup (is_at (nat_cmp (64 * listed.0 + o))) (then_read listed from n rest) ≡ get listed.1 o
  then-inside listed from zero rest o least less low = absurd (omega (arith, least, less))
  then-inside listed from (suc n) rest o least less low =
      let d : ℕ = 64 * listed.0 + o in
      let same : from + 1 + n ≡ from + suc n = omega arith in
      ⊎_elim
      (λ own.
      let is : is_at (nat_cmp d) (64 * listed.0 + from) ≡ true = ap (λ k. is_at (nat_cmp d) (64 * listed.0 + k)) own ∙ is-own d in
      let up =
      then-each (λ k. nat_cmp d k ≡ Less) listed (from + 1) n rest
      (λ k least less. above d (64 * listed.0 + k) (omega (arith, least, own)))
      (weaker (λ k. 64 * listed.0 + (from + suc n) ≤ k) (λ k. nat_cmp d k ≡ Less) (λ k least. above d k (omega (arith, least, own))) (keys_of rest) low) in
      elim (get listed.1 from) as (λ got. get listed.1 from ≡ got
      → lookup (is_at (nat_cmp d)) (cons_option (option_map (λ m. (64 * listed.0 + from, m)) got) (then_read listed (from + 1) n rest)) ≡ get listed.1 o) [
        | None ↦ λ none. lookup-above d (then_read listed (from + 1) n rest) up ∙ sym none ∙ ap (get listed.1) own
        | Some m ↦ λ some. ap (λ b. cond b (Some m) (lookup (is_at (nat_cmp d)) (then_read listed (from + 1) n rest))) is ∙ sym some ∙ ap (get listed.1) own
      ] refl)
      (λ apart.
      let other : is_at (nat_cmp d) (64 * listed.0 + from) ≡ false = not-other d (64 * listed.0 + from) (λ e. apart (omega (arith, e))) in
      let more =
      then-inside listed (from + 1) n rest o (let differ : from < o = below-other from o least apart in omega (arith, differ)) (omega (arith, less))
      (subst (λ k. AllByRecursion (λ d. 64 * listed.0 + k ≤ d) (keys_of rest)) (sym same) low) in
      elim (get listed.1 from) as (λ got. lookup (is_at (nat_cmp d)) (cons_option (option_map (λ m. (64 * listed.0 + from, m)) got) (then_read listed (from + 1) n rest)) ≡ get listed.1 o) [
        | None ↦ more
        | Some m ↦ ap (λ b. cond b (Some m) (lookup (is_at (nat_cmp d)) (then_read listed (from + 1) n rest))) other ∙ more
      ])
      (cases_eq from o)
    where
      below-other : (a b : ℕ) → a ≤ b → (a ≡ b → ⊥) → a < b
      below-other a b up apart = ⊎_elim (λ l. l) (λ r. absurd (apart (omega (arith, up, r)))) (cases_lt a b)

  -- of one that is at none of them
  then-outside : (listed : ℕ × ℕ) (from n : ℕ) (rest : List (ℕ × ℕ)) (d : ℕ) → ((o : ℕ) → o < from + n → d ≢ 64 * listed.0 + o)
      → lookup (is_at (nat_cmp d)) (then_read listed from n rest) ≡ lookup (is_at (nat_cmp d)) rest
  then-outside listed from zero rest d none = refl
  then-outside listed from (suc n) rest d none =
      let other : is_at (nat_cmp d) (64 * listed.0 + from) ≡ false = not-other d (64 * listed.0 + from) (none from (omega arith)) in
      let more = then-outside listed (from + 1) n rest d (λ o less. none o (omega (arith, less))) in
      elim (get listed.1 from) as (λ got. lookup (is_at (nat_cmp d)) (cons_option (option_map (λ m. (64 * listed.0 + from, m)) got) (then_read listed (from + 1) n rest)) ≡ lookup (is_at (nat_cmp d)) rest) [
        | None ↦ more
        | Some m ↦ ap (λ b. cond b (Some m) (lookup (is_at (nat_cmp d)) (then_read listed (from + 1) n rest))) other ∙ more
      ]

  -- the fact's number is that at its offset of its block's page
  read-exact : (row : List (ℕ × ℕ)) (d : ℕ) → IsStrictlySortedBy nat_cmp (keys_of row) → lookup (is_at (nat_cmp d)) (read row) ≡ got (λ index. get index (d % 64)) (page_in row (d / 64))
  unfolding IsStrictlySortedBy
  read-exact [] d sorted = refl
  read-exact (e ∷ es) d sorted =
      ap (lookup (is_at (nat_cmp d))) (read-then e 0 64 (read es))
      ∙ elim (is_at (nat_cmp (d / 64)) e.0)
      as (λ b. is_at (nat_cmp (d / 64)) e.0 ≡ b → lookup (is_at (nat_cmp d)) (then_read e 0 64 (read es)) ≡ got (λ index. get index (d % 64)) (cond b (Some e.1) (page_in es (d / 64)))) [
        | true ↦ λ own.
            let block : d / 64 ≡ e.0 = at_exact (d / 64) e.0 own in
            let whole : 64 * e.0 + d % 64 ≡ d = omega (arith, block) in
            ap (λ k. lookup (is_at (nat_cmp k)) (then_read e 0 64 (read es))) (sym whole)
            ∙ then-inside e 0 64 (read es) (d % 64) (omega arith) (omega arith) (read-above e.0 es sorted.0)
        | false ↦ λ other.
            then-outside e 0 64 (read es) d (λ o less is. not-same (d / 64) e.0 other (omega (arith, less, is)))
            ∙ read-exact es d sorted.1
      ] refl

-- ---- pages

same-map : (f g : ℕ → Option (ℕ × ℕ)) → ((k : ℕ) → f k ≡ g k) → (ks : List ℕ) → filter_map f ks ≡ filter_map g ks
same-map f g same [] = refl
same-map f g same (k ∷ ks) = ap (λ o. cons_option o (filter_map f ks)) (same k) ∙ ap (cons_option (g k)) (same-map f g same ks)

module _ {pages : List Key} {cells : List ℕ} {rows : RowsData} {count : ℕ} (are : ArePages pages cells rows count) where
  abbrev at_offset : (index offset : ℕ) → Option ℕ
  at_offset index offset = nonzero (number_by cells offset index)

  -- the numbers in the cells of the pages that are listed are those of the keys
  block-read : (listed : ℕ × ℕ) → read_block (numbers_of pages cells) listed ≡ filter_map (entry at_offset listed) (range_with_len 0 64)
  block-read listed =
      same-map (λ offset. option_map (λ n. (64 * listed.0 + offset, n)) (nonzero (number_in (numbers_of pages cells) (64 * listed.1 + offset)))) (entry at_offset listed)
      (λ offset. ap (λ n. option_map (λ (m : ℕ). (64 * listed.0 + offset, m)) (nonzero n)) (number-in-cell are (64 * listed.1 + offset)))
      (range_with_len 0 64)

  blocks-read : (row : List (ℕ × ℕ)) → read_blocks (numbers_of pages cells) row ≡ read at_offset row
  blocks-read [] = refl
  blocks-read (e ∷ es) = ap (λ xs. xs ++ read_blocks (numbers_of pages cells) es) (block-read e) ∙ ap (λ xs. filter_map (entry at_offset e) (range_with_len 0 64) ++ xs) (blocks-read es)

  module _ (call fact : ℕ) (row : List (ℕ × ℕ)) (low : call < 2 ^ 32) (few : fact < 2 ^ 16) (at : row ≡ row_at rows (row_of (Summary call fact 0))) (is : IsRow row) where
    -- the row lists the pages of summaries that there are
    pub are-blocks : AreBlocks row
    are-blocks = listed-each (λ block. block < 2 ^ 10) row is.ascending small
      where
        small : (block page : ℕ) → page_in row block ≡ Some page → block < 2 ^ 10
        small block page there =
            let fits = within-found row block page is.within there in
            let stands = sym (are.told (Summary call fact block) (low, few, fits)) ∙ ap (λ r. page_in r block) (sym at) ∙ there in
            let found = position-Some (same_key (Summary call fact block)) pages page (Jump 0 0 0) stands in
            subst IsSmall (sym (same_key_exact (Summary call fact block) (page_at pages page) found.1)) (are.small page)

    -- and its blocks, read, are the summaries over the call from the fact
    pub are-summaries : (most : ℕ) → IsRowOfSummaries call fact (numbers_within most pages cells) (read_blocks (numbers_within most pages cells) row)
    are-summaries most =
        subst (IsRowOfSummaries call fact (numbers_within most pages cells)) (sym (blocks-read row))
        (record {
          ascending = read-ascending at_offset row is.ascending;
          within =
              read-each at_offset (λ d. d < 2 ^ 16) row
              (weaker (λ block. block < 2 ^ 10) (λ block. (o : ℕ) → o < 64 → 64 * block + o < 2 ^ 16) (λ block small o less. omega (arith, small, less)) (keys_of row) are-blocks);
          exact = λ d within.
              read-exact at_offset row d is.ascending
              ∙ ap (λ r. got (λ index. at_offset index (d % 64)) (page_in r (d / 64))) at
              ∙ number-listed are (Summary call fact d) (low, few, omega (arith, within));
        })
