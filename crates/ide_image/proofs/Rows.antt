-- The pages of a grid, and the slots that are read of their rows: the ranks of these ascend.
use Rattle.std.proofs.Common.{◌≡◌, ℕ, zero, suc, ◌+◌, ◌*◌, ◌-◌, ◌/◌, ◌%◌, ◌<◌, ◌≤◌, ◌++◌, ⊎_elim, refl, sym, ap, subst, ◌∙◌, arith, Bool, true, List, [], ◌∷◌, Option, None, Some, get_or, inl, inr, length}
use Rattle.std.specs.Prelude.{IfSome, ◌⊎◌, slice_get, slice_index, slice_range, slice_set}
use Rattle.std.specs.List.{All}
use Rattle.std.specs.List.Sorted.{IsPermutation}
use Rattle.std.proofs.lemmas.Bool.{cases_lt}
use Rattle.std.proofs.lemmas.Grind.{get_or_default_zero}
use Rattle.std.proofs.lemmas.List.{get_or_append_left, get_or_push, length_push}
use Rattle.std.proofs.lemmas.List.Edits.{get_or-between, length-between}
use Rattle.std.proofs.lemmas.List.Elements.{All-nil, All-push, All-weaker}
use Rattle.std.proofs.lemmas.List.Sorted.{All-permutation}
use Rattle.ide_pages.specs.Pages.{offset_of}
use Rattle.ide_wire.specs.declared.key.Key.{Key}
use Rattle.ide_wire.specs.declared.key.Key.TheVariants.{Jump, Summary}
use Rattle.ide_image.specs.Cells.{BeginsWith, key_behind, tables_of}
use Rattle.ide_image.specs.Grid.{AreNumbersTo, AreOfBlock, AreRanksOn, AreReadTo, AreRows, AreStarts, BeginsBlock, HasPage, IsBlock, IsGrid, IsPage, IsRow, IsRowNumber, RanksAscend, block_by, block_of, bound_at, rank_at, start_at, step_of}
use Rattle.ide_image.specs.Indexed.{Indexed}
use Rattle.ide_image.specs.Ranks.{HasRank, IsNumberOf, key_rank}

-- ---- pages

-- a page has its row where there is another one behind
still-page : (pages : List ℕ) (page p : ℕ) → HasPage pages page → HasPage (pages ++ p ∷ []) page
still-page pages page p has =
    let long = length_push pages p in
    (has.0, record { there = omega (arith, has.1.there, long); is = get_or_append_left pages (p ∷ []) 0 has.0 has.1.there ∙ has.1.is })

-- a flag that is up was so before, or is the one that was put up
set-up : (flags : List Bool) (i k : ℕ) → slice_get (slice_set flags i true) k ≡ Some true → (slice_get flags k ≡ Some true) ⊎ (k ≡ i)
set-up [] i k is = inl is
set-up (x ∷ xs) zero zero is = inr refl
set-up (x ∷ xs) zero (suc k) is = inl is
set-up (x ∷ xs) (suc i) zero is = inl is
set-up (x ∷ xs) (suc i) (suc k) is = elim (set-up xs i k is) [
  | inl there ↦ inl there
  | inr same ↦ inr (ap suc same)
]

-- one row more, which is told
pub with-row : (has_row : List Bool) (pages : List ℕ) (page : ℕ) → IsGrid has_row pages → IsPage page → IsGrid (slice_set has_row page true) (pages ++ page ∷ [])
with-row has_row pages page whole is =
    let long = length_push pages page in
    record {
      told = λ p there. elim (set-up has_row page p there) [
        | inl before ↦ still-page pages p page (whole.told p before)
        | inr same ↦ (length pages, record { there = omega (arith, long); is = get_or_push pages page 0 (length pages) refl ∙ sym same })
      ];
      few = All-push IsPage pages page whole.few is;
    }

-- ---- ranks

-- how far the ranks of keys that stand side by side on a page are apart
abbrev pub key_step : Key → ℕ
key_step (Jump n a b) = 16777216
key_step (Summary n a b) = 1

-- the key so many cells behind the first one of a page, and its rank
pub rank-behind : (first : Key) (offset : ℕ) → HasRank first → offset_of first ≡ 0 → offset < 64
    → HasRank (key_behind first offset) × (key_rank (key_behind first offset) ≡ key_rank first + offset * key_step first)
rank-behind (Jump n a b) offset ranked whole few = ((omega (arith, ranked.0, whole, few), ranked.1, ranked.2), omega arith)
rank-behind (Summary n a b) offset ranked whole few = ((ranked.0, ranked.1, omega (arith, ranked.2, whole, few)), omega arith)

-- a number that has the rank of a key tells its kind
jump-kind : (n a b number : ℕ) → HasRank (Jump n a b) → number / 65536 ≡ key_rank (Jump n a b) → number / 9223372036854775808 ≡ 0
jump-kind n a b number ranked is = omega (arith, is, ranked.0, ranked.1, ranked.2)

summary-kind : (n a b number : ℕ) → HasRank (Summary n a b) → number / 65536 ≡ key_rank (Summary n a b) → number / 9223372036854775808 ≡ 1
summary-kind n a b number ranked is = omega (arith, is, ranked.0, ranked.1, ranked.2)

pub step-told : (first : Key) (number : ℕ) → HasRank first → number / 65536 ≡ key_rank first → step_of (number / 9223372036854775808) ≡ key_step first
step-told (Jump n a b) number ranked is = ap step_of (jump-kind n a b number ranked is)
step-told (Summary n a b) number ranked is = ap step_of (summary-kind n a b number ranked is)

-- blocks are 64 steps apart
block-apart : (first : Key) (number : ℕ) → HasRank first → offset_of first ≡ 0 → number / 65536 ≡ key_rank first → block_of number % 64 ≡ 0
block-apart (Jump n a b) number ranked whole is =
    let block : block_of number ≡ number / 1099511627776 = ap (λ k. block_by k number) (jump-kind n a b number ranked is) in
    let node : number / 1099511627776 ≡ n = omega (arith, is, ranked.1, ranked.2) in omega (arith, block, node, whole)
block-apart (Summary n a b) number ranked whole is =
    let block : block_of number ≡ number / 65536 = ap (λ k. block_by k number) (summary-kind n a b number ranked is) in omega (arith, block, is, whole)

-- ---- numbers of rows

-- what the number of a row of jumps tells
record OfJumps (number : ℕ) : Type 0 where
  low : number < 9223372036854775808
  block : block_of number ≡ number / 1099511627776
  rank : (offset : ℕ) → rank_at number offset ≡ number / 65536 + offset * 16777216
  bound : (offset : ℕ) → bound_at number offset ≡ (number / 1099511627776 + offset) * 16777216

-- and that of a row of summaries
record OfSummaries (number : ℕ) : Type 0 where
  high : 9223372036854775808 ≤ number
  block : block_of number ≡ number / 65536
  rank : (offset : ℕ) → rank_at number offset ≡ number / 65536 + offset
  bound : (offset : ℕ) → bound_at number offset ≡ number / 65536 + offset

kind-of : (number : ℕ) → OfJumps number ⊎ OfSummaries number
kind-of number =
    elim (number / 9223372036854775808) as (λ k. number / 9223372036854775808 ≡ k → OfJumps number ⊎ OfSummaries number) [
      | zero ↦ λ is.
          inl (record {
            low = omega (arith, is);
            block = ap (λ k. block_by k number) is;
            rank = λ offset. ap (λ k. number / 65536 + offset * step_of k) is;
            bound = λ offset. ap (λ k. (block_by k number + offset) * step_of k) is;
          })
      | suc n ↦ λ is.
          inr (record {
            high = omega (arith, is);
            block = ap (λ k. block_by k number) is;
            rank = λ offset. ap (λ k. number / 65536 + offset * step_of k) is ∙ times-one (number / 65536) offset;
            bound = λ offset. ap (λ k. (block_by k number + offset) * step_of k) is ∙ omega arith;
          })
    ] refl
  where
    times-one : (m n : ℕ) → m + n * 1 ≡ m + n
    times-one m n = omega arith

-- of one kind or two
by-kinds : (n m : ℕ) (P : Type 0) → (OfJumps n → OfJumps m → P) → (OfJumps n → OfSummaries m → P) → (OfSummaries n → OfJumps m → P) → (OfSummaries n → OfSummaries m → P) → P
by-kinds n m P jj js sj ss =
    ⊎_elim (λ x. ⊎_elim (λ y. jj x y) (λ y. js x y) (kind-of m)) (λ x. ⊎_elim (λ y. sj x y) (λ y. ss x y) (kind-of m)) (kind-of n)

-- the rows of a block: a rank at an offset is not below the bound there, and is below that of the next offset
column-low : (first number offset : ℕ) → block_of number ≡ block_of first → bound_at first offset ≤ rank_at number offset
column-low first number offset same =
    by-kinds first number (bound_at first offset ≤ rank_at number offset)
    (λ f n. let b = f.bound offset in let r = n.rank offset in omega (arith, same, f.block, n.block, b, r))
    (λ f n. absurd (omega (arith, same, f.block, n.block, f.low, n.high)))
    (λ f n. absurd (omega (arith, same, f.block, n.block, f.high, n.low)))
    (λ f n. let b = f.bound offset in let r = n.rank offset in omega (arith, same, f.block, n.block, b, r))

column-top : (first number offset : ℕ) → block_of number ≡ block_of first → rank_at number offset + 1 ≤ bound_at first (offset + 1)
column-top first number offset same =
    by-kinds first number (rank_at number offset + 1 ≤ bound_at first (offset + 1))
    (λ f n. let b = f.bound (offset + 1) in let r = n.rank offset in omega (arith, same, f.block, n.block, b, r))
    (λ f n. absurd (omega (arith, same, f.block, n.block, f.low, n.high)))
    (λ f n. absurd (omega (arith, same, f.block, n.block, f.high, n.low)))
    (λ f n. let b = f.bound (offset + 1) in let r = n.rank offset in omega (arith, same, f.block, n.block, b, r))

row-up : (n m offset : ℕ) → block_of n ≡ block_of m → n / 65536 < m / 65536 → rank_at n offset + 1 ≤ rank_at m offset
row-up n m offset same less =
    by-kinds n m (rank_at n offset + 1 ≤ rank_at m offset)
    (λ x y. let p = x.rank offset in let q = y.rank offset in omega (arith, less, p, q))
    (λ x y. absurd (omega (arith, same, x.block, y.block, x.low, y.high)))
    (λ x y. absurd (omega (arith, same, x.block, y.block, x.high, y.low)))
    (λ x y. let p = x.rank offset in let q = y.rank offset in omega (arith, less, p, q))

-- the bounds of a block ascend
bound-up : (number offset : ℕ) → bound_at number offset ≤ bound_at number (offset + 1)
bound-up number offset =
    ⊎_elim (λ x. let p = x.bound offset in let q = x.bound (offset + 1) in omega (arith, p, q)) (λ x. let p = x.bound offset in let q = x.bound (offset + 1) in omega (arith, p, q))
    (kind-of number)

-- of ranks that ascend so do the blocks
block-up : (n m : ℕ) → n / 65536 ≤ m / 65536 → block_of n ≤ block_of m
block-up n m up =
    by-kinds n m (block_of n ≤ block_of m)
    (λ x y. omega (arith, up, x.block, y.block))
    (λ x y. omega (arith, up, x.block, y.block, x.low, y.high))
    (λ x y. absurd (omega (arith, up, x.high, y.low)))
    (λ x y. omega (arith, up, x.block, y.block))

-- and the bound at the end of a block is not above that at the begin of another one behind it
block-low : (n m : ℕ) → n / 65536 < m / 65536 → block_of n < block_of m → block_of n % 64 ≡ 0 → block_of m % 64 ≡ 0 → bound_at n 64 ≤ bound_at m 0
block-low n m up less whole next =
    by-kinds n m (bound_at n 64 ≤ bound_at m 0)
    (λ x y. let p = x.bound 64 in let q = y.bound 0 in omega (arith, less, whole, next, x.block, y.block, p, q))
    (λ x y. let p = x.bound 64 in let q = y.bound 0 in omega (arith, whole, x.block, x.low, y.high, p, q))
    (λ x y. absurd (omega (arith, up, x.high, y.low)))
    (λ x y. let p = x.bound 64 in let q = y.bound 0 in omega (arith, less, whole, next, x.block, y.block, p, q))

module _ {F : Type 0} (indexed : Indexed F) (pages : List ℕ) where
  -- the number of a row's first key and the row
  row-number : (row number : ℕ) (first : Key) → row < length pages → BeginsWith (tables_of indexed) (slice_index pages row) first → offset_of first ≡ 0
      → IsNumberOf first row number → IsRowNumber indexed pages number
  row-number row number first there begins whole is =
      record {
        there = omega (arith, there, is.low);
        row = record { first = first; begins = subst (λ n. BeginsWith (tables_of indexed) (slice_index pages n) first) (sym is.low) begins; ranked = is.ranked; whole = whole };
        rank = is.rank;
      }

  is-row : (row number : ℕ) → IsRowNumber indexed pages number → number % 65536 ≡ row → IsRow indexed (slice_index pages row)
  is-row row number is low = subst (λ n. IsRow indexed (slice_index pages n)) low is.row

  pub row-numbered : (row : ℕ) (first : Key) (number : Option ℕ) → row < length pages → BeginsWith (tables_of indexed) (slice_index pages row) first
      → offset_of first ≡ 0 → IfSome number (IsNumberOf first row) → IfSome number (IsRowNumber indexed pages)
  row-numbered row first None there begins whole is = tt
  row-numbered row first (Some number) there begins whole is = row-number row number first there begins whole is

  -- the numbers of rows, and that of one row more
  pub number-more : (row number : ℕ) (numbers : List ℕ) → IsRowNumber indexed pages number → number % 65536 ≡ row → AreNumbersTo indexed pages row numbers
      → AreNumbersTo indexed pages (row + 1) (numbers ++ number ∷ [])
  number-more row number numbers is low are = record {
    each = All-push (IsRowNumber indexed pages) numbers number are.each is;
    rows = λ r less. ⊎_elim (λ l. are.rows r l) (λ m. let same : row ≡ r = omega (arith, m, less) in is-row r number is (low ∙ same)) (cases_lt r row);
  }

  pub are-numbers : (count : ℕ) (numbers sorted : List ℕ) → IsPermutation numbers sorted → AreNumbersTo indexed pages count numbers → AreNumbersTo indexed pages count sorted
  are-numbers count numbers sorted moved are = record { each = All-permutation (IsRowNumber indexed pages) numbers sorted moved are.each; rows = are.rows }

  pub are-rows : (numbers : List ℕ) → All (IsRowNumber indexed pages) numbers → RanksAscend numbers → AreRows pages numbers
  are-rows numbers each ascend = record {
    ascend = ascend;
    there = All-weaker (IsRowNumber indexed pages) (λ number. number % 65536 < length pages) (λ number one. one.there) numbers each;
    apart = λ i there. let one = each i 0 there in block-apart one.row.first (slice_index numbers i) one.row.ranked one.row.whole one.rank;
  }

-- ---- the first slots of pages

module _ (pages numbers starts : List ℕ) (are : AreStarts pages numbers (length numbers) starts) where
  start-on : AreRows pages numbers → (i : ℕ) → i < length starts → HasPage pages (slice_index starts i / 64)
  start-on rows i there =
      let number = slice_index numbers i in
      let within : i < length numbers = omega (arith, there, are.long) in
      let is = are.each i within in
      let row = rows.there i 0 within in
      let page : slice_index pages (number % 65536) ≡ slice_index starts i / 64 = omega (arith, is) in
      (number % 65536, record { there = row; is = page })

-- ---- blocks

module _ (xs : List ℕ) (from to : ℕ) (up : from < to) (within : to ≤ length xs) where
  abbrev between : List ℕ
  between = slice_range xs from to

  long-between : length between ≡ to - from
  long-between = length-between xs from to within

  at-between : (i : ℕ) (d : ℕ) → i < length between → get_or between i d ≡ slice_index xs (from + i)
  at-between i d there =
      let long = long-between in
      let inside : from + i < to = omega (arith, there, long) in
      get_or-between xs from to i d inside ∙ get_or_default_zero xs (from + i) d (omega (arith, inside, within))

  pub first-between : slice_index between 0 ≡ slice_index xs from
  first-between = let long = long-between in let same : from + 0 ≡ from = omega arith in at-between 0 0 (omega (arith, up, long)) ∙ ap (λ n. slice_index xs n) same

module _ (pages numbers starts : List ℕ) (are : AreStarts pages numbers (length numbers) starts) (from to : ℕ) (up : from < to) (within : to ≤ length numbers) where
  abbrev short : to ≤ length starts
  short = omega (arith, within, are.long)

  pub block-between : AreRows pages numbers → AreOfBlock numbers from to → IsBlock pages (slice_range numbers from to) (slice_range starts from to)
  block-between rows same =
      let long = long-between numbers from to up within in
      let wide = long-between starts from to up short in
      let at = at-between numbers from to up within in
      let first = first-between numbers from to up within in
      record {
        long = omega (arith, long, wide);
        on = λ i d there.
            subst (λ s. HasPage pages (s / 64)) (sym (at-between starts from to up short i d there))
            (start-on pages numbers starts are rows (from + i) (omega (arith, there, wide, within, are.long)));
        ascend = λ i j less there.
            let one = at i 0 (omega (arith, less, there)) in
            let two = at j 0 there in
            let above = rows.ascend (from + i) (from + j) (omega (arith, less)) (omega (arith, there, long, within)) in
            omega (arith, one, two, above);
        same = λ i low there. ap block_of (at i 0 there) ∙ same (from + i) (omega arith) (omega (arith, there, long)) ∙ ap block_of (sym first);
      }

  pub ranks-between : (noted : ℕ → Bool) (rank : ℕ → ℕ) → AreRanksOn noted (λ i. start_at pages (slice_index numbers i)) numbers rank
      → AreRanksOn noted (λ i. slice_index (slice_range starts from to) i) (slice_range numbers from to) rank
  ranks-between noted rank ranks i offset there low is =
      let long = long-between numbers from to up within in
      let wide = long-between starts from to up short in
      let inside : from + i < length numbers = omega (arith, there, long, within) in
      let number = at-between numbers from to up within i 0 there in
      let start = at-between starts from to up short i 0 (omega (arith, there, long, wide)) ∙ are.each (from + i) inside in
      ap (λ s. rank (s + offset)) start
      ∙ ranks (from + i) offset inside low (ap (λ s. noted (s + offset)) (sym start) ∙ is)
      ∙ ap (λ n. rank_at n offset) (sym number)

-- ---- slots

module _ (P : ℕ → Type 0) (rank : ℕ → ℕ) where
  -- no slots are read up to any bound
  pub none-read : (bound : ℕ) → AreReadTo P rank bound []
  none-read bound = record {
    read = record { each = All-nil P; ascend = λ i j less within. absurd (omega (arith, within)) };
    below = All-nil (λ slot. rank slot < bound);
  }

  pub read-up : (slots : List ℕ) (from to : ℕ) → from ≤ to → AreReadTo P rank from slots → AreReadTo P rank to slots
  read-up slots from to up are = record {
    read = are.read;
    below = All-weaker (λ slot. rank slot < from) (λ slot. rank slot < to) (λ slot less. omega (arith, less, up)) slots are.below;
  }

  -- one more slot, whose rank is not below the bound
  pub read-more : (slots : List ℕ) (slot bound : ℕ) → AreReadTo P rank bound slots → P slot → bound ≤ rank slot
      → AreReadTo P rank (rank slot + 1) (slots ++ slot ∷ [])
  read-more slots slot bound are has above =
      record {
        read = record { each = All-push P slots slot are.read.each has; ascend = ascend };
        below =
            All-push (λ s. rank s < rank slot + 1) slots slot
            (All-weaker (λ s. rank s < bound) (λ s. rank s < rank slot + 1) (λ s less. omega (arith, less, above)) slots are.below) (omega arith);
      }
    where
      ascend : (i j : ℕ) → i < j → j < length (slots ++ slot ∷ []) → rank (slice_index (slots ++ slot ∷ []) i) < rank (slice_index (slots ++ slot ∷ []) j)
      ascend i j less within =
          let long = length_push slots slot in
          let first = get_or_append_left slots (slot ∷ []) 0 i (omega (arith, less, within, long)) in
          ⊎_elim
          (λ l. let one = ap rank first in
          let two = ap rank (get_or_append_left slots (slot ∷ []) 0 j l) in
          let up = are.read.ascend i j less l in
          omega (arith, one, two, up))
          (λ r. let one = ap rank first in
          let two = ap rank (get_or_push slots slot 0 j (omega (arith, r, within, long))) in
          let up = are.below i 0 (omega (arith, less, within, long)) in
          omega (arith, one, two, up, above))
          (cases_lt j (length slots))

  -- ---- a column of a block

  -- the slots are read up to some rank in the column, above which those of the rows from this one on are
  pub record AreReadToRow (numbers : List ℕ) (offset row : ℕ) (slots : List ℕ) : Type 0 where
    pub bound : ℕ
    pub are : AreReadTo P rank bound slots
    pub under : (j : ℕ) → row ≤ j → j < length numbers → bound ≤ rank_at (slice_index numbers j) offset
    pub top : bound ≤ bound_at (slice_index numbers 0) (offset + 1)

  module _ (pages numbers starts : List ℕ) (offset : ℕ) (block : IsBlock pages numbers starts) where
    abbrev first-number : ℕ
    first-number = slice_index numbers 0

    pub begin-column : (slots : List ℕ) → AreReadTo P rank (bound_at first-number offset) slots → AreReadToRow numbers offset 0 slots
    begin-column slots are = record {
      bound = bound_at first-number offset;
      are = are;
      under = λ j from there. column-low first-number (slice_index numbers j) offset (block.same j from there);
      top = bound-up first-number offset;
    }

    pub pass-row : (row : ℕ) (slots : List ℕ) → AreReadToRow numbers offset row slots → AreReadToRow numbers offset (row + 1) slots
    pass-row row slots to = record { bound = to.bound; are = to.are; under = λ j from. to.under j (omega (arith, from)); top = to.top }

    pub read-row : (row slot : ℕ) (slots : List ℕ) → row < length numbers → P slot → rank slot ≡ rank_at (slice_index numbers row) offset
        → AreReadToRow numbers offset row slots → AreReadToRow numbers offset (row + 1) (slots ++ slot ∷ [])
    read-row row slot slots there has is to =
        let under = to.under row (omega arith) there in
        let same = block.same row (omega arith) there in
        record {
          bound = rank slot + 1;
          are = read-more slots slot to.bound to.are has (omega (arith, under, is));
          under = λ j from within.
              let up = row-up (slice_index numbers row) (slice_index numbers j) offset (same ∙ sym (block.same j (omega arith) within)) (block.ascend row j (omega (arith, from)) within) in
              omega (arith, is, up);
          top = let top = column-top first-number (slice_index numbers row) offset same in omega (arith, is, top);
        }

    pub end-column : (row : ℕ) (slots : List ℕ) → AreReadToRow numbers offset row slots → AreReadTo P rank (bound_at first-number (offset + 1)) slots
    end-column row slots to = read-up slots to.bound (bound_at first-number (offset + 1)) to.top to.are

  -- ---- all blocks

  -- the slots are read up to some bound, which is not above that of the blocks that begin from this row on
  pub record AreReadToBlock (numbers : List ℕ) (row : ℕ) (slots : List ℕ) : Type 0 where
    pub bound : ℕ
    pub are : AreReadTo P rank bound slots
    pub under : (j : ℕ) → row ≤ j → j < length numbers → BeginsBlock numbers j → bound ≤ bound_at (slice_index numbers j) 0

  module _ (pages numbers : List ℕ) (rows : AreRows pages numbers) where
    pub begin-blocks : AreReadToBlock numbers 0 []
    begin-blocks = record { bound = 0; are = none-read 0; under = λ j from there begins. omega arith }

    pub pass-block : (row : ℕ) (slots : List ℕ) → AreReadToBlock numbers row slots → AreReadToBlock numbers (row + 1) slots
    pass-block row slots to = record { bound = to.bound; are = to.are; under = λ j from. to.under j (omega (arith, from)) }

    -- a block that begins behind another one begins where that one ends, or behind
    next-block : (row j : ℕ) → row < j → j < length numbers → BeginsBlock numbers j → bound_at (slice_index numbers row) 64 ≤ bound_at (slice_index numbers j) 0
    next-block row j less there begins =
        let before : ℕ = slice_index numbers (j - 1) in
        let other = begins (j - 1) (omega (arith, less)) in
        let up = rows.ascend (j - 1) j (omega (arith, less)) there in
        let above : slice_index numbers row / 65536 ≤ before / 65536 =
        ⊎_elim (λ l. let below = rows.ascend row (j - 1) l (omega (arith, there)) in omega (arith, below))
        (λ r. let same : row ≡ j - 1 = omega (arith, r, less) in let is = ap (λ n. slice_index numbers n / 65536) same in omega (arith, is))
        (cases_lt row (j - 1)) in
        let lower = block-up (slice_index numbers row) before above in
        let higher = block-up before (slice_index numbers j) (omega (arith, up)) in
        let apart : block_of (slice_index numbers row) < block_of (slice_index numbers j) =
        ⊎_elim (λ l. omega (arith, lower, l)) (λ r. let same : block_of before ≡ block_of (slice_index numbers j) = omega (arith, r, higher) in absurd (other same))
        (cases_lt (block_of before) (block_of (slice_index numbers j))) in
        block-low (slice_index numbers row) (slice_index numbers j) (omega (arith, above, up)) apart (rows.apart row (omega (arith, less, there))) (rows.apart j there)

    pub read-block : (row : ℕ) (slots : List ℕ) → AreReadTo P rank (bound_at (slice_index numbers row) 64) slots → AreReadToBlock numbers (row + 1) slots
    read-block row slots are = record {
      bound = bound_at (slice_index numbers row) 64;
      are = are;
      under = λ j from there begins. next-block row j (omega (arith, from)) there begins;
    }

    -- the rows from one on, up to another one, where they are the block that begins there
    pub read-rows : (row end : ℕ) (slots more : List ℕ) → row < length numbers → (up : row < end) → (within : end ≤ length numbers) → BeginsBlock numbers row
        → (AreReadTo P rank (bound_at (slice_index (slice_range numbers row end) 0) 0) slots → AreReadTo P rank (bound_at (slice_index (slice_range numbers row end) 0) 64) more)
        → AreReadToBlock numbers row slots → AreReadToBlock numbers (row + 1) more
    read-rows row end slots more there up within begins reads to =
        let first : slice_index (slice_range numbers row end) 0 ≡ slice_index numbers row = first-between numbers row end up within in
        let begun = read-up slots to.bound (bound_at (slice_index numbers row) 0) (to.under row (omega arith) there begins) to.are in
        read-block row more (subst (λ n. AreReadTo P rank (bound_at n 64) more) first (reads (subst (λ n. AreReadTo P rank (bound_at n 0) slots) (sym first) begun)))
