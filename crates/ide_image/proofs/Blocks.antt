-- The facts of a block that are gone over, each with the function of its number.
use Rattle.std.proofs.Common.{◌≡◌, ℕ, zero, suc, ◌+◌, ◌-◌, ◌*◌, ◌<◌, ◌≤◌, sym, ap, ◌∙◌, arith, List, [], ◌∷◌, ◌++◌, length, get_or, drop, map, false, cond, Some, None}
use Rattle.std.specs.Prelude.{nat_eq}
use Rattle.std.specs.List.{AllByRecursion, cons_option, filter_map, range_with_len}
use Rattle.std.specs.Map.{keys_of}
use Rattle.std.specs.Option.{option_map}
use Rattle.std.proofs.lemmas.List.{append_assoc, drop_more, map-append}
use Rattle.ide_pages.specs.Pages.{Numbers, nonzero, number_in, number_on_page, partner_on, read_block, read_blocks}
use Rattle.ide_image.specs.Tables.{partner_at}

module _ {F : Type 0} (top : F) (functions : List F) (numbers : Numbers) where
  -- so many offsets of a block, from one on
  abbrev pub block_from : ℕ × ℕ → (from count : ℕ) → List (ℕ × F)
  block_from listed from count = map (partner_at top functions) (filter_map (partner_on numbers listed) (range_with_len from count))

  -- offsets at which there is no number are passed over
  pub passed-zeros : (listed : ℕ × ℕ) (from count n : ℕ) → n ≤ count → ((o : ℕ) → from ≤ o → o < from + n → number_on_page numbers o listed.1 ≡ 0)
      → block_from listed from count ≡ block_from listed (from + n) (count - n)
  passed-zeros listed from count zero few zeros =
      let same : from ≡ from + 0 = omega arith in
      let all : count ≡ count - 0 = omega arith in
      ap (λ k. block_from listed k count) same ∙ ap (block_from listed (from + 0)) all
  passed-zeros listed from zero (suc n) few zeros = absurd (omega (arith, few))
  passed-zeros listed from (suc count) (suc n) few zeros =
      let here = zeros from (omega arith) (omega arith) in
      let same : from + 1 + n ≡ from + suc n = omega arith in
      let left : count - n ≡ suc count - suc n = omega arith in
      ap (λ m. map (partner_at top functions) (cons_option (option_map (λ (k : ℕ). (64 * listed.0 + from, k)) (nonzero m)) (filter_map (partner_on numbers listed) (range_with_len (from + 1) count)))) here
      ∙ passed-zeros listed (from + 1) count n (omega (arith, few)) (λ o least less. zeros o (omega (arith, least)) (omega (arith, less)))
      ∙ ap (λ k. block_from listed k (count - n)) same
      ∙ ap (block_from listed (from + suc n)) left

  -- and one at which there is a number is the first of those from there on
  pub passed-number : (listed : ℕ × ℕ) (from count number : ℕ) → number_on_page numbers from listed.1 ≡ number → nat_eq number 0 ≡ false
      → block_from listed from (suc count) ≡ partner_at top functions (64 * listed.0 + from, number) ∷ block_from listed (from + 1) count
  passed-number listed from count number is some =
      ap (λ m. map (partner_at top functions) (cons_option (option_map (λ (k : ℕ). (64 * listed.0 + from, k)) (nonzero m)) (filter_map (partner_on numbers listed) (range_with_len (from + 1) count)))) is
      ∙ ap (λ b. map (partner_at top functions) (cons_option (option_map (λ (k : ℕ). (64 * listed.0 + from, k)) (cond b None (Some number))) (filter_map (partner_on numbers listed) (range_with_len (from + 1) count)))) some

  -- the same by cells, of which this is the first one of the block's page
  module _ (listed : ℕ × ℕ) (first : ℕ) (at : first ≡ 64 * listed.1) where
    pub cells-over : (cell next : ℕ) → first ≤ cell → cell ≤ next → next ≤ first + 64 → ((c : ℕ) → cell ≤ c → c < next → number_in numbers c ≡ 0)
        → block_from listed (cell - first) (first + 64 - cell) ≡ block_from listed (next - first) (first + 64 - next)
    cells-over cell next from up to zeros =
        let there : (cell - first) + (next - cell) ≡ next - first = omega (arith, from, up) in
        let left : (first + 64 - cell) - (next - cell) ≡ first + 64 - next = omega (arith, from, up, to) in
        passed-zeros listed (cell - first) (first + 64 - cell) (next - cell) (omega (arith, up, to))
        (λ o least less. zeros (64 * listed.1 + o) (omega (arith, least, at, from)) (omega (arith, less, at, from, up)))
        ∙ ap (λ k. block_from listed k ((first + 64 - cell) - (next - cell))) there
        ∙ ap (block_from listed (next - first)) left

    pub cell-read : (cell number : ℕ) → first ≤ cell → cell < first + 64 → number ≡ number_in numbers cell → nat_eq number 0 ≡ false
        → block_from listed (cell - first) (first + 64 - cell)
        ≡ partner_at top functions (64 * listed.0 + (cell - first), number) ∷ block_from listed (cell + 1 - first) (first + 64 - (cell + 1))
    cell-read cell number from to is some =
        let count : first + 64 - cell ≡ suc (first + 64 - (cell + 1)) = omega (arith, to) in
        let there : 64 * listed.1 + (cell - first) ≡ cell = omega (arith, at, from) in
        let next : (cell - first) + 1 ≡ cell + 1 - first = omega (arith, from) in
        ap (block_from listed (cell - first)) count
        ∙ passed-number listed (cell - first) (first + 64 - (cell + 1)) number (ap (number_in numbers) there ∙ sym is) some
        ∙ ap (λ k. partner_at top functions (64 * listed.0 + (cell - first), number) ∷ block_from listed k (first + 64 - (cell + 1))) next

    -- a number that is read goes behind those of before
    pub more-read : (before : List (ℕ × F)) (cell next number : ℕ) → first ≤ cell → cell < next → next ≤ first + 64 → number ≡ number_in numbers cell → nat_eq number 0 ≡ false
        → ((c : ℕ) → cell + 1 ≤ c → c < next → number_in numbers c ≡ 0)
        → (before ++ partner_at top functions (64 * listed.0 + (cell - first), number) ∷ []) ++ block_from listed (next - first) (first + 64 - next)
        ≡ before ++ block_from listed (cell - first) (first + 64 - cell)
    more-read before cell next number from up to is some zeros =
        let own : ℕ × F = partner_at top functions (64 * listed.0 + (cell - first), number) in
        append_assoc before (own ∷ []) (block_from listed (next - first) (first + 64 - next))
        ∙ ap (λ xs. before ++ own ∷ xs) (sym (cells-over (cell + 1) next (omega (arith, from)) (omega (arith, up)) to zeros))
        ∙ ap (λ xs. before ++ xs) (sym (cell-read cell number from (omega (arith, up, to)) is some))

  -- one block more, and those behind it
  pub blocks-more : (before : List (ℕ × F)) (pages : List (ℕ × ℕ)) (i : ℕ) → i < length pages
      → (before ++ map (partner_at top functions) (read_block numbers (get_or pages i (0, 0)))) ++ map (partner_at top functions) (read_blocks numbers (drop (i + 1) pages))
      ≡ before ++ map (partner_at top functions) (read_blocks numbers (drop i pages))
  blocks-more before pages i within =
      let own : List (ℕ × ℕ) = read_block numbers (get_or pages i (0, 0)) in
      let rest : List (ℕ × ℕ) = read_blocks numbers (drop (i + 1) pages) in
      append_assoc before (map (partner_at top functions) own) (map (partner_at top functions) rest)
      ∙ ap (λ xs. before ++ xs) (sym (map-append (partner_at top functions) own rest))
      ∙ ap (λ listed. before ++ map (partner_at top functions) (read_blocks numbers listed)) (sym (drop_more pages i (0, 0) within))

-- what holds of each block holds of that at an index
pub block-at : (P : ℕ → Type 0) (pages : List (ℕ × ℕ)) (i : ℕ) (d : ℕ × ℕ) → i < length pages → AllByRecursion P (keys_of pages) → P (get_or pages i d).0
block-at P [] i d within all = absurd (omega (arith, within))
block-at P (x ∷ xs) zero d within all = all.0
block-at P (x ∷ xs) (suc i) d within all = block-at P xs i d (omega (arith, within)) all.1
