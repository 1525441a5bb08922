-- What contracts say of rows: the pages of one kind and one block of nodes that have one fact in common, each by its other fact.
use Rattle.std.specs.Prelude.{◌≡◌, ℕ, ◌<◌, ◌≤◌, ◌^◌, ◌&&◌, List, [], length, nat_eq, position, slice_index, slice_index_or, Option, None, Some, if◌then◌else◌}
use Rattle.std.specs.List.{AllByRecursion}
use Rattle.std.specs.List.Sorted.{IsStrictlySortedBy}
use Rattle.std.specs.Map.{lookup, keys_of}
use Rattle.std.specs.BTreeMap.{is_at}
use Rattle.std.specs.Ordering.{nat_cmp}

-- the page of a fact in a row, if it has one
abbrev pub page_in : List (ℕ × ℕ) → ℕ → Option ℕ
page_in row fact = lookup (is_at (nat_cmp fact)) row

-- the facts ascend, and are numbers of 16 bits
pub record IsRow (row : List (ℕ × ℕ)) : Type 0 where
  pub ascending : IsStrictlySortedBy nat_cmp (keys_of row)
  pub within : AllByRecursion (λ fact. fact < 2 ^ 16) (keys_of row)

-- where the fact stands in a row, or would: the facts before are below it, and those from there on are not
pub record IsPlace (fact : ℕ) (row : List (ℕ × ℕ)) (place : ℕ) : Type 0 where
  pub bound : place ≤ length row
  pub below : (k : ℕ) → k < place → slice_index (keys_of row) k < fact
  pub above : (k : ℕ) → place ≤ k → k < length row → fact ≤ slice_index (keys_of row) k

-- the fact has this page now, and each other one what it had
abbrev pub Lists : (fact page : ℕ) → (old new : List (ℕ × ℕ)) → Type 0
Lists fact page old new = (d : ℕ) → page_in new d ≡ (if nat_eq fact d then Some page else page_in old d)

-- the numbers of rows, and the row of each
pub record RowsData : Type 0 where
  pub numbers : List ℕ
  pub rows : List (List (ℕ × ℕ))

-- the row at an index, if there is one
abbrev pub row_in : List (List (ℕ × ℕ)) → Option ℕ → List (ℕ × ℕ)
row_in rows None = []
row_in rows (Some index) = slice_index_or rows index []

-- the row of the number: no fact, if there is none
abbrev pub row_at : RowsData → ℕ → List (ℕ × ℕ)
row_at rows number = row_in rows.rows (position (nat_eq number) rows.numbers)

-- each fact has the page that it had in each row
abbrev pub KeepsPages : (old new : RowsData) → Type 0
KeepsPages old new = (r d : ℕ) → page_in (row_at new r) d ≡ page_in (row_at old r) d

-- the fact has this page in the row of the number, and each other one, and in each other row, what it had
abbrev pub ListsIn : (number fact page : ℕ) → (old new : RowsData) → Type 0
ListsIn number fact page old new =
    (r d : ℕ) → page_in (row_at new r) d ≡ (if nat_eq number r && nat_eq fact d then Some page else page_in (row_at old r) d)
