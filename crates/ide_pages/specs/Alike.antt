-- Cells that stand behind each other and have one number.
use Rattle.std.specs.Prelude.{◌≡◌, ◌≢◌, ◌<◌, ◌≤◌, ℕ, List, length, slice_index_or}
use Rattle.ide_pages.specs.Pages.{IsNumberIn, Numbers, number_in}

-- the numbers from one cell on, up to before another, are this one
abbrev pub AllAre : ℕ → List ℕ → (begin end : ℕ) → Type 0
AllAre number items begin end = (cell : ℕ) → begin ≤ cell → cell < end → slice_index_or items cell 0 ≡ number

-- that of the cell is another one, if there is the cell
abbrev pub IsOtherAt : ℕ → List ℕ → ℕ → Type 0
IsOtherAt number items cell = cell < length items → slice_index_or items cell 0 ≢ number

-- from one cell on, up to before another, the numbers are this one as far as `last`
pub record AreSameUpTo (number : ℕ) (items : List ℕ) (begin end last : ℕ) : Type 0 where
  pub from : begin ≤ last
  pub within : last ≤ end
  pub alike : AllAre number items begin last
  pub ends : last < end → IsOtherAt number items last

-- the cells from one on, up to before another, have the number, and so have their keys
abbrev pub HaveNumber : ℕ → Numbers → (begin end : ℕ) → Type 0
HaveNumber number numbers begin end =
    (cell : ℕ) → begin ≤ cell → cell < end → (number_in numbers cell ≡ number) × IsNumberIn numbers cell number

-- the cell has another number, if there is the cell
abbrev pub EndsAtOther : ℕ → Numbers → ℕ → Type 0
EndsAtOther number numbers cell = cell < length numbers.slots → number_in numbers cell ≢ number
