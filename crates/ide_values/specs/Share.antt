-- Rows that workers share: each has those from its start up to the start of the next.
use Rattle.std.specs.Prelude.{◌≡◌, ℕ, ◌+◌, ◌^◌, ◌<◌, ◌≤◌, List, length, slice_index_or}

-- how many workers there are, the place at which the rows of each begin, and what stands at a place before it
-- is filled and after
pub record Sharing (T : Type 0) : Type 1 where
  pub workers : ℕ
  pub start : ℕ → ℕ
  pub is_blank : T → Type 0
  pub is_filled : ℕ → T → Type 0

-- of the workers none begins after a later one
abbrev pub RangesAscend : {T : Type 0} → Sharing T → Type 0
RangesAscend sharing = (i j : ℕ) → i ≤ j → j ≤ sharing.workers → sharing.start i ≤ sharing.start j

-- the rows of so many workers from the first on, of which P says what stands at each place
pub record AreRows {T : Type 0} (P : ℕ → T → Type 0) (start : ℕ → ℕ) (first count : ℕ) (rows : List T) : Type 0 where
  pub span : start first + length rows ≡ start (first + count)
  pub each : (k : ℕ) (x : T) → k < length rows → P (start first + k) (slice_index_or rows k x)

module _ {T : Type 0} (sharing : Sharing T) (first count : ℕ) (rows : List T) where
  -- the rows are blank, and there are such workers
  pub record AreToFill : Type 0 where
    pub some : 0 < count
    pub few : first + count < 2 ^ 64
    pub workers : first + count ≤ sharing.workers
    pub blank : AreRows (λ _. sharing.is_blank) sharing.start first count rows

  -- the rows are filled
  abbrev pub AreFull : Type 0
  AreFull = AreRows sharing.is_filled sharing.start first count rows
