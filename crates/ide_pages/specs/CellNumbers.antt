-- The numbers of cells, and how great they may be.
use Rattle.std.specs.Prelude.{◌+◌, ◌-◌, ℕ, zero, suc, List, slice_set, vec_capacity, vec_len}
use Rattle.std.specs.Global.{Vec}
use Rattle.ide_pages.specs.declared.cell_numbers.Width.{Width}

-- the number of each cell, the greatest one that a cell has room for, and for how many cells more there is room
pub record CellNumbersData : Type 0 where
  pub items : List ℕ
  pub most : ℕ
  pub room : ℕ

-- the cells where so many of them, from the first on, have the number, and the others what they had (`run-cell`, `run-elsewhere`)
abbrev pub with_run : {X : Type 0} → List X → (first : ℕ) → X → ℕ → List X
with_run cells first number zero = cells
with_run cells first number (suc n) = slice_set (with_run cells first number n) (first + n) number

-- the numbers of that width
abbrev pub cell_numbers : Width → (bytes narrow wide : Vec ℕ) → CellNumbersData
cell_numbers Width.One bytes narrow wide = record { items = bytes.items; most = 255; room = vec_capacity bytes - vec_len bytes }
cell_numbers Width.Two bytes narrow wide = record { items = narrow.items; most = 65535; room = vec_capacity narrow - vec_len narrow }
cell_numbers Width.Four bytes narrow wide = record { items = wide.items; most = 4294967295; room = vec_capacity wide - vec_len wide }
