-- Which cells of a page may be of jumps at nodes that have rows.
use Rattle.std.specs.Prelude.{◌≡◌, ℕ, ◌+◌, ◌/◌, ◌<◌, ◌≤◌, Some}
use Rattle.ide_image.specs.Cells.{TablesData, shown_in}
use Rattle.ide_wire.specs.declared.key.Key.{Key}
use Rattle.ide_wire.specs.declared.key.Key.TheVariants.{Jump, Summary}

-- the key is that of a summary
abbrev pub IsSummary : Key → Type 0
IsSummary (Jump n a b) = ⊥
IsSummary (Summary c a b) = Unit {0}

-- so is that of each entry that a cell of the page shows
abbrev pub HasNoJump : {F : Type 0} → TablesData F → (page : ℕ) → Type 0
HasNoJump {F} tables page = (cell : ℕ) (e : Key × F) → cell / 64 ≡ page → shown_in tables cell ≡ Some e → IsSummary e.0

-- of the offsets of a page, whose first cell is at a node, those from one to before another are at the first of some
-- nodes or behind it, and each that is at one of these, the first and so many more, is among them
pub record AreNear (first more node begin end : ℕ) : Type 0 where
  pub order : begin ≤ end
  pub page : end ≤ 64
  pub behind : (offset : ℕ) → begin ≤ offset → offset < end → first ≤ node + offset
  pub all : (offset : ℕ) → offset < 64 → first ≤ node + offset → node + offset ≤ first + more → (begin ≤ offset) × (offset < end)
