-- How far the functions of a table have fallen.
use Rattle.std.specs.Prelude.{◌≡◌, ℕ, ◌+◌, ◌-◌, List, [], ◌∷◌, Option, None, Some}
use Rattle.ide_lattice.specs.Algebra.{EdgeAlgebra}
use Rattle.ide_wire.specs.declared.key.Key.{Key}
use Rattle.ide_image.specs.Tables.{Table, found}

module _ {F L : Type 0} (B : EdgeAlgebra F L) where
  -- how far below the always-top function it is
  abbrev pub fallen : F → ℕ
  fallen f = B.height - B.rank f

  -- how far the functions of all entries have fallen
  abbrev pub spent : List (Key × F) → ℕ
  spent [] = 0
  spent (e ∷ es) = fallen e.1 + spent es

  -- how far the function has fallen, if there is one
  abbrev pub spent_by : Option F → ℕ
  spent_by None = 0
  spent_by (Some f) = fallen f

  -- to set the key's function spends what that one has fallen, in place of what the one before had
  abbrev pub Spends : (old new : Table F) → Key → F → Type 0
  Spends old new key f = spent new.entries + spent_by (found old key) ≡ spent old.entries + fallen f
