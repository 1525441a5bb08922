-- The lattice of two values: surely initialised or not reached, and perhaps uninitialised.
use Rattle.std.specs.Prelude.{ℕ, true, List, codes}
use Rattle.ide_lattice.specs.Algebra.{LatticeAlgebra}
use Rattle.ide_instances.specs.declared.uninit_value.UninitValue.{UninitValue}
use Rattle.ide_instances.specs.declared.uninit_value.UninitValue.TheVariants.{Top, Bottom}

-- bottom where either is bottom
abbrev pub meet_uninit : UninitValue → UninitValue → UninitValue
meet_uninit Top y = y
meet_uninit Bottom y = Bottom

abbrev pub uninit_rank : UninitValue → ℕ
uninit_rank Top = 1
uninit_rank Bottom = 0

-- the printed form of a value
abbrev pub shown_uninit : UninitValue → List ℕ
shown_uninit Top = codes "top"
shown_uninit Bottom = codes "bottom"

abbrev pub uninit_algebra : LatticeAlgebra UninitValue
uninit_algebra = record {
  proper = λ x. true;
  top = Top;
  bottom = Bottom;
  meet = meet_uninit;
  rank = uninit_rank;
  height = 1;
}
