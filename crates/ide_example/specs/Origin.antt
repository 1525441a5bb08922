-- The lattice of origins: from the program alone, or perhaps from an input.
use Rattle.std.specs.Prelude.{ℕ, true, List, codes}
use Rattle.ide_lattice.specs.Algebra.{LatticeAlgebra}
use Rattle.ide_example.specs.declared.origin.Origin.{Origin}
use Rattle.ide_example.specs.declared.origin.Origin.TheVariants.{Program, Input}

-- perhaps from an input where either is
abbrev pub meet_origins : Origin → Origin → Origin
meet_origins Program y = y
meet_origins Input y = Input

abbrev pub origin_rank : Origin → ℕ
origin_rank Program = 1
origin_rank Input = 0

-- the printed form of an origin
abbrev pub shown_origin : Origin → List ℕ
shown_origin Program = codes "top"
shown_origin Input = codes "input"

abbrev pub origins : LatticeAlgebra Origin
origins = record {
  proper = λ x. true;
  top = Program;
  bottom = Input;
  meet = meet_origins;
  rank = origin_rank;
  height = 1;
}
