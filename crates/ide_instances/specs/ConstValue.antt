-- The flat lattice of constants: top, each 64-bit number, bottom.
use Rattle.std.specs.Prelude.{ℕ, ◌++◌, Bool, true, List, cond, nat_eq, codes, decimal}
use Rattle.ide_lattice.specs.Algebra.{LatticeAlgebra}
use Rattle.ide_wire.specs.Numbers.{fits}
use Rattle.ide_instances.specs.declared.const_value.ConstValue.{ConstValue}
use Rattle.ide_instances.specs.declared.const_value.ConstValue.TheVariants.{Top, Const, Bottom}

-- two different constants meet to bottom
abbrev pub meet_constants : ConstValue → ConstValue → ConstValue
meet_constants Top y = y
meet_constants Bottom y = Bottom
meet_constants (Const k) Top = Const k
meet_constants (Const k) (Const l) = cond (nat_eq k l) (Const k) Bottom
meet_constants (Const k) Bottom = Bottom

abbrev pub constant_rank : ConstValue → ℕ
constant_rank Top = 2
constant_rank (Const k) = 1
constant_rank Bottom = 0

-- the number fits 64 bits
abbrev pub is_proper : ConstValue → Bool
is_proper Top = true
is_proper (Const k) = fits 64 k
is_proper Bottom = true

-- the printed form of a value
abbrev pub shown_constant : ConstValue → List ℕ
shown_constant Top = codes "top"
shown_constant (Const k) = codes "const " ++ decimal k
shown_constant Bottom = codes "bottom"

abbrev pub const_algebra : LatticeAlgebra ConstValue
const_algebra = record {
  proper = is_proper;
  top = Top;
  bottom = Bottom;
  meet = meet_constants;
  rank = constant_rank;
  height = 2;
}
