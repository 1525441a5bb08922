-- The two functions over origins that map the top to the top.
use Rattle.std.specs.Prelude.{ℕ, true}
use Rattle.ide_lattice.specs.Algebra.{EdgeAlgebra}
use Rattle.ide_example.specs.declared.origin.Origin.{Origin}
use Rattle.ide_example.specs.declared.origin.Origin.TheVariants.{Program}
use Rattle.ide_example.specs.declared.carry.Carry.{Carry}
use Rattle.ide_example.specs.declared.carry.Carry.TheVariants.{Nothing, Origin as Same}

-- the value of a function at an origin
abbrev pub apply_carry : Carry → Origin → Origin
apply_carry Nothing x = Program
apply_carry Same x = x

-- the first function, then the second
abbrev pub compose_carries : Carry → Carry → Carry
compose_carries Nothing g = Nothing
compose_carries Same g = g

-- the function that gives the meet of both values
abbrev pub meet_carries : Carry → Carry → Carry
meet_carries Nothing g = g
meet_carries Same g = Same

abbrev pub carry_rank : Carry → ℕ
carry_rank Nothing = 1
carry_rank Same = 0

abbrev pub carries : EdgeAlgebra Carry Origin
carries = record {
  proper = λ f. true;
  id = Same;
  all_top = Nothing;
  apply = apply_carry;
  compose = compose_carries;
  meet = meet_carries;
  rank = carry_rank;
  height = 1;
}
