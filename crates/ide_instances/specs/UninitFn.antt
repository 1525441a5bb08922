-- The two functions over the lattice of two values that map top to top.
use Rattle.std.specs.Prelude.{ℕ, true}
use Rattle.ide_lattice.specs.Algebra.{EdgeAlgebra}
use Rattle.ide_instances.specs.declared.uninit_value.UninitValue.{UninitValue}
use Rattle.ide_instances.specs.declared.uninit_value.UninitValue.TheVariants.{Top}
use Rattle.ide_instances.specs.declared.uninit_fn.UninitFn.{UninitFn}
use Rattle.ide_instances.specs.declared.uninit_fn.UninitFn.TheVariants.{AllTop, Id}

-- the value of a function at a value
abbrev pub apply_uninit : UninitFn → UninitValue → UninitValue
apply_uninit AllTop x = Top
apply_uninit Id x = x

-- the first function, then the second
abbrev pub compose_uninit : UninitFn → UninitFn → UninitFn
compose_uninit AllTop g = AllTop
compose_uninit Id g = g

-- the function that gives the meet of both values
abbrev pub meet_uninit_fns : UninitFn → UninitFn → UninitFn
meet_uninit_fns AllTop g = g
meet_uninit_fns Id g = Id

abbrev pub uninit_fn_rank : UninitFn → ℕ
uninit_fn_rank AllTop = 1
uninit_fn_rank Id = 0

abbrev pub uninit_edge : EdgeAlgebra UninitFn UninitValue
uninit_edge = record {
  proper = λ f. true;
  id = Id;
  all_top = AllTop;
  apply = apply_uninit;
  compose = compose_uninit;
  meet = meet_uninit_fns;
  rank = uninit_fn_rank;
  height = 1;
}
