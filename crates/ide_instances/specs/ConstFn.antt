-- The functions over constants: what each gives, and their composition, meet and ranks.
use Rattle.std.specs.Prelude.{ℕ, Bool, true, ◌&&◌, cond, nat_eq}
use Rattle.ide_lattice.specs.Algebra.{EdgeAlgebra}
use Rattle.ide_wire.specs.Numbers.{fits}
use Rattle.ide_instances.specs.Modular.{sum_of}
use Rattle.ide_instances.specs.declared.const_value.ConstValue.{ConstValue}
use Rattle.ide_instances.specs.declared.const_value.ConstValue.TheVariants.{Top, Const as Known, Bottom as Unknown}
use Rattle.ide_instances.specs.declared.const_fn.ConstFn.{ConstFn}
use Rattle.ide_instances.specs.declared.const_fn.ConstFn.TheVariants.{AllTop, Shift, Const, ShiftMeet, Bottom}

-- the value of a function at a value
abbrev pub apply_constant : ConstFn → ConstValue → ConstValue
apply_constant AllTop x = Top
apply_constant (Shift c) Top = Top
apply_constant (Shift c) (Known l) = Known (sum_of l c)
apply_constant (Shift c) Unknown = Unknown
apply_constant (Const k) Top = Top
apply_constant (Const k) (Known l) = Known k
apply_constant (Const k) Unknown = Known k
apply_constant (ShiftMeet c k) Top = Top
apply_constant (ShiftMeet c k) (Known l) = cond (nat_eq (sum_of l c) k) (Known k) Unknown
apply_constant (ShiftMeet c k) Unknown = Unknown
apply_constant Bottom Top = Top
apply_constant Bottom (Known l) = Unknown
apply_constant Bottom Unknown = Unknown

-- the first function, then the second
abbrev pub compose_constants : ConstFn → ConstFn → ConstFn
compose_constants AllTop g = AllTop
compose_constants (Shift c) AllTop = AllTop
compose_constants (Shift c) (Shift e) = Shift (sum_of c e)
compose_constants (Shift c) (Const m) = Const m
compose_constants (Shift c) (ShiftMeet e m) = ShiftMeet (sum_of c e) m
compose_constants (Shift c) Bottom = Bottom
compose_constants (Const k) AllTop = AllTop
compose_constants (Const k) (Shift e) = Const (sum_of k e)
compose_constants (Const k) (Const m) = Const m
compose_constants (Const k) (ShiftMeet e m) = cond (nat_eq (sum_of k e) m) (Const m) Bottom
compose_constants (Const k) Bottom = Bottom
compose_constants (ShiftMeet c k) AllTop = AllTop
compose_constants (ShiftMeet c k) (Shift e) = ShiftMeet (sum_of c e) (sum_of k e)
compose_constants (ShiftMeet c k) (Const m) = Const m
compose_constants (ShiftMeet c k) (ShiftMeet e m) = cond (nat_eq (sum_of k e) m) (ShiftMeet (sum_of c e) m) Bottom
compose_constants (ShiftMeet c k) Bottom = Bottom
compose_constants Bottom AllTop = AllTop
compose_constants Bottom (Shift e) = Bottom
compose_constants Bottom (Const m) = Const m
compose_constants Bottom (ShiftMeet e m) = Bottom
compose_constants Bottom Bottom = Bottom

-- the function that gives the meet of both values
abbrev pub meet_constant_fns : ConstFn → ConstFn → ConstFn
meet_constant_fns AllTop g = g
meet_constant_fns (Shift c) AllTop = Shift c
meet_constant_fns (Shift c) (Shift d) = cond (nat_eq c d) (Shift c) Bottom
meet_constant_fns (Shift c) (Const k) = ShiftMeet c k
meet_constant_fns (Shift c) (ShiftMeet d k) = cond (nat_eq c d) (ShiftMeet c k) Bottom
meet_constant_fns (Shift c) Bottom = Bottom
meet_constant_fns (Const k) AllTop = Const k
meet_constant_fns (Const k) (Shift c) = ShiftMeet c k
meet_constant_fns (Const k) (Const l) = cond (nat_eq k l) (Const k) Bottom
meet_constant_fns (Const k) (ShiftMeet c l) = cond (nat_eq k l) (ShiftMeet c k) Bottom
meet_constant_fns (Const k) Bottom = Bottom
meet_constant_fns (ShiftMeet c k) AllTop = ShiftMeet c k
meet_constant_fns (ShiftMeet c k) (Shift d) = cond (nat_eq c d) (ShiftMeet c k) Bottom
meet_constant_fns (ShiftMeet c k) (Const l) = cond (nat_eq k l) (ShiftMeet c k) Bottom
meet_constant_fns (ShiftMeet c k) (ShiftMeet d l) = cond (nat_eq c d && nat_eq k l) (ShiftMeet c k) Bottom
meet_constant_fns (ShiftMeet c k) Bottom = Bottom
meet_constant_fns Bottom g = Bottom

-- how often a meet can still lower it
abbrev pub constant_fn_rank : ConstFn → ℕ
constant_fn_rank AllTop = 3
constant_fn_rank (Shift c) = 2
constant_fn_rank (Const k) = 2
constant_fn_rank (ShiftMeet c k) = 1
constant_fn_rank Bottom = 0

-- the numbers fit 64 bits
abbrev pub is_proper_fn : ConstFn → Bool
is_proper_fn AllTop = true
is_proper_fn (Shift c) = fits 64 c
is_proper_fn (Const k) = fits 64 k
is_proper_fn (ShiftMeet c k) = fits 64 c && fits 64 k
is_proper_fn Bottom = true

abbrev pub const_edge : EdgeAlgebra ConstFn ConstValue
const_edge = record {
  proper = is_proper_fn;
  id = Shift 0;
  all_top = AllTop;
  apply = apply_constant;
  compose = compose_constants;
  meet = meet_constant_fns;
  rank = constant_fn_rank;
  height = 3;
}
