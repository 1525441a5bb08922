-- The functions over constants are an algebra of edge functions, and their `==` is equality.
use Rattle.std.specs.Prelude.{◌≡◌, ◌≢◌, ℕ, ◌<◌, ◌≤◌, true, IsTrue}
use Rattle.std.proofs.Common.{refl, arith}
use Rattle.std.proofs.lemmas.Bool.Decides.{nat_tests}
use Rattle.ide_lattice.specs.Laws.{IsEdgeAlgebra}
use Rattle.ide_instances.specs.Modular.{gap_of, sum-cancel-left, sum-moves, gap-fits, sum-gap}
use Rattle.ide_instances.specs.ConstValue.{const_algebra, is_proper}
use Rattle.ide_instances.specs.ConstFn.{const_edge, apply_constant, meet_constant_fns, constant_fn_rank, is_proper_fn}
use Rattle.ide_instances.specs.ConstFnApply.{proper-apply, proper-compose, proper-meet, apply-id, apply-top, apply-compose, apply-meet, distributive}
use Rattle.ide_instances.specs.declared.const_value.ConstValue.{ConstValue}
use Rattle.ide_instances.specs.declared.const_value.ConstValue.TheVariants.{Const as Known, Bottom as Unknown}
use Rattle.ide_instances.specs.declared.const_fn.ConstFn.{ConstFn}
use Rattle.ide_instances.specs.declared.const_fn.ConstFn.TheVariants.{AllTop, Shift, Const, ShiftMeet, Bottom}
use Rattle.ide_instances.specs.contracts.const_fn.ConstFnPartialEq.TheImpl.{ghosts as fn_eq}

rank-most : (f : ConstFn) → constant_fn_rank f ≤ 3
rank-most AllTop = omega (arith)
rank-most (Shift c) = omega (arith)
rank-most (Const k) = omega (arith)
rank-most (ShiftMeet c k) = omega (arith)
rank-most Bottom = omega (arith)

rank-falls : (f g : ConstFn) → meet_constant_fns f g ≢ f → constant_fn_rank (meet_constant_fns f g) < constant_fn_rank f
rank-falls AllTop AllTop h = absurd (h refl)
rank-falls AllTop g h = omega (arith)
rank-falls (Shift c) AllTop h = absurd (h refl)
rank-falls (Shift c) g h = grind (arith, nat_tests)
rank-falls (Const k) AllTop h = absurd (h refl)
rank-falls (Const k) g h = grind (arith, nat_tests)
rank-falls (ShiftMeet c k) AllTop h = absurd (h refl)
rank-falls (ShiftMeet c k) g h = grind (arith, nat_tests)
rank-falls Bottom g h = absurd (h refl)

-- what functions that agree give at the values that tell functions apart
module _ (f g : ConstFn) (agree : (x : ConstValue) → IsTrue (is_proper x) → apply_constant f x ≡ apply_constant g x) where
  at-zero : apply_constant f (Known 0) ≡ apply_constant g (Known 0)
  at-zero = agree (Known 0) refl

  at-one : apply_constant f (Known 1) ≡ apply_constant g (Known 1)
  at-one = agree (Known 1) refl

  at-unknown : apply_constant f Unknown ≡ apply_constant g Unknown
  at-unknown = agree Unknown refl

  at-gap : (c k : ℕ) → apply_constant f (Known (gap_of c k)) ≡ apply_constant g (Known (gap_of c k))
  at-gap c k = agree (Known (gap_of c k)) (grind (arith, nat_tests, gap-fits c k))

exact : (f g : ConstFn) → IsTrue (is_proper_fn f) → IsTrue (is_proper_fn g)
    → ((x : ConstValue) → IsTrue (is_proper x) → apply_constant f x ≡ apply_constant g x) → f ≡ g
exact AllTop AllTop p q h = refl
exact AllTop g p q h = let e = at-unknown AllTop g h in cc
exact (Shift c) (Shift d) p q h =
    let e = at-zero (Shift c) (Shift d) h in grind (arith, nat_tests, sum-cancel-left 0 c d)
exact (Shift c) (ShiftMeet d k) p q h =
    let e = at-zero (Shift c) (ShiftMeet d k) h in
    let w = at-one (Shift c) (ShiftMeet d k) h in
    grind (arith, nat_tests, sum-moves c)
exact (Shift c) Bottom p q h = let e = at-zero (Shift c) Bottom h in cc
exact (Shift c) g p q h = let e = at-unknown (Shift c) g h in cc
exact (Const k) AllTop p q h = let e = at-unknown (Const k) AllTop h in cc
exact (Const k) g p q h = let e = at-unknown (Const k) g h in cc
exact (ShiftMeet c k) (ShiftMeet d l) p q h =
    let e = at-gap (ShiftMeet c k) (ShiftMeet d l) h c k in
    grind (arith, nat_tests, sum-gap c k, sum-cancel-left (gap_of c k) c d)
exact (ShiftMeet c k) Bottom p q h =
    let e = at-gap (ShiftMeet c k) Bottom h c k in grind (arith, nat_tests, sum-gap c k)
exact (ShiftMeet c k) (Shift d) p q h =
    let e = at-zero (ShiftMeet c k) (Shift d) h in
    let w = at-one (ShiftMeet c k) (Shift d) h in
    grind (arith, nat_tests, sum-moves d)
exact (ShiftMeet c k) g p q h = let e = at-unknown (ShiftMeet c k) g h in cc
exact Bottom (Shift d) p q h = let e = at-zero Bottom (Shift d) h in cc
exact Bottom (ShiftMeet d l) p q h =
    let e = at-gap Bottom (ShiftMeet d l) h d l in grind (arith, nat_tests, sum-gap d l)
exact Bottom Bottom p q h = refl
exact Bottom g p q h = let e = at-unknown Bottom g h in cc

pub const_functions : IsEdgeAlgebra const_algebra const_edge
const_functions = record {
  proper_id = refl;
  proper_all_top = refl;
  proper_apply = proper-apply;
  proper_compose = proper-compose;
  proper_meet = proper-meet;
  apply_id = apply-id;
  apply_all_top = λ x p. refl;
  apply_top = λ f p. apply-top f;
  apply_compose = apply-compose;
  apply_meet = λ f g x p q r. apply-meet f g x p q;
  distributive = λ f x y p. distributive f x y;
  exact = exact;
  rank_most = λ f p. rank-most f;
  rank_all_top = refl;
  rank_falls = λ f g p q. rank-falls f g;
}

pub const_fn_exact : (f g : ConstFn) → fn_eq.eq f g ≡ true → f ≡ g
const_fn_exact AllTop AllTop h = refl
const_fn_exact AllTop g h = grind (arith, nat_tests)
const_fn_exact (Shift c) AllTop h = grind (arith, nat_tests)
const_fn_exact (Shift c) g h = grind (arith, nat_tests)
const_fn_exact (Const k) AllTop h = grind (arith, nat_tests)
const_fn_exact (Const k) g h = grind (arith, nat_tests)
const_fn_exact (ShiftMeet c k) AllTop h = grind (arith, nat_tests)
const_fn_exact (ShiftMeet c k) g h = grind (arith, nat_tests)
const_fn_exact Bottom Bottom h = refl
const_fn_exact Bottom g h = grind (arith, nat_tests)
