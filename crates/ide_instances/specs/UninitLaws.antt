-- The two values are a lattice, their two functions an algebra of edge functions, and each `==` is
-- equality.
use Rattle.std.specs.Prelude.{◌≡◌, ◌≢◌, ◌<◌, ◌≤◌, true, IsTrue}
use Rattle.std.proofs.Common.{refl, sym, ap, arith}
use Rattle.ide_lattice.specs.Laws.{IsLattice, IsEdgeAlgebra}
use Rattle.ide_instances.specs.UninitValue.{uninit_algebra, meet_uninit, uninit_rank}
use Rattle.ide_instances.specs.UninitFn.{uninit_edge, apply_uninit, compose_uninit, meet_uninit_fns, uninit_fn_rank}
use Rattle.ide_instances.specs.declared.uninit_value.UninitValue.{UninitValue}
use Rattle.ide_instances.specs.declared.uninit_value.UninitValue.TheVariants.{Top, Bottom}
use Rattle.ide_instances.specs.declared.uninit_fn.UninitFn.{UninitFn}
use Rattle.ide_instances.specs.declared.uninit_fn.UninitFn.TheVariants.{AllTop, Id}
use Rattle.ide_instances.specs.contracts.uninit_value.UninitValuePartialEq.TheImpl.{ghosts as value_eq}
use Rattle.ide_instances.specs.contracts.uninit_fn.UninitFnPartialEq.TheImpl.{ghosts as fn_eq}

commutative : (x y : UninitValue) → meet_uninit x y ≡ meet_uninit y x
commutative Top Top = refl
commutative Top Bottom = refl
commutative Bottom Top = refl
commutative Bottom Bottom = refl

associative : (x y z : UninitValue) → meet_uninit (meet_uninit x y) z ≡ meet_uninit x (meet_uninit y z)
associative Top y z = refl
associative Bottom y z = refl

idempotent : (x : UninitValue) → meet_uninit x x ≡ x
idempotent Top = refl
idempotent Bottom = refl

rank-most : (x : UninitValue) → uninit_rank x ≤ 1
rank-most Top = omega (arith)
rank-most Bottom = omega (arith)

rank-falls : (x y : UninitValue) → meet_uninit x y ≢ x → uninit_rank (meet_uninit x y) < uninit_rank x
rank-falls Top Top h = absurd (h refl)
rank-falls Top Bottom h = omega (arith)
rank-falls Bottom y h = absurd (h refl)

pub uninit_lattice : IsLattice uninit_algebra
uninit_lattice = record {
  proper_top = refl;
  proper_bottom = refl;
  proper_meet = λ x y p q. refl;
  commutative = λ x y p q. commutative x y;
  associative = λ x y z p q r. associative x y z;
  idempotent = λ x p. idempotent x;
  top_meet = λ x p. refl;
  bottom_meet = λ x p. refl;
  rank_most = λ x p. rank-most x;
  rank_falls = λ x y p q. rank-falls x y;
}

pub uninit_value_exact : (x y : UninitValue) → value_eq.eq x y ≡ true → x ≡ y
uninit_value_exact Top Top h = refl
uninit_value_exact Top Bottom h = cc
uninit_value_exact Bottom Top h = cc
uninit_value_exact Bottom Bottom h = refl

apply-top : (f : UninitFn) → apply_uninit f Top ≡ Top
apply-top AllTop = refl
apply-top Id = refl

apply-compose : (f g : UninitFn) (x : UninitValue) → apply_uninit (compose_uninit f g) x ≡ apply_uninit g (apply_uninit f x)
apply-compose AllTop g x = sym (apply-top g)
apply-compose Id g x = refl

apply-meet : (f g : UninitFn) (x : UninitValue) → apply_uninit (meet_uninit_fns f g) x ≡ meet_uninit (apply_uninit f x) (apply_uninit g x)
apply-meet AllTop g x = refl
apply-meet Id AllTop Top = refl
apply-meet Id Id Top = refl
apply-meet Id g Bottom = refl

distributive : (f : UninitFn) (x y : UninitValue) → apply_uninit f (meet_uninit x y) ≡ meet_uninit (apply_uninit f x) (apply_uninit f y)
distributive AllTop x y = refl
distributive Id x y = refl

-- the two functions differ at bottom
exact : (f g : UninitFn) → ((x : UninitValue) → IsTrue true → apply_uninit f x ≡ apply_uninit g x) → f ≡ g
exact AllTop AllTop h = refl
exact AllTop Id h = let e = h Bottom refl in cc
exact Id AllTop h = let e = h Bottom refl in cc
exact Id Id h = refl

fn-rank-most : (f : UninitFn) → uninit_fn_rank f ≤ 1
fn-rank-most AllTop = omega (arith)
fn-rank-most Id = omega (arith)

fn-rank-falls : (f g : UninitFn) → meet_uninit_fns f g ≢ f → uninit_fn_rank (meet_uninit_fns f g) < uninit_fn_rank f
fn-rank-falls AllTop AllTop h = absurd (h refl)
fn-rank-falls AllTop Id h = omega (arith)
fn-rank-falls Id g h = absurd (h refl)

pub uninit_functions : IsEdgeAlgebra uninit_algebra uninit_edge
uninit_functions = record {
  proper_id = refl;
  proper_all_top = refl;
  proper_apply = λ f x p q. refl;
  proper_compose = λ f g p q. refl;
  proper_meet = λ f g p q. refl;
  apply_id = λ x p. refl;
  apply_all_top = λ x p. refl;
  apply_top = λ f p. apply-top f;
  apply_compose = λ f g x p q r. apply-compose f g x;
  apply_meet = λ f g x p q r. apply-meet f g x;
  distributive = λ f x y p q r. distributive f x y;
  exact = λ f g p q. exact f g;
  rank_most = λ f p. fn-rank-most f;
  rank_all_top = refl;
  rank_falls = λ f g p q. fn-rank-falls f g;
}

pub uninit_fn_exact : (f g : UninitFn) → fn_eq.eq f g ≡ true → f ≡ g
uninit_fn_exact AllTop AllTop h = refl
uninit_fn_exact AllTop Id h = cc
uninit_fn_exact Id AllTop h = cc
uninit_fn_exact Id Id h = refl

pub uninit_top_is_not_bottom : Top ≡ Bottom → ⊥
uninit_top_is_not_bottom same = let ranks : 1 ≡ 0 = ap uninit_rank same in omega (arith, ranks)
