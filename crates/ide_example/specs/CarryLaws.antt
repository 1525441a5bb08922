-- The functions over origins are an algebra of edge functions, and `==` is equality.
use Rattle.std.specs.Prelude.{◌≡◌, ◌≢◌, ◌<◌, ◌≤◌, true, IsTrue}
use Rattle.std.proofs.Common.{refl, sym, arith}
use Rattle.ide_lattice.specs.Laws.{IsEdgeAlgebra}
use Rattle.ide_example.specs.Origin.{origins, meet_origins}
use Rattle.ide_example.specs.Carry.{carries, apply_carry, compose_carries, meet_carries, carry_rank}
use Rattle.ide_example.specs.declared.origin.Origin.{Origin}
use Rattle.ide_example.specs.declared.origin.Origin.TheVariants.{Program, Input}
use Rattle.ide_example.specs.declared.carry.Carry.{Carry}
use Rattle.ide_example.specs.declared.carry.Carry.TheVariants.{Nothing, Origin as Same}
use Rattle.ide_example.specs.contracts.carry.CarryPartialEq.TheImpl.{ghosts as carry_eq}

apply-top : (f : Carry) → apply_carry f Program ≡ Program
apply-top Nothing = refl
apply-top Same = refl

apply-compose : (f g : Carry) (x : Origin) → apply_carry (compose_carries f g) x ≡ apply_carry g (apply_carry f x)
apply-compose Nothing g x = sym (apply-top g)
apply-compose Same g x = refl

apply-meet : (f g : Carry) (x : Origin) → apply_carry (meet_carries f g) x ≡ meet_origins (apply_carry f x) (apply_carry g x)
apply-meet Nothing g x = refl
apply-meet Same Nothing Program = refl
apply-meet Same Same Program = refl
apply-meet Same g Input = refl

distributive : (f : Carry) (x y : Origin) → apply_carry f (meet_origins x y) ≡ meet_origins (apply_carry f x) (apply_carry f y)
distributive Nothing x y = refl
distributive Same x y = refl

-- the two functions differ at an input
exact : (f g : Carry) → ((x : Origin) → IsTrue true → apply_carry f x ≡ apply_carry g x) → f ≡ g
exact Nothing Nothing h = refl
exact Nothing Same h = let e = h Input refl in cc
exact Same Nothing h = let e = h Input refl in cc
exact Same Same h = refl

fn-rank-most : (f : Carry) → carry_rank f ≤ 1
fn-rank-most Nothing = omega (arith)
fn-rank-most Same = omega (arith)

fn-rank-falls : (f g : Carry) → meet_carries f g ≢ f → carry_rank (meet_carries f g) < carry_rank f
fn-rank-falls Nothing Nothing h = absurd (h refl)
fn-rank-falls Nothing Same h = omega (arith)
fn-rank-falls Same g h = absurd (h refl)

pub carries_are_edge_functions : IsEdgeAlgebra origins carries
carries_are_edge_functions = record {
  proper_id = refl;
  proper_all_top = refl;
  proper_apply = λ f x p q. refl;
  proper_compose = λ f g p q. refl;
  proper_meet = λ f g p q. refl;
  apply_id = λ x p. refl;
  apply_all_top = λ x p. refl;
  apply_top = λ f p. apply-top f;
  apply_compose = λ f g x p q r. apply-compose f g x;
  apply_meet = λ f g x p q r. apply-meet f g x;
  distributive = λ f x y p q r. distributive f x y;
  exact = λ f g p q. exact f g;
  rank_most = λ f p. fn-rank-most f;
  rank_all_top = refl;
  rank_falls = λ f g p q. fn-rank-falls f g;
}

pub equal_carries : (f g : Carry) → carry_eq.eq f g ≡ true → f ≡ g
equal_carries Nothing Nothing h = refl
equal_carries Nothing Same h = cc
equal_carries Same Nothing h = cc
equal_carries Same Same h = refl
