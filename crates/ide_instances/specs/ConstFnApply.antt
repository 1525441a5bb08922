-- What a composition, a meet and a meet of values give, and that the numbers keep to 64 bits.
use Rattle.std.specs.Prelude.{◌≡◌, IsTrue}
use Rattle.std.proofs.Common.{refl, sym, ap, ◌∙◌, arith}
use Rattle.std.proofs.lemmas.Bool.Decides.{nat_tests}
use Rattle.ide_instances.specs.Modular.{sum_of, sum-fits, sum-assoc, sum-zero, sum-cancel-left, sum-cancel-right}
use Rattle.ide_instances.specs.ConstValue.{meet_constants, is_proper}
use Rattle.ide_instances.specs.ConstFn.{apply_constant, compose_constants, meet_constant_fns, is_proper_fn}
use Rattle.ide_instances.specs.declared.const_value.ConstValue.{ConstValue}
use Rattle.ide_instances.specs.declared.const_value.ConstValue.TheVariants.{Top, Const as Known, Bottom as Unknown}
use Rattle.ide_instances.specs.declared.const_fn.ConstFn.{ConstFn}
use Rattle.ide_instances.specs.declared.const_fn.ConstFn.TheVariants.{AllTop, Shift, Const, ShiftMeet, Bottom}

pub proper-apply : (f : ConstFn) (x : ConstValue) → IsTrue (is_proper_fn f) → IsTrue (is_proper x)
    → IsTrue (is_proper (apply_constant f x))
proper-apply AllTop x p q = refl
proper-apply (Shift c) Top p q = refl
proper-apply (Shift c) (Known l) p q = grind (arith, nat_tests, sum-fits)
proper-apply (Shift c) Unknown p q = refl
proper-apply (Const k) Top p q = refl
proper-apply (Const k) x p q = p
proper-apply (ShiftMeet c k) Top p q = refl
proper-apply (ShiftMeet c k) (Known l) p q = grind (arith, nat_tests)
proper-apply (ShiftMeet c k) Unknown p q = refl
proper-apply Bottom Top p q = refl
proper-apply Bottom x p q = refl

pub proper-compose : (f g : ConstFn) → IsTrue (is_proper_fn f) → IsTrue (is_proper_fn g)
    → IsTrue (is_proper_fn (compose_constants f g))
proper-compose AllTop g p q = refl
proper-compose (Shift c) AllTop p q = refl
proper-compose (Shift c) g p q = grind (arith, nat_tests, sum-fits)
proper-compose (Const k) AllTop p q = refl
proper-compose (Const k) g p q = grind (arith, nat_tests, sum-fits)
proper-compose (ShiftMeet c k) AllTop p q = refl
proper-compose (ShiftMeet c k) g p q = grind (arith, nat_tests, sum-fits)
proper-compose Bottom AllTop p q = refl
proper-compose Bottom (Const m) p q = q
proper-compose Bottom g p q = refl

pub proper-meet : (f g : ConstFn) → IsTrue (is_proper_fn f) → IsTrue (is_proper_fn g)
    → IsTrue (is_proper_fn (meet_constant_fns f g))
proper-meet AllTop g p q = q
proper-meet (Shift c) AllTop p q = p
proper-meet (Shift c) g p q = grind (arith, nat_tests)
proper-meet (Const k) AllTop p q = p
proper-meet (Const k) g p q = grind (arith, nat_tests)
proper-meet (ShiftMeet c k) AllTop p q = p
proper-meet (ShiftMeet c k) g p q = grind (arith, nat_tests)
proper-meet Bottom g p q = refl

pub apply-id : (x : ConstValue) → IsTrue (is_proper x) → apply_constant (Shift 0) x ≡ x
apply-id Top p = refl
apply-id (Known l) p = grind (arith, nat_tests, sum-zero)
apply-id Unknown p = refl

pub apply-top : (f : ConstFn) → apply_constant f Top ≡ Top
apply-top AllTop = refl
apply-top (Shift c) = refl
apply-top (Const k) = refl
apply-top (ShiftMeet c k) = refl
apply-top Bottom = refl

pub apply-compose : (f g : ConstFn) (x : ConstValue) → IsTrue (is_proper_fn f) → IsTrue (is_proper_fn g)
    → IsTrue (is_proper x) → apply_constant (compose_constants f g) x ≡ apply_constant g (apply_constant f x)
apply-compose f g Top p q r = apply-top (compose_constants f g) ∙ sym (ap (apply_constant g) (apply-top f) ∙ apply-top g)
apply-compose AllTop g x p q r = sym (apply-top g)
apply-compose (Shift c) AllTop x p q r = refl
apply-compose (Shift c) (Shift e) (Known l) p q r = ap Known (sym (sum-assoc l c e))
apply-compose (Shift c) (ShiftMeet e m) (Known l) p q r = rw (sum-assoc l c e)
apply-compose (Shift c) g x p q r = refl
apply-compose (Const k) (ShiftMeet e m) x p q r = grind (arith, nat_tests)
apply-compose (Const k) g x p q r = refl
apply-compose (ShiftMeet c k) AllTop x p q r = refl
apply-compose (ShiftMeet c k) (Shift e) (Known l) p q r =
    grind (arith, nat_tests, sum-assoc l c e, sum-fits l c, sum-cancel-right (sum_of l c) k e)
apply-compose (ShiftMeet c k) (ShiftMeet e m) (Known l) p q r =
    grind (arith, nat_tests, sum-assoc l c e, sum-fits l c, sum-cancel-right (sum_of l c) k e)
apply-compose (ShiftMeet c k) g x p q r = grind (arith, nat_tests)
apply-compose Bottom AllTop x p q r = refl
apply-compose Bottom g x p q r = refl

pub apply-meet : (f g : ConstFn) (x : ConstValue) → IsTrue (is_proper_fn f) → IsTrue (is_proper_fn g)
    → apply_constant (meet_constant_fns f g) x ≡ meet_constants (apply_constant f x) (apply_constant g x)
apply-meet f g Top p q =
    apply-top (meet_constant_fns f g) ∙ sym (ap (λ w. meet_constants w (apply_constant g Top)) (apply-top f) ∙ apply-top g)
apply-meet AllTop g x p q = refl
apply-meet (Shift c) AllTop x p q = grind (arith, nat_tests)
apply-meet (Shift c) g x p q = grind (arith, nat_tests, sum-cancel-left)
apply-meet (Const k) AllTop x p q = grind (arith, nat_tests)
apply-meet (Const k) g x p q = grind (arith, nat_tests)
apply-meet (ShiftMeet c k) AllTop x p q = grind (arith, nat_tests)
apply-meet (ShiftMeet c k) g x p q = grind (arith, nat_tests, sum-cancel-left)
apply-meet Bottom g x p q = refl

pub distributive : (f : ConstFn) (x y : ConstValue) → IsTrue (is_proper x) → IsTrue (is_proper y)
    → apply_constant f (meet_constants x y) ≡ meet_constants (apply_constant f x) (apply_constant f y)
distributive f Top y p q = ap (λ w. meet_constants w (apply_constant f y)) (sym (apply-top f))
distributive AllTop x y p q = refl
distributive (Shift c) (Known l) (Known m) p q = grind (arith, nat_tests, sum-cancel-right)
distributive (Shift c) x y p q = refl
distributive (Const k) x Top p q = refl
distributive (Const k) x y p q = grind (arith, nat_tests)
distributive (ShiftMeet c k) x Top p q = grind (arith, nat_tests)
distributive (ShiftMeet c k) (Known l) (Known m) p q = grind (arith, nat_tests, sum-cancel-right)
distributive (ShiftMeet c k) x y p q = grind (arith, nat_tests)
distributive Bottom x Top p q = refl
distributive Bottom x y p q = grind (arith, nat_tests)
