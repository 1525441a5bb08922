-- The coded form of a function over constants: its kind, then its numbers.
use Rattle.std.specs.Prelude.{◌≡◌, ℕ, ◌≤◌, List, [], ◌∷◌, ◌++◌, length, drop}
use Rattle.std.specs.Int.{w64, to_le_bytes}
use Rattle.std.proofs.Common.{refl, ap, arith, lit≤}
use Rattle.std.proofs.lemmas.Bool.Decides.{nat_tests}
use Rattle.ide_wire.specs.Form.{IsPrefixFree}
use Rattle.ide_wire.specs.Numbers.{eight_prefix_free}
use Rattle.ide_instances.specs.ConstFn.{is_proper_fn}
use Rattle.ide_instances.specs.declared.const_fn.ConstFn.{ConstFn}
use Rattle.ide_instances.specs.declared.const_fn.ConstFn.TheVariants.{AllTop, Shift, Const, ShiftMeet, Bottom}

abbrev pub const_fn_form : ConstFn → List ℕ
const_fn_form AllTop = 0 ∷ []
const_fn_form (Shift c) = 1 ∷ to_le_bytes w64 c
const_fn_form (Const k) = 2 ∷ to_le_bytes w64 k
const_fn_form (ShiftMeet c k) = 3 ∷ to_le_bytes w64 c ++ to_le_bytes w64 k
const_fn_form Bottom = 4 ∷ []

pub const_fn_not_empty : (f : ConstFn) → 1 ≤ length (const_fn_form f)
const_fn_not_empty AllTop = lit≤ tt
const_fn_not_empty (Shift c) = lit≤ tt
const_fn_not_empty (Const k) = lit≤ tt
const_fn_not_empty (ShiftMeet c k) = lit≤ tt
const_fn_not_empty Bottom = lit≤ tt

pub const_fn_at_most : (f : ConstFn) → length (const_fn_form f) ≤ 17
const_fn_at_most AllTop = lit≤ tt
const_fn_at_most (Shift c) = lit≤ tt
const_fn_at_most (Const k) = lit≤ tt
const_fn_at_most (ShiftMeet c k) = lit≤ tt
const_fn_at_most Bottom = lit≤ tt

pub const_fn_prefix_free : IsPrefixFree is_proper_fn const_fn_form
const_fn_prefix_free AllTop AllTop r s p q same = refl
const_fn_prefix_free AllTop g r s p q same = cc (same)
const_fn_prefix_free (Shift c) (Shift d) r s p q same = ap Shift (eight_prefix_free c d r s p q (ap (drop 1) same))
const_fn_prefix_free (Shift c) g r s p q same = cc (same)
const_fn_prefix_free (Const k) (Const l) r s p q same = ap Const (eight_prefix_free k l r s p q (ap (drop 1) same))
const_fn_prefix_free (Const k) g r s p q same = cc (same)
const_fn_prefix_free (ShiftMeet c k) (ShiftMeet d l) r s p q same =
    let shifts : c ≡ d =
    eight_prefix_free c d (to_le_bytes w64 k ++ r) (to_le_bytes w64 l ++ s)
    (grind (arith, nat_tests)) (grind (arith, nat_tests)) (ap (drop 1) same) in
    let numbers : k ≡ l =
    eight_prefix_free k l r s (grind (arith, nat_tests)) (grind (arith, nat_tests)) (ap (drop 9) same) in
    cc (shifts, numbers)
const_fn_prefix_free (ShiftMeet c k) g r s p q same = cc (same)
const_fn_prefix_free Bottom Bottom r s p q same = refl
const_fn_prefix_free Bottom g r s p q same = cc (same)
