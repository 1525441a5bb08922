-- Where the coded form of a function has no second number, no form stands in front.
use Rattle.std.specs.Prelude.{◌≡◌, ℕ, List, ◌∷◌, ◌-◌, length, take, drop}
use Rattle.std.specs.Int.{w64, to_le_bytes}
use Rattle.std.proofs.Common.{ap, sym, ◌∙◌, arith}
use Rattle.std.proofs.lemmas.Bool.Decides.{nat_tests}
use Rattle.ide_wire.specs.Form.{NoFormInFront}
use Rattle.ide_wire.specs.Numbers.{fits}
use Rattle.ide_wire.specs.Key.{slice_from}
use Rattle.ide_instances.specs.ConstFn.{is_proper_fn}
use Rattle.ide_instances.specs.ConstFnForm.{const_fn_form}
use Rattle.ide_instances.specs.declared.const_fn.ConstFn.TheVariants.{ShiftMeet}

pub no_second_number : (bytes numbers : List ℕ) (kind : ℕ) → bytes ≡ kind ∷ numbers → kind ≡ 3
    → NoFormInFront (fits 64) (to_le_bytes w64) (take (length numbers - 8) (drop 8 numbers))
    → NoFormInFront is_proper_fn const_fn_form bytes
no_second_number bytes numbers kind is three none (ShiftMeet c k) rest p same =
    none k rest (grind (arith, nat_tests)) (slice_from 8 numbers ∙ ap (drop 9) (sym is ∙ same))
no_second_number bytes numbers kind is three none f rest p same = cc (is, three, same)
