use Rattle.std.proofs.Common.{subst, sym}
use Rattle.std.specs.Prelude.{IfNone}
use Rattle.ide_wire.specs.Form.{NoFormInFront}
use Rattle.ide_instances.specs.ConstFn.{is_proper_fn}
use Rattle.ide_instances.specs.ConstFnForm.{const_fn_form}
use Rattle.ide_instances.proofs.Form.{no_second_number}
use Rattle.ide_instances.proofs.const_fn.ConstFnWire.take.Goals as goal

pub returns-in_err-number-in-3-clause-none : goal.returns-in_err-number-in-3-clause-none
returns-in_err-number-in-3-clause-none c =
    subst (λ r. IfNone r (NoFormInFront is_proper_fn const_fn_form c.args.bytes.now)) (sym c.from_residual-in_err-number-in-3.ensures)
    (no_second_number c.args.bytes.now c.in_ok-kind.numbers.now c.in_ok-kind.kind.now
    c.in_ok-kind.ensures.cases.0 c.in-3.is c.in_err-number-in-3.ensures.none)
