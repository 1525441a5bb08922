use Rattle.std.proofs.Common.{subst, sym}
use Rattle.std.specs.Prelude.{IfNone}
use Rattle.ide_wire.specs.Form.{NoFormInFront}
use Rattle.ide_wire.specs.Key.{key_form, is_proper_key, no_first_fact, no_second_fact}
use Rattle.ide_wire.proofs.key.KeyWire.take.Goals as goal

pub returns-in_err-first-clause-none : goal.returns-in_err-first-clause-none
returns-in_err-first-clause-none c =
    subst (λ r. IfNone r (NoFormInFront is_proper_key key_form c.args.bytes.now)) (sym c.from_residual-in_err-first.ensures)
    (no_first_fact c.args.bytes.now c.in_ok-kind.numbers.now c.in_ok-kind.kind.now c.in_ok-kind.ensures.cases.0 c.in_err-first.ensures.none)

pub returns-in_err-second-clause-none : goal.returns-in_err-second-clause-none
returns-in_err-second-clause-none c =
    subst (λ r. IfNone r (NoFormInFront is_proper_key key_form c.args.bytes.now)) (sym c.from_residual-in_err-second.ensures)
    (no_second_fact c.args.bytes.now c.in_ok-kind.numbers.now c.in_ok-kind.kind.now c.in_ok-kind.ensures.cases.0 c.in_err-second.ensures.none)
