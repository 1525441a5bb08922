use Rattle.std.proofs.Common.{arith}
use Rattle.ide_instances.specs.Modular.{negated-only}
use Rattle.ide_instances.proofs.shift_const.negated.Goals as goal

pub returns : goal.returns
returns c = negated-only c.args.number c.wrapping_neg.result (omega (arith, c.ranges.number.fits)) (omega (arith, c.wrapping_neg.type_inv)) c.wrapping_neg.ensures
