use Rattle.std.proofs.Common.{arith}
use Rattle.ide_wire.specs.Numbers.{four_in_front}
use Rattle.ide_wire.proofs.wire.U32Wire.take.Goals as goal

pub returns-clause-found : goal.returns-clause-found
returns-clause-found c =
    four_in_front c.args.bytes.now c.read_u32.result c.type_inv.bytes (omega arith) (omega (arith, c.read_u32.ensures))
