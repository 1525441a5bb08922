use Rattle.std.proofs.Common.{arith}
use Rattle.ide_wire.specs.Numbers.{eight_in_front}
use Rattle.ide_wire.proofs.wire.U64Wire.take.Goals as goal

pub returns-clause-found : goal.returns-clause-found
returns-clause-found c =
    eight_in_front c.args.bytes.now c.read_u64.result c.type_inv.bytes (omega arith) (omega (arith, c.read_u64.ensures))
