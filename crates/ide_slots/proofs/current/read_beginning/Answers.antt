use Rattle.std.proofs.Common.{arith}
use Rattle.ide_slots.proofs.Currents.{opened_behind}
use Rattle.ide_slots.proofs.Gates.{closed_by_gate}
use Rattle.ide_slots.proofs.current.read_beginning.Goals as goal

pub returns-then-bytes-eq0-clause-begins : goal.returns-then-bytes-eq0-clause-begins
returns-then-bytes-eq0-clause-begins c = closed_by_gate c.args.bytes.now (omega arith) c.if-bytes-eq0.true

pub returns-in-Some-clause-begins : goal.returns-in-Some-clause-begins
returns-in-Some-clause-begins c =
    let tells = c.in-Some.ensures.told in
    (tells, opened_behind _ c.args.bytes.now tells (omega arith) c.if-bytes-eq0.false)
