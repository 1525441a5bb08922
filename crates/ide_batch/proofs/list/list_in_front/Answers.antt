use Rattle.std.specs.Prelude.{◌<◌, length}
use Rattle.std.proofs.Common.{arith}
use Rattle.ide_batch.proofs.Lists.{none_longer}
use Rattle.ide_batch.proofs.list.list_in_front.Goals as goal

pub returns-in_default-clause-none : goal.returns-in_default-clause-none
returns-in_default-clause-none g c =
    let short : length c.loop-taken.list.items < c.args.count = omega (arith, c.loop-taken.invariant.count, c.loop-taken-test.true) in
    none_longer g.T.Coded.proper g.T.Coded.form g.met.T.Coded.prefix_free c.loop-taken.list.items c.args.bytes.now c.loop-taken.rest.now c.args.count
    c.loop-taken.invariant.proper short c.loop-taken.invariant.found c.in_default.ensures.none
