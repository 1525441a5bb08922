use Rattle.ide_wire.proofs.ByNumber.{by-number}
use Rattle.ide_wire.proofs.key.KeyOrd.cmp.Goals as goal

pub returns : goal.returns
returns c =
    let same = by-number c.args.self.now c.args.other.now c.number.ensures.facts c.number-2.ensures.facts in
    cc (same)
