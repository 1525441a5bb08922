use Rattle.std.proofs.Common.{ap}
use Rattle.ide_bench.proofs.Alike.{zeros_of}
use Rattle.ide_bench.proofs.records.Sizes.record.Goals as goal

pub returns : goal.returns
returns c =
    ap (λ body. (1, body)) (zeros_of c.args.self.length c.in_ok-body.body.items c.resize.new.self.items _ c.in_ok-body.ensures.items c.in_ok-body.ensures.len c.in_ok-resize.ensures.items)
