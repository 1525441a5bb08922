use Rattle.std.proofs.Common.{rules, length, ap, ◌∙◌}
use Rattle.ide_bench.proofs.Alike.{length_zeros}
use Rattle.ide_bench.proofs.records.copy.Goals as goal

pub loop-preserved : goal.loop-preserved
loop-preserved c =
    let size = ap (λ entry. length entry.1) c.in_ok-record.ensures ∙ length_zeros c.args.sizes.length in
    search (rules, size, c.loop.invariant)
