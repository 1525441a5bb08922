use Rattle.std.proofs.Common.{◌≡◌, ◌*◌, length}
use Rattle.ide_bench.proofs.records.copy.Given as goal

abbrev pub invariant-loop : goal.invariant-loop
invariant-loop l = length l.copies.items ≡ l.fn.sizes.length * l.counter
