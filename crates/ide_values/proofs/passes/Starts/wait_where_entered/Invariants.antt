use Rattle.std.proofs.Common.{◌≡◌}
use Rattle.ide_values.proofs.passes.Starts.wait_where_entered.Given as goal

abbrev pub invariant-loop-place : goal.invariant-loop-place
invariant-loop-place g l = l.self.values ≡ l.initial.self.values
