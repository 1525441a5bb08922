use Rattle.std.proofs.Common.{◌≡◌, ◌≤◌, ◌++◌, length}
use Rattle.ide_text.specs.Token.{callee_tokens}
use Rattle.ide_text.proofs.line.callees.Given as goal

-- the callees so far stand in front of the rest
abbrev pub invariant-loop-after : goal.invariant-loop-after
invariant-loop-after l = record {
  some : 1 ≤ length l.callees.items;
  split : callee_tokens l.callees.items ++ l.rest ≡ l.tokens;
}

abbrev pub decreases-loop-after : goal.decreases-loop-after
decreases-loop-after l = length l.rest
