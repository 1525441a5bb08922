use Rattle.std.proofs.Common.{ℕ, ◌≡◌, ◌<◌, ◌≤◌, get_or, length}
use Rattle.ide_values.specs.NextCalls.{IsNextCall}
use Rattle.ide_values.proofs.starts.next_calls.Given as goal

-- those of the nodes from this one on stand
abbrev pub invariant-loop-node : goal.invariant-loop-node
invariant-loop-node l = record {
  count : length l.nexts.items ≡ l.graph.nodes;
  within : l.node ≤ l.graph.nodes;
  next : IsNextCall l.graph l.node l.next;
  each : (n : ℕ) → l.node ≤ n → n < length l.nexts.items → IsNextCall l.graph n (get_or l.nexts.items n 0);
}

abbrev pub decreases-loop-node : goal.decreases-loop-node
decreases-loop-node l = l.node
