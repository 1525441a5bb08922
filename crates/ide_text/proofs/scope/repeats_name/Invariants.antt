use Rattle.std.proofs.Common.{ℕ, ◌≤◌, []}
use Rattle.ide_text.specs.Names.{IsRepeated}
use Rattle.ide_text.proofs.scope.repeats_name.Given as goal

-- none of the names so far stands among those before it
abbrev pub invariant-loop-place : goal.invariant-loop-place
invariant-loop-place l = (k : ℕ) → IsRepeated [] l.names k → l.place ≤ k
