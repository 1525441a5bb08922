use Rattle.std.proofs.Common.{◌≡◌, ◌++◌, ℕ, ◌≤◌, take}
use Rattle.ide_text.specs.Names.{IsRepeated}
use Rattle.ide_text.proofs.names.Names.declare.Given as goal

abbrev pub invariant-loop-place : goal.invariant-loop-place
invariant-loop-place l = record {
  kept : l.self ≡ l.fn.self ++ take l.place l.names;
  first : (k : ℕ) → IsRepeated (l.taken ++ l.fn.self) l.names k → l.place ≤ k;
}
