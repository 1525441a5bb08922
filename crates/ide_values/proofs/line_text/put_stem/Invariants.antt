use Rattle.std.proofs.Common.{ℕ, List}
use Rattle.ide_values.specs.Lines.{AreLines}
use Rattle.ide_values.proofs.Begun.{IsHalfway}
use Rattle.ide_values.proofs.line_text.put_stem.Given as goal

-- the lines before the index have the other stem
abbrev pub invariant-loop-index : goal.invariant-loop-index
invariant-loop-index g l = (tail : ℕ → List ℕ) → AreLines l.told l.old tail l.fn.text → IsHalfway l.told l.old l.new tail l.text l.index l.place
