use Rattle.std.proofs.Common.{take}
use Rattle.ide_text.specs.Token.{Lacks}
use Rattle.ide_text.proofs.cut.cut.Given as goal

-- none so far
abbrev pub invariant-loop-index : goal.invariant-loop-index
invariant-loop-index l = Lacks l.byte (take l.index l.text)
