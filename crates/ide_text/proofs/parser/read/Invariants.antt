use Rattle.std.proofs.Common.{◌≡◌, ◌+◌, ◌++◌, length}
use Rattle.ide_text.specs.FirstFault.{AreTaken, lines_text}
use Rattle.ide_text.specs.Reader.{IsCounted, taken_lines}
use Rattle.ide_text.proofs.parser.read.Given as goal

-- the lines so far were taken, and the rest follows them
abbrev pub invariant-loop-next : goal.invariant-loop-next
invariant-loop-next l = record {
  counted : IsCounted l.reader;
  taken : AreTaken (taken_lines l.reader);
  text : l.text ≡ lines_text (taken_lines l.reader) ++ l.rest;
  line : l.line ≡ length (taken_lines l.reader) + 1;
}

abbrev pub decreases-loop-next : goal.decreases-loop-next
decreases-loop-next l = length l.rest
