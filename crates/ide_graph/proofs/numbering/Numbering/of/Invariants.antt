use Rattle.std.proofs.Common.{◌≡◌, length, take}
use Rattle.ide_graph.specs.Numbered.{IsNumbered}
use Rattle.ide_graph.specs.Numbering.{IsNumberingOf}
use Rattle.ide_graph.proofs.numbering.Numbering.of.Given as goal

abbrev pub invariant-loop-procedure : goal.invariant-loop-procedure
invariant-loop-procedure l = record {
  numbering : IsNumberingOf (take l.procedure-index l.procedures) l.numbering;
  numbered : IsNumbered l.numbering;
  added : length l.numbering.layouts.items ≡ l.procedure-index;
}
