use Rattle.std.proofs.Common.{◌≡◌, ◌+◌}
use Rattle.ide_values.specs.Lines.{StayTill, lengths_from}
use Rattle.ide_values.proofs.line_text.stay.Given as goal

abbrev pub invariant-loop-index : goal.invariant-loop-index
invariant-loop-index g l = record {
  stay : StayTill l.told l.values l.from l.index;
  place : l.place + lengths_from l.told l.index ≡ l.initial.place + lengths_from l.told l.from;
}
