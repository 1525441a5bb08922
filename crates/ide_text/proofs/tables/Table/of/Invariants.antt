use Rattle.std.proofs.Common.{take}
use Rattle.ide_text.specs.Places.{ArePlaces}
use Rattle.ide_text.proofs.tables.Table.of.Given as goal

abbrev pub invariant-loop-place : goal.invariant-loop-place
invariant-loop-place g l = ArePlaces g.T.Named.has_name (take l.place l.list) l.places
