use Rattle.std.proofs.Common.{◌≡◌, ◌<◌, ℕ, get_or}
use Rattle.ide_wire.specs.declared.key.Key.{Key}
use Rattle.ide_image.specs.Indexed.{HasCell, HasDistinctKeys, Widens}
use Rattle.ide_image.proofs.indexed.Indexed.make_cells.Given as goal

-- there may be more cells, and the keys of the first entries have theirs
abbrev pub invariant-loop-entry : goal.invariant-loop-entry
invariant-loop-entry g l = record {
  widens : Widens l.initial.self l.self;
  distinct : HasDistinctKeys l.initial.self → HasDistinctKeys l.self;
  room : l.self.room ≡ l.initial.self.room;
  made : (k : ℕ) (d : Key × g.row.F.Denot) → k < l.entry-index → HasCell l.self (get_or l.list k d).0;
}
