use Rattle.std.proofs.Common.{ℕ, ◌≡◌, ◌+◌, ◌<◌, length}
use Rattle.std.specs.Prelude.{slice_index_or}
use Rattle.ide_values.specs.Lines.{AreLines, columns_in, line_tail}
use Rattle.ide_values.specs.Dump.{node_column}
use Rattle.ide_values.specs.Start.{at_place}
use Rattle.ide_values.specs.declared.line_text.Told.{Told}
use Rattle.ide_values.proofs.line_text.Lines.tell.Given as goal

-- the lines of the first facts are told
abbrev pub invariant-loop-index : goal.invariant-loop-index
invariant-loop-index g l = record {
  facts : l.self.facts ≡ l.fn.self.facts;
  stem : l.self.stem.items ≡ node_column l.node;
  count : length l.self.told.items ≡ l.index;
  values : (k : ℕ) (d : Told g.row.L.Denot) → k < length l.self.told.items → (slice_index_or l.self.told.items k d).value ≡ at_place g.L.Lattice.algebra l.rows (l.first + k);
  lines : AreLines l.self.told.items l.self.stem.items (line_tail g.L.Lattice.shown (columns_in l.self.facts.items) (λ k. at_place g.L.Lattice.algebra l.rows (l.first + k)))
      l.self.text.items;
}
