use Rattle.std.proofs.Common.{ℕ, ◌<◌, true}
use Rattle.ide_image.specs.Grid.{HavePages}
use Rattle.ide_image.specs.Ranks.{SaysIfLeftAt}
use Rattle.ide_image.proofs.noted_slots.NotedSlots.grid.Given as goal

-- something is left of each note before this one, and the page of its slot has a row
abbrev pub invariant-loop-index : goal.invariant-loop-index
invariant-loop-index g l = record {
  pages : HavePages l.self.slots.now l.index l.grid;
  left : (i : ℕ) → i < l.index → SaysIfLeftAt g.F.PartialEq.eq l.self.indexed.now l.self.queue.now l.self.notes.now.items i true;
}
