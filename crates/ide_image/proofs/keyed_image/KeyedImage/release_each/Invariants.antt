use Rattle.std.proofs.Common.{◌≡◌, ◌<◌, ℕ, None}
use Rattle.ide_image.specs.Worklist.{claim_at}
use Rattle.ide_image.proofs.keyed_image.KeyedImage.release_each.Given as goal

-- the first hands have no claim, nor has one that had none, and all else is as it was
abbrev pub invariant-loop-hand : goal.invariant-loop-hand
invariant-loop-hand g l = record {
  none : (h : ℕ) → h < l.hand → claim_at l.self.pile h ≡ None;
  still : (h : ℕ) → claim_at l.fn.self.pile h ≡ None → claim_at l.self.pile h ≡ None;
  table : l.self.table ≡ l.fn.self.table;
  pending : l.self.pile.pending ≡ l.fn.self.pile.pending;
  changes : l.self.changes ≡ l.fn.self.changes;
}
