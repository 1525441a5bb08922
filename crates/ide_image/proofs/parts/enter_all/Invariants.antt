use Rattle.std.proofs.Common.{◌≡◌, ℕ, drop, length}
use Rattle.std.specs.Prelude.{◌||◌}
use Rattle.std.specs.List.{list_any}
use Rattle.std.specs.Map.{keys_of}
use Rattle.std.specs.Option.{is_some}
use Rattle.ide_wire.specs.Key.{same_key}
use Rattle.ide_wire.specs.declared.key.Key.{Key}
use Rattle.ide_image.specs.Tables.{with_all}
use Rattle.ide_image.specs.Indexed.{HaveCells, full_cells}
use Rattle.ide_image.specs.Worklist.{claim_in}
use Rattle.ide_image.specs.KeyedImage.{AreParts, HasRoomFor, entry_by, marked_all, pending_by_slot}
use Rattle.ide_image.specs.Notes.{noted_after}
use Rattle.ide_image.proofs.parts.enter_all.Given as goal

-- there is room for the entries that are left, and these make of what stands what all of them make of what stood
abbrev pub invariant-loop-entry : goal.invariant-loop-entry
invariant-loop-entry g l = record {
  room : HasRoomFor (length (drop l.entry-index l.list)) (length (drop l.entry-index l.list)) l.indexed l.queue l.changes;
  made : HaveCells l.indexed l.list;
  whole : AreParts l.indexed l.queue l.claims.items l.changes;
  cells : with_all l.indexed.cells (full_cells (drop l.entry-index l.list)) ≡ with_all l.initial.indexed.cells (full_cells l.list);
  pending : (q : Key) → (list_any (same_key q) (keys_of (drop l.entry-index l.list)) || pending_by_slot l.indexed l.queue q) ≡ (list_any (same_key q) (keys_of l.list) || pending_by_slot l.initial.indexed l.initial.queue q);
  claims : (h : ℕ) → marked_all (keys_of (drop l.entry-index l.list)) (claim_in l.claims.items h) ≡ marked_all (keys_of l.list) (claim_in l.initial.claims.items h);
  noting : is_some l.changes.list ≡ is_some l.initial.changes.list;
  notes : (q : Key) → noted_after l.changes.list (list_any (same_key q) (keys_of (drop l.entry-index l.list))) (entry_by l.indexed l.queue q) q
      ≡ noted_after l.initial.changes.list (list_any (same_key q) (keys_of l.list)) (entry_by l.initial.indexed l.initial.queue q) q;
}
