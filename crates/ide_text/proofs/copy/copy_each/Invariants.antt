use Rattle.std.proofs.Common.{◌≡◌, take, map}
use Rattle.ide_text.proofs.copy.copy_each.Given as goal

abbrev pub invariant-loop-item : goal.invariant-loop-item
invariant-loop-item g l = map g.T.Copied.value l.copies.items ≡ map g.T.Copied.value (take l.item-index l.items)
