use Rattle.std.proofs.Common.{◌≡◌, take}
use Rattle.std.specs.Map.{keys_of}
use Rattle.ide_image.specs.Indexed.{entries_in}
use Rattle.ide_image.proofs.indexed.Indexed.listed_keys.Given as goal

-- the keys of the first cells are listed
abbrev pub invariant-loop-cell : goal.invariant-loop-cell
invariant-loop-cell g l = l.keys.items ≡ keys_of (entries_in (take l.cell l.self.cells))
