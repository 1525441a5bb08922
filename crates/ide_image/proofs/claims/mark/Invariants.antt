use Rattle.std.proofs.Common.{◌≡◌, ◌++◌, map, take, drop}
use Rattle.ide_image.specs.Worklist.{marked}
use Rattle.ide_image.proofs.claims.mark.Given as goal

abbrev pub invariant-loop-claim : goal.invariant-loop-claim
invariant-loop-claim g l = l.claim-items ≡ map (marked l.key) (take l.claim-index l.fn.claims.items) ++ drop l.claim-index l.fn.claims.items
