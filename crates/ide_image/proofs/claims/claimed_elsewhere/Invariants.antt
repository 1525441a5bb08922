use Rattle.std.proofs.Common.{◌≡◌, ℕ, ◌<◌, false, None, get_or}
use Rattle.std.specs.Prelude.{nat_eq}
use Rattle.ide_image.proofs.claims.claimed_elsewhere.Given as goal

abbrev pub invariant-loop-other : goal.invariant-loop-other
invariant-loop-other g l = (h : ℕ) → h < l.other → nat_eq l.hand h ≡ false → get_or l.claims h None ≡ None
