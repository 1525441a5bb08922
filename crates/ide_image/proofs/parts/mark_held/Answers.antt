use Rattle.ide_image.specs.Worklist.{claim_in}
use Rattle.ide_image.proofs.Agree.{unmarked}
use Rattle.ide_image.proofs.parts.mark_held.Goals as goal

pub returns-else-is_held : goal.returns-else-is_held
returns-else-is_held g c = λ h. unmarked c.args.key (claim_in c.args.claims.now.items h) (c.requires h c.if-is_held.false)
