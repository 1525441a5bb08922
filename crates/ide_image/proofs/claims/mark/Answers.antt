use Rattle.std.proofs.Common.{rules}
use Rattle.std.proofs.lemmas.List.Edits.{map_over_more}
use Rattle.ide_image.specs.Worklist.{marked}
use Rattle.ide_image.proofs.claims.mark.Goals as goal

pub loop-claim-preserved : goal.loop-claim-preserved
loop-claim-preserved g c = search (rules, map_over_more (marked {T = g.row.T.Denot} c.args.key))
