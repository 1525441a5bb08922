use Rattle.ide_batch.specs.Items.{functions_by}
use Rattle.ide_batch.proofs.Grouping.{groups_spell}
use Rattle.ide_batch.proofs.laws.groups_spell_lists.Goals as goal

pub returns : goal.returns
returns g c = groups_spell (functions_by g.F.Wire.proper g.F.Wire.form g.F.PartialEq.eq g.F.EdgeFn.edge.all_top)
