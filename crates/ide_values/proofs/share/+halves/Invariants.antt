use Rattle.std.proofs.Common.{◌+◌, ◌-◌, ◌*◌}
use Rattle.ide_values.proofs.share.+halves.Given as goal

abbrev pub decreases-fill_shared : goal.decreases-fill_shared
decreases-fill_shared g l = 4 * l.count

abbrev pub decreases-fill_both : goal.decreases-fill_both
decreases-fill_both g l = 4 * (l.count + l.rest) - 1

abbrev pub decreases-fill_both-front : goal.decreases-fill_both-front
decreases-fill_both-front g l = 4 * l.count + 1

abbrev pub decreases-fill_both-back : goal.decreases-fill_both-back
decreases-fill_both-back g l = 4 * l.rest + 1
