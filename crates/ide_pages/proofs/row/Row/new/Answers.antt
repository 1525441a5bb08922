use Rattle.ide_pages.proofs.RowLemmas.{row-empty}
use Rattle.ide_pages.proofs.row.Row.new.Goals as goal

pub invariant_of-result : goal.invariant_of-result
invariant_of-result c = rw c.new.ensures.items row-empty
