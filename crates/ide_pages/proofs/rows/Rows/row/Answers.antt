use Rattle.ide_pages.proofs.RowLemmas.{row-empty}
use Rattle.ide_pages.proofs.rows.Rows.row.Goals as goal

pub returns-in-None-clause-is : goal.returns-in-None-clause-is
returns-in-None-clause-is c = row-empty
