use Rattle.std.proofs.Common.{rules}
use Rattle.ide_board.proofs.Tables.{seals}
use Rattle.ide_board.proofs.board.Board.add.Goals as goal

pub fetch_add-requires : goal.fetch_add-requires
fetch_add-requires g c = (search rules, search rules, seals _ _ _ _ c.requires.one c.table.invariant.table (search rules))
