use Rattle.std.proofs.Common.{rules}
use Rattle.ide_board.proofs.Tables.{compares}
use Rattle.ide_board.proofs.board.Board.compare.Goals as goal

pub load-requires : goal.load-requires
load-requires g c = (search rules, search rules, compares _ _ _ (rw c.tell.ensures.to_me c.table.invariant.table) (rw c.tell.ensures.to_me c.client.invariant.client))
