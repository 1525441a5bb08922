use Rattle.std.proofs.Common.{rules}
use Rattle.ide_board.proofs.Writers.{confirms}
use Rattle.ide_board.proofs.board.Board.confirm.Goals as goal

pub load-requires : goal.load-requires
load-requires g c = (search rules, search rules, confirms _ _ _ (rw c.tell.ensures.to_me c.writer.invariant.writer) (rw c.tell.ensures.to_me c.client.invariant.client))
