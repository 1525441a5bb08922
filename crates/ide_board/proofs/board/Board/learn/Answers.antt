use Rattle.std.proofs.Common.{rules}
use Rattle.ide_board.proofs.Clients.{learns}
use Rattle.ide_board.proofs.board.Board.learn.Goals as goal

pub load-client-inside-requires : goal.load-client-inside-requires
load-client-inside-requires g c = (search rules, search rules, learns _ _ _ (rw c.tell.ensures.to_me c.client.invariant.client) (rw c.tell.ensures.to_me c.from.invariant.client))
