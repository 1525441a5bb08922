use Rattle.std.proofs.Common.{rules}
use Rattle.ide_board.proofs.Clients.{reads}
use Rattle.ide_board.proofs.board.Board.acked.Goals as goal

pub load-found-requires : goal.load-found-requires
load-found-requires g c = (search rules, search rules, reads _ _ _ c.client.invariant.client)
