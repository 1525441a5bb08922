use Rattle.std.proofs.Common.{rules}
use Rattle.ide_board.proofs.Writers.{publishes}
use Rattle.ide_board.proofs.board.Board.publish.Goals as goal

pub fetch_max-requires : goal.fetch_max-requires
fetch_max-requires g c = (search rules, search rules, publishes _ _ _ _ c.writer.invariant.writer (search rules) (search rules))
