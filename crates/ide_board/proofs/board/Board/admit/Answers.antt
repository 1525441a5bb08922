use Rattle.std.proofs.Common.{rules}
use Rattle.ide_board.proofs.Seating.{admits}
use Rattle.ide_board.proofs.board.Board.admit.Goals as goal

pub split_seat-seat-requires : goal.split_seat-seat-requires
split_seat-seat-requires g c = (search rules, search rules, admits _ _ _ c.writer.invariant.writer)
