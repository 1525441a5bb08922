use Rattle.std.proofs.Common.{rules}
use Rattle.ide_board.proofs.Seating.{notes_given, notes_taken}
use Rattle.ide_board.proofs.board.Board.tell.Goals as goal

pub split_seat-note-requires : goal.split_seat-note-requires
split_seat-note-requires g c = (search rules, search rules, notes_given _ _ c.requires.seated)

pub join_seat-requires : goal.join_seat-requires
join_seat-requires g c = (search rules, search rules, search rules, search rules, notes_taken _ _ _ _)
