use Rattle.std.proofs.Common.{rules, ap}
use Rattle.ide_board.specs.Roles.{Sitter}
use Rattle.ide_board.proofs.Seating.{begins, founds}
use Rattle.ide_board.proofs.board.Board.open.Goals as goal

pub of_words-requires : goal.of_words-requires
of_words-requires g c = begins c.args.count g.B.Base.records c.requires.records

pub split_seat-second-requires : goal.split_seat-second-requires
split_seat-second-requires g c = (search rules, search rules, founds c.args.count _ _ g.B.Base.records (ap {A = Sitter g.row.R.Denot} (λ m. m.0) c.in_ok-table.ensures.4) c.requires.records)
