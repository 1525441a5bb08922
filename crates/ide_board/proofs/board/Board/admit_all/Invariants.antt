use Rattle.std.proofs.Common.{◌≡◌, length}
use Rattle.ide_board.specs.Records.{new_clients}
use Rattle.ide_board.proofs.board.Board.admit_all.Given as goal

abbrev pub ghosts-admit : goal.ghosts-admit
ghosts-admit g a = record { number = a.number }

abbrev pub invariant-loop-number : goal.invariant-loop-number
invariant-loop-number g l = (l.writer ≡ l.initial.writer) × (l.seats.items ≡ new_clients l.self (length l.initial.writer.stored) l.number)
