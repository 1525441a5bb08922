use Rattle.std.proofs.Common.{[], ◌∷◌}
use Rattle.ide_board.proofs.board.Board.seal.Given as goal

abbrev pub ghosts-add : goal.ghosts-add
ghosts-add g a = record { entry = (a._from.now, a._by) ∷ [] }
