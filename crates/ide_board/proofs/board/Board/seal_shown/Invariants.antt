use Rattle.std.proofs.Common.{[], ◌∷◌}
use Rattle.ide_board.proofs.board.Board.seal_shown.Given as goal

abbrev pub ghosts-add : goal.ghosts-add
ghosts-add g a = record { entry = (g.S.Shows.shown a._from.now, a._by) ∷ [] }
