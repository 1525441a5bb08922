use Rattle.std.proofs.Common.{[], ◌∷◌}
use Rattle.ide_board_tests.proofs.tests.row.two_clients_read_what_is_stored.Given as goal

abbrev pub ghosts-new : goal.ghosts-new
ghosts-new g a = record { records = 0 ∷ 0 ∷ 0 ∷ [] }
