use Rattle.ide_board_tests.proofs.tests.desks.two_locks_agree_on_a_board.Given as goal

abbrev pub ghosts-work : goal.ghosts-work
ghosts-work g a = record { board = a.board.now }
