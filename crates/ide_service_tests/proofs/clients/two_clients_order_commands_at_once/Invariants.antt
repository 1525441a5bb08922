use Rattle.std.proofs.Common.{[]}
use Rattle.std.specs.Arc.{arc_value}
use Rattle.ide_service_tests.proofs.clients.two_clients_order_commands_at_once.Given as goal

abbrev pub ghosts-expect_both : goal.ghosts-expect_both
ghosts-expect_both g a = record {
  board = arc_value a.opened.board;
  switches = a.opened.switch.board;
  told = ⊥;
  first = λ _. [];
  version = λ no. absurd no;
}
