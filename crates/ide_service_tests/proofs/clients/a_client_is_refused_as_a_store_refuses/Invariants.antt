use Rattle.std.proofs.Common.{[]}
use Rattle.std.specs.Arc.{arc_value}
use Rattle.ide_service_tests.proofs.clients.a_client_is_refused_as_a_store_refuses.Given as goal

abbrev pub ghosts-expect : goal.ghosts-expect
ghosts-expect g a = record {
  board = arc_value a.opened.board;
  switches = a.opened.switch.board;
  told = ⊥;
  first = λ _. [];
  version = λ no. absurd no;
}
