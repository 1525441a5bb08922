-- What a store has that was opened with a board.
use Rattle.std.specs.Arc.{arc_value}
use Rattle.atomic_table.specs.Seated.{TableId}
use Rattle.ide_bench.specs.declared.stores.OpenedStore.{OpenedStore}
use Rattle.ide_bench.specs.declared.stores.OpenedStore.TheVariants.{Copies, Dear}

-- the board of its seats
abbrev pub run_board : OpenedStore → TableId
run_board (Copies opened) = arc_value opened.board
run_board (Dear opened) = arc_value opened.board

-- the board on which both desks note that a checkpoint began
abbrev pub run_switches : OpenedStore → TableId
run_switches (Copies opened) = opened.switch.board
run_switches (Dear opened) = opened.switch.board
