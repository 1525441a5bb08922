-- What a store has that was opened with a board.
use Rattle.std.specs.Arc.{arc_value}
use Rattle.atomic_table.specs.Seated.{TableId}
use Rattle.ide_cli.specs.declared.working.OpenedStore.{OpenedStore}
use Rattle.ide_cli.specs.declared.working.OpenedStore.TheVariants.{Uninit, Copy, Shift}

-- the board of its seats
abbrev pub board_of : OpenedStore → TableId
board_of (Uninit opened) = arc_value opened.board
board_of (Copy opened) = arc_value opened.board
board_of (Shift opened) = arc_value opened.board

-- the board on which both desks note that a checkpoint began
abbrev pub switches_of : OpenedStore → TableId
switches_of (Uninit opened) = opened.switch.board
switches_of (Copy opened) = opened.switch.board
switches_of (Shift opened) = opened.switch.board
