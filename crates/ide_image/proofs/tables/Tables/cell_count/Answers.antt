use Rattle.std.proofs.Common.{sym, ◌∙◌}
use Rattle.std.proofs.lemmas.List.{length-map}
use Rattle.ide_image.specs.Indexed.{entry_of_cell}
use Rattle.ide_image.proofs.Columns.{show-table}
use Rattle.ide_image.proofs.tables.Tables.cell_count.Goals as goal

pub returns-clause-count : goal.returns-clause-count
returns-clause-count g c =
    rw (← c.self.view_is) (c.cell_count.ensures.count ∙ sym (length-map c.self.inside.indexed.cells entry_of_cell))

pub returns-clause-shown : goal.returns-clause-shown
returns-clause-shown g c = rw (← c.self.view_is) (show-table c.self.inside.indexed.cells c.cell_count.ensures.distinct)
