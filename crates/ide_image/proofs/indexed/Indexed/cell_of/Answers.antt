use Rattle.std.proofs.Common.{◌<◌, sym, arith}
use Rattle.ide_image.specs.Tables.{place_in}
use Rattle.ide_image.specs.Indexed.{cells_by}
use Rattle.ide_pages.proofs.KeyCells.{cell-back}
use Rattle.ide_image.proofs.Columns.{place-nowhere, place-there}
use Rattle.ide_image.proofs.indexed.Indexed.cell_of.Goals as goal

pub unreachable-requires : goal.unreachable-requires
unreachable-requires g c =
    let has : 0 < place_in c.args.key (cells_by c.self.inside.places c.self.inside.functions.items) = rw (← c.self.view_is) at c.requires.cell in
    let nowhere = place-nowhere c.self.inside.places c.self.inside.functions.items c.self.invariant.paged c.args.key (sym c.in-None.ensures) in
    omega (arith, has, nowhere)

pub returns-clause-place : goal.returns-clause-place
returns-clause-place g c =
    let there = place-there c.self.inside.places c.self.inside.functions.items c.self.invariant.paged c.args.key c.in-Some.cell (sym c.in-Some.ensures) in
    rw (← c.self.view_is) (omega (arith, there))

pub returns-clause-few : goal.returns-clause-few
returns-clause-few g c =
    let within = (cell-back c.self.inside.places.pages c.args.key c.in-Some.cell (sym c.in-Some.ensures)).1 in
    omega (arith, within, c.self.invariant.few)
