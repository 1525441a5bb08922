use Rattle.std.proofs.Common.{sym, arith}
use Rattle.ide_pages.proofs.KeyCells.{cell-back}
use Rattle.ide_image.proofs.Columns.{function-none, length-cells, place-nowhere, place-there}
use Rattle.ide_image.proofs.indexed.Indexed.place.Goals as goal

pub returns-in-Some-clause-place : goal.returns-in-Some-clause-place
returns-in-Some-clause-place g c =
    let there = place-there c.self.inside.places c.self.inside.functions.items c.self.invariant.paged c.args.key c.in-Some.cell (sym c.in-Some.ensures) in
    rw (← c.self.view_is) (omega (arith, there))

pub returns-in-Some-clause-within : goal.returns-in-Some-clause-within
returns-in-Some-clause-within g c =
    let within = (cell-back c.self.inside.places.pages c.args.key c.in-Some.cell (sym c.in-Some.ensures)).1 in
    let long = length-cells c.self.inside.places c.self.inside.functions.items in
    rw (← c.self.view_is) (omega (arith, within, long))

pub returns-in-None-clause-place : goal.returns-in-None-clause-place
returns-in-None-clause-place g c =
    rw (← c.self.view_is)
    (sym (place-nowhere c.self.inside.places c.self.inside.functions.items c.self.invariant.paged c.args.key (sym c.in-None.ensures)))

pub returns-in-None-clause-absent : goal.returns-in-None-clause-absent
returns-in-None-clause-absent g c =
    let paged = c.self.invariant.paged in
    rw (← c.self.view_is)
    (λ _. function-none c.self.inside.places c.self.inside.functions.items paged c.args.key (paged.absent c.args.key (sym c.in-None.ensures)))

pub returns-in-Some-clause-few : goal.returns-in-Some-clause-few
returns-in-Some-clause-few g c =
    let within = (cell-back c.self.inside.places.pages c.args.key c.in-Some.cell (sym c.in-Some.ensures)).1 in
    omega (arith, within, c.self.invariant.few)
