use Rattle.std.proofs.Common.{◌≡◌, suc, ◌+◌, Some, arith, sym, ap, ◌∙◌}
use Rattle.ide_pages.specs.Pages.{cell_of}
use Rattle.ide_image.specs.Walk.{jump_behind}
use Rattle.ide_image.proofs.Columns.{cell-behind, found-none}
use Rattle.ide_image.proofs.indexed.Indexed.absent_behind.Goals as goal

pub returns-clause-absent : goal.returns-clause-absent
returns-clause-absent g c =
    let places = c.self.inside.places in
    let behind = jump_behind c.args.node c.args.from c.args.to in
    let within = c.alike_to.ensures.within in
    rw (← c.self.view_is)
    (λ n less.
    let cell : cell_of places (behind (suc n)) ≡ Some (c.in-Some.cell + suc n) =
    cell-behind c.args.node c.args.from c.args.to places c.in-Some.cell (suc n) (sym c.in-Some.ensures) (omega (arith, less, within, c.min-most.ensures)) in
    let same : c.in-Some.cell + suc n ≡ c.in-Some.cell + 1 + n = omega arith in
    let number = (c.alike_to.ensures.alike (c.in-Some.cell + 1 + n) (omega arith) (omega (arith, less))).1 (behind (suc n)) (cell ∙ ap Some same) in
    found-none places c.self.inside.functions.items c.self.invariant.paged (behind (suc n)) (sym number))
