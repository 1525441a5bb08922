use Rattle.ide_image.proofs.Columns.{cell-at, distinct-cells, kept-fits, put-in, put-indexed}
use Rattle.ide_image.proofs.indexed.Indexed.put.Goals as goal

pub set-requires-clause-fits : goal.set-requires-clause-fits
set-requires-clause-fits g c =
    let keep = c.keep_likely-index.ensures in
    kept-fits c.self.inside.functions.items c.keep_likely-index.new.self.items c.args.function c.keep_likely-index.result c.self.inside.functions.room c.self.inside.places.most
    keep.others keep.kept (rw (← c.self.view_is) at c.requires.room)

pub set-requires-clause-cell : goal.set-requires-clause-cell
set-requires-clause-cell g c =
    cell-at c.self.inside.places c.self.inside.functions.items c.self.invariant.paged c.args.key c.args.cell (rw (← c.self.view_is) at c.requires.cell)

pub invariant_of-self : goal.invariant_of-self
invariant_of-self g c =
    let is = cell-at c.self.inside.places c.self.inside.functions.items c.self.invariant.paged c.args.key c.args.cell (rw (← c.self.view_is) at c.requires.cell) in
    let keep = c.keep_likely-index.ensures in
    put-indexed c.self.inside.places c.set.new.self c.self.inside.functions.items c.keep_likely-index.new.self.items c.args.key c.args.cell c.keep_likely-index.result c.args.function
    c.self.invariant is keep.others keep.kept c.set.ensures.puts c.cell_count.ensures.paged

pub returns-clause-cells : goal.returns-clause-cells
returns-clause-cells g c =
    let is = cell-at c.self.inside.places c.self.inside.functions.items c.self.invariant.paged c.args.key c.args.cell (rw (← c.self.view_is) at c.requires.cell) in
    let keep = c.keep_likely-index.ensures in
    rw (← c.self.view_is)
    (put-in c.self.inside.places c.set.new.self c.self.inside.functions.items c.keep_likely-index.new.self.items c.args.key c.args.cell c.keep_likely-index.result c.args.function
    c.self.invariant is keep.others keep.kept c.set.ensures.puts)

pub returns-clause-distinct : goal.returns-clause-distinct
returns-clause-distinct g c = rw (← c.self.view_is) (distinct-cells c.self.inside.places c.self.inside.functions.items c.self.invariant.paged)
