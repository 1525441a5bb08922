use Rattle.std.proofs.Common.{◌+◌, ap, ◌∙◌, arith, length}
use Rattle.std.proofs.lemmas.Option.{slice_get_within}
use Rattle.ide_pages.proofs.KeyCells.{cell-back}
use Rattle.ide_wire.specs.declared.key.Key.TheVariants.{Jump}
use Rattle.ide_image.specs.Walk.{jump_behind, with_walked}
use Rattle.ide_image.proofs.Columns.{absent-run, cell-at, cell-behind, distinct-cells, kept-fits, kept-long, kept-next, place-there, run-kept, run-pages, run-walked, run-within, same-kept, slots-long}
use Rattle.ide_image.proofs.indexed.Indexed.put_behind.Goals as goal

pub overflow_add-cell : goal.overflow_add-cell
overflow_add-cell g c =
    let is = cell-at c.self.inside.places c.self.inside.functions.items c.self.invariant.paged (Jump c.args.node c.args.from c.args.to) c.args.cell (rw (← c.self.view_is) at c.requires.cell) in
    let within = (cell-back c.self.inside.places.pages (Jump c.args.node c.args.from c.args.to) c.args.cell is).1 in
    let few = c.self.invariant.few in
    omega (arith, within, few)

pub set_run-requires-clause-there : goal.set_run-requires-clause-there
set_run-requires-clause-there g c =
    let numbers = c.self.inside.places in
    let functions = c.self.inside.functions.items in
    let paged = c.self.invariant.paged in
    let is = cell-at numbers functions paged (Jump c.args.node c.args.from c.args.to) c.args.cell (rw (← c.self.view_is) at c.requires.cell) in
    run-within c.args.node c.args.from c.args.to numbers c.args.cell c.args.count (slots-long numbers functions paged) is c.requires.page

pub set_run-requires-clause-absent : goal.set_run-requires-clause-absent
set_run-requires-clause-absent g c = λ n less.
    let numbers = c.self.inside.places in
    let functions = c.self.inside.functions.items in
    let paged = c.self.invariant.paged in
    let is = cell-at numbers functions paged (Jump c.args.node c.args.from c.args.to) c.args.cell (rw (← c.self.view_is) at c.requires.cell) in
    absent-run c.args.node c.args.from c.args.to numbers functions paged c.args.cell c.args.count is c.requires.page c.self.invariant.kept (rw (← c.self.view_is) at c.requires.absent) n less

pub set_run-requires-clause-fits : goal.set_run-requires-clause-fits
set_run-requires-clause-fits g c =
    let keep = c.keep_likely-number.ensures in
    kept-fits c.self.inside.functions.items c.keep_likely-number.new.self.items c.args.function c.keep_likely-number.result c.self.inside.functions.room c.self.inside.places.most
    keep.others keep.kept (rw (← c.self.view_is) at c.requires.room)

pub invariant_of-self : goal.invariant_of-self
invariant_of-self g c =
    let numbers = c.self.inside.places in
    let functions = c.self.inside.functions.items in
    let after = c.keep_likely-number.new.self.items in
    let keep = c.keep_likely-number.ensures in
    let are = c.self.invariant in
    let is = cell-at numbers functions are.paged (Jump c.args.node c.args.from c.args.to) c.args.cell (rw (← c.self.view_is) at c.requires.cell) in
    let there = kept-next after c.keep_likely-number.result c.args.function keep.kept in
    let within = slice_get_within after c.keep_likely-number.result c.args.function keep.kept in
    let more = kept-long functions after c.args.function keep.others in
    let few = are.few in
    let puts = c.set_run.ensures.puts in
    let long = ap length (run-pages c.args.node c.args.from c.args.to numbers after are.paged.own c.args.cell c.args.count (c.keep_likely-number.result + 1) c.args.function is c.requires.page there c.args.count c.set_run.new.self (omega arith) puts) in
    record {
      paged = c.cell_count.ensures.paged;
      kept =
          run-kept c.args.node c.args.from c.args.to numbers after are.paged.own c.args.cell c.args.count (c.keep_likely-number.result + 1) c.args.function is c.requires.page there
          (omega (arith, within)) (λ key. let one = are.kept key in omega (arith, one, more)) c.args.count c.set_run.new.self (omega arith) puts;
      few = omega (arith, few, long);
    }

pub returns-clause-cells : goal.returns-clause-cells
returns-clause-cells g c =
    let numbers = c.self.inside.places in
    let functions = c.self.inside.functions.items in
    let after = c.keep_likely-number.new.self.items in
    let keep = c.keep_likely-number.ensures in
    let are = c.self.invariant in
    let is = cell-at numbers functions are.paged (Jump c.args.node c.args.from c.args.to) c.args.cell (rw (← c.self.view_is) at c.requires.cell) in
    let there = kept-next after c.keep_likely-number.result c.args.function keep.kept in
    rw (← c.self.view_is)
    (run-walked c.args.node c.args.from c.args.to numbers after are.paged.own c.args.cell c.args.count (c.keep_likely-number.result + 1) c.args.function is c.requires.page there
    c.args.count c.set_run.new.self (omega arith) c.set_run.ensures.puts
    ∙ ap (λ cells. with_walked cells (jump_behind c.args.node c.args.from c.args.to) c.args.function c.args.count) (same-kept numbers functions after c.args.function keep.others are.kept))

pub returns-clause-stands : goal.returns-clause-stands
returns-clause-stands g c =
    let numbers = c.self.inside.places in
    let functions = c.self.inside.functions.items in
    let paged = c.self.invariant.paged in
    let is = cell-at numbers functions paged (Jump c.args.node c.args.from c.args.to) c.args.cell (rw (← c.self.view_is) at c.requires.cell) in
    rw (← c.self.view_is)
    (λ n few.
    let behind = jump_behind c.args.node c.args.from c.args.to n in
    let there = place-there numbers functions paged behind (c.args.cell + n)
    (cell-behind c.args.node c.args.from c.args.to numbers c.args.cell n is (omega (arith, few, c.requires.page))) in
    omega (arith, there))

pub returns-clause-distinct : goal.returns-clause-distinct
returns-clause-distinct g c = rw (← c.self.view_is) (distinct-cells c.self.inside.places c.self.inside.functions.items c.self.invariant.paged)
