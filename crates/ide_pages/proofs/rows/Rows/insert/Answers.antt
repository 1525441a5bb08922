use Rattle.std.proofs.Common.{ap, ◌∙◌, Some, ◌&&◌}
use Rattle.std.specs.Prelude.{nat_eq, if◌then◌else◌}
use Rattle.ide_pages.specs.Rows.{page_in, row_at}
use Rattle.ide_pages.proofs.RowsByNumber.{rows-written}
use Rattle.ide_pages.proofs.rows.Rows.insert.Goals as goal

pub returns-clause-lists : goal.returns-clause-lists
returns-clause-lists c = λ r d.
    let i = c.self.inside in
    rows-written i.numbers.keys i.rows.items c.insert_in.new.rows.items c.args.number c.in_ok-index.index c.args.fact c.args.page
    (rw (← c.self.view_is) at c.in_ok-index.ensures.index) c.in_ok-insert_in.ensures.lists c.in_ok-insert_in.ensures.others r d
    ∙ ap (λ row. if nat_eq c.args.number r && nat_eq c.args.fact d then Some c.args.page else page_in row d)
    (ap (λ rows. row_at rows r) c.self.view_is ∙ c.in_ok-index.ensures.rows r)
