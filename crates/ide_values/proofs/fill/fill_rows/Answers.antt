use Rattle.std.proofs.Common.{◌≡◌, ◌+◌, ◌-◌, ◌*◌, ◌/◌, ◌<◌, ◌≤◌, ◌∙◌, length, refl, subst, sym, arith}
use Rattle.ide_values.specs.Fill.{IsFilledBy}
use Rattle.ide_values.proofs.Filled.{all_filled, none_filled, passed_pages}
use Rattle.ide_values.proofs.fill.fill_rows.Goals as goal

pub loop-page-init : goal.loop-page-init
loop-page-init g c =
    let A = g.F.L.Lattice.algebra in
    let B = g.F.EdgeFn.edge in
    let more = c.whole_rows-more.result in
    let next = c.next_page-page in
    record {
      count = refl;
      stretches = c.unscanned-stretches.ensures;
      filled =
          passed_pages A B c.args.graph.now c.args.tables.now c.args.starts.now c.args.first c.cell_count-pages.ensures.shown c.args.rows.now more c.whole_rows-more.ensures
          0 next.result (c.args.first / 64) (c.args.first / 64 + more / 64 + 2) next.ensures.from (omega arith) (omega arith) next.ensures.others
          (none_filled A B c.args.graph.now c.args.tables.now c.args.starts.now c.args.first c.args.rows.now c.requires);
    }

pub fill_page-requires-clause-few : goal.fill_page-requires-clause-few
fill_page-requires-clause-few g c =
    subst (λ count. 0 < c.args.graph.now.facts → count < (c.whole_rows-more.result + 1) * c.args.graph.now.facts) (sym c.loop-page.invariant.count) c.whole_rows-more.ensures

pub loop-page-preserved : goal.loop-page-preserved
loop-page-preserved g c =
    let A = g.F.L.Lattice.algebra in
    let B = g.F.EdgeFn.edge in
    let more = c.whole_rows-more.result in
    let page = c.loop-page.page in
    let next = c.next_page-page-in-loop-page in
    let same = c.fill_page.ensures.count ∙ c.loop-page.invariant.count in
    let behind : 64 * page + 64 ≡ 64 * (page + 1) = omega arith in
    record {
      count = same;
      stretches = c.fill_page.ensures.stretches;
      filled =
          passed_pages A B c.args.graph.now c.args.tables.now c.args.starts.now c.args.first c.cell_count-pages.ensures.shown c.fill_page.new.rows more
          (subst (λ count. 0 < c.args.graph.now.facts → count < (more + 1) * c.args.graph.now.facts) (sym same) c.whole_rows-more.ensures)
          (page + 1) next.result (c.args.first / 64) (c.args.first / 64 + more / 64 + 2) next.ensures.from (omega arith) (omega arith) next.ensures.others
          (subst (λ n. IsFilledBy A B c.args.graph.now c.args.tables.now c.args.starts.now c.args.first n c.fill_page.new.rows) behind c.fill_page.ensures.filled);
    }

pub returns-clause-filled : goal.returns-clause-filled
returns-clause-filled g c =
    let count = c.cell_count-pages.ensures.count in
    let pages = c.cell_count-pages.ensures.pages in
    let past : length c.args.tables.now.cells ≤ 64 * c.loop-page.page = omega (arith, count, pages, c.loop-page-test.false) in
    all_filled g.F.L.Lattice.algebra g.F.EdgeFn.edge c.args.graph.now c.args.tables.now c.args.starts.now c.args.first
    g.met.F.L.Lattice.lawful g.met.F.EdgeFn.lawful c.cell_count-pages.ensures.shown (64 * c.loop-page.page) c.loop-page.rows past c.loop-page.invariant.filled
