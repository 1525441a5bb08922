use Rattle.std.proofs.Common.{◌≡◌, ◌+◌, ◌*◌, ◌++◌, ◌∙◌, ap, length, rules}
use Rattle.ide_graph.specs.Supergraph.{Supergraph}
use Rattle.ide_values.specs.Columns.{ColumnsData}
use Rattle.ide_values.specs.Lines.{columns_in, lines_with, line_tail}
use Rattle.ide_values.specs.Rows.{lines_in_row}
use Rattle.ide_values.specs.Start.{at_place}
use Rattle.ide_values.proofs.Lines.{OnErr-kept, OnOk-appended}
use Rattle.ide_values.proofs.Told.{all_told}
use Rattle.ide_values.proofs.columns.Columns.append_lines.Goals as goal

pub returns-clause-text : goal.returns-clause-text
returns-clause-text g c =
    let A = g.L.Lattice.algebra in
    let shown = g.L.Lattice.shown in
    let graph = c.turn_to.new.self.graph in
    let lines = c.turn_to.new.self.lines in
    let columns = columns_in lines.facts.items in
    let told = c.in_ok-turn_to.ensures.told in
    let facts : c.fact_count.result ≡ graph.facts = search rules in
    let text : c.deref.result.now ≡ lines.text.items =
    c.deref.ensures.value ∙ ap (λ (d : ColumnsData g.row.L.Denot). d.lines.text.items) c.self-2.view_is in
    let same : lines.text.items ≡ lines_with lines.stem.items (line_tail shown columns (λ k. at_place A c.args.rows.now (c.args.row * graph.facts + k))) 0 (length columns) =
    told.tell.lines.is
    ∙ ap (λ n. lines_with lines.stem.items (line_tail shown columns (λ k. at_place A c.args.rows.now (c.args.row * n + k))) 0 (length lines.told.items)) facts
    ∙ ap (lines_with lines.stem.items (line_tail shown columns (λ k. at_place A c.args.rows.now (c.args.row * graph.facts + k))) 0) told.tell.count in
    OnOk-appended c.extend_from_slice.result _ c.args.out.now.items c.deref.result.now c.extend_from_slice.new.self.items c.extend_from_slice.ensures.items
    (λ is.
    is
    ∙ ap (λ l. c.args.out.now.items ++ l)
    (text ∙ same
    ∙ all_told A shown graph lines.stem.items columns c.args.rows.now c.args.row c.args.node c.in_ok-turn_to.ensures.columns told.stem
    ∙ ap (λ (g : Supergraph). lines_in_row A shown g c.args.rows.now c.args.row c.args.node) c.in_ok-turn_to.ensures.graph))

pub returns-clause-extends : goal.returns-clause-extends
returns-clause-extends g c = OnErr-kept c.extend_from_slice.result c.args.out.now.items c.deref.result.now c.extend_from_slice.new.self.items c.extend_from_slice.ensures.items
