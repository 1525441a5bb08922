use Rattle.std.proofs.Common.{◌≡◌, ◌++◌, ap, subst, ◌∙◌}
use Rattle.ide_values.specs.Dump.{Moves}
use Rattle.ide_values.specs.Rows.{lines_of_rows}
use Rattle.ide_values.specs.Values.{dump_of_values}
use Rattle.ide_values.proofs.Pieces.{rest_written, values_lines}
use Rattle.ide_values.proofs.values.Values.write_dump.Goals as goal

pub returns : goal.returns
returns g c =
    let lines = lines_of_rows g.P.L.Lattice.algebra g.P.L.Lattice.shown in
    let contents = g.W.Write.contents in
    let text = dump_of_values g.P.L.Lattice.algebra g.P.L.Lattice.shown c.args.self.now in
    let all : c.in_ok-piece.piece.items ++ lines c.deref.result.now.graph 0 c.node_count.result c.as_slice.result.now ≡ text =
    ap (λ piece. piece ++ lines c.deref.result.now.graph 0 c.node_count.result c.as_slice.result.now) c.in_ok-piece.ensures.items
    ∙ values_lines g.P.L.Lattice.algebra g.P.L.Lattice.shown c.args.self.now c.deref.result.now.graph c.node_count.result c.as_slice.result.now
    (ap (λ loaded. loaded.graph) c.deref.ensures ∙ ap (λ values. values.graph) c.self.view_is)
    c.node_count.ensures.count
    (c.as_slice.ensures.value ∙ ap (λ values. values.values) c.self.view_is) in
    rest_written c.write_rest.result text c.write_nodes.new.piece.items c.deref-2.result.now
    (contents c.args.out.now) (contents c.write_nodes.new.out) (contents c.write_rest.new.out)
    (subst (λ moved. Moves moved c.write_nodes.new.piece.items (contents c.args.out.now) (contents c.write_nodes.new.out)) all c.in_ok-write_nodes.ensures)
    c.deref-2.ensures.value c.write_rest.ensures
