use Rattle.std.proofs.Common.{◌≡◌, ◌*◌, ◌∙◌, ap, ap₂, length, subst, sym}
use Rattle.std.proofs.lemmas.List.{with_items_is}
use Rattle.ide_values.specs.Fill.{Fills}
use Rattle.ide_values.proofs.Parts.{all_from}
use Rattle.ide_values.proofs.shared_fill.fill_by.Goals as goal

pub returns-clause-filled : goal.returns-clause-filled
returns-clause-filled g c =
    let rows = c.fill_nodes.new.rows in
    let was : length c.as_mut_slice.result.now ≡ c.args.graph.now.nodes * c.args.graph.now.facts =
    ap length c.as_mut_slice.ensures.value ∙ c.in_ok-values.ensures.count ∙ ap₂ ◌*◌ c.node_count.ensures.count c.fact_count.ensures.count in
    subst (Fills g.F.L.Lattice.algebra g.F.EdgeFn.edge c.args.graph.now c.args.tables.now.table c.args.starts.now)
    (sym (with_items_is c.in_ok-values.values rows (c.fill_nodes.ensures.count ∙ c.as_mut_slice.ensures.len)))
    (all_from g.F.L.Lattice.algebra g.F.EdgeFn.edge c.args.graph.now c.args.tables.now.table c.args.starts.now rows (c.fill_nodes.ensures.count ∙ was) c.fill_nodes.ensures.filled)
