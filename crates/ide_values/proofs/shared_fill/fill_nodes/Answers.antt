use Rattle.std.proofs.Common.{sym, ◌∙◌}
use Rattle.ide_values.proofs.Workers.{full_count, full_fills, tops_to_fill}
use Rattle.ide_values.proofs.shared_fill.fill_nodes.Goals as goal

pub fill_shared-requires-after_bounds : goal.fill_shared-requires-after_bounds
fill_shared-requires-after_bounds g c κs within =
    tops_to_fill g.F.L.Lattice.algebra g.F.EdgeFn.edge c.args.graph.now c.args.tables.now.table c.args.starts.now c.args.first c.args.nodes c.args.workers c.requires.workers
    c.args.rows.now c.requires.count c.requires.tops

pub returns-clause-filled : goal.returns-clause-filled
returns-clause-filled g c =
    full_fills g.F.L.Lattice.algebra g.F.EdgeFn.edge c.args.graph.now c.args.tables.now.table c.args.starts.now c.args.first c.args.nodes c.args.workers c.requires.workers
    c.fill_shared.new.rows c.fill_shared.ensures

pub returns-clause-count : goal.returns-clause-count
returns-clause-count g c =
    full_count g.F.L.Lattice.algebra g.F.EdgeFn.edge c.args.graph.now c.args.tables.now.table c.args.starts.now c.args.first c.args.nodes c.args.workers c.requires.workers
    c.fill_shared.new.rows c.fill_shared.ensures ∙ sym c.requires.count
