use Rattle.std.proofs.Common.{ℕ, ◌+◌, subst}
use Rattle.ide_values.specs.Fill.{FillsFrom}
use Rattle.ide_values.proofs.Workers.{range_full}
use Rattle.ide_values.proofs.shared_fill.SharedFillRangesL.fill.Goals as goal

pub returns : goal.returns
returns g c =
    let s = c.args.self.now in
    range_full g.F.L.Lattice.algebra g.F.EdgeFn.edge s.graph.now s.tables.now.table s.starts.now s.first s.nodes s.workers (record { some = s.some; most = s.most })
    c.args.worker c.args.rows.now c.fill_rows.new.rows c.requires c.fill_rows.ensures.count
    (subst (λ (n : ℕ). FillsFrom g.F.L.Lattice.algebra g.F.EdgeFn.edge s.graph.now s.tables.now.table s.starts.now (s.first + n) c.fill_rows.new.rows) c.nodes_before.ensures.nodes
    c.fill_rows.ensures.filled)
