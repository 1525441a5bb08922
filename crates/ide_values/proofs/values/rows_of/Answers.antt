use Rattle.std.proofs.Common.{sym, subst}
use Rattle.ide_values.specs.Fill.{Fills}
use Rattle.ide_values.specs.Settled.{AreStarts}
use Rattle.ide_values.proofs.values.rows_of.Goals as goal

pub returns-clause-values : goal.returns-clause-values
returns-clause-values g c = record {
  starts = c.as_slice.result.now;
  started =
      subst (AreStarts g.P.L.Lattice.algebra g.P.F.EdgeFn.edge g.P.Problem.targets c.args.graph.now c.args.tables.now.table c.args.roots.now)
      (sym c.as_slice.ensures.value) c.in_ok-starts.ensures.starts;
  filled = c.in_ok-values.ensures.filled;
}

pub returns-clause-follow : goal.returns-clause-follow
returns-clause-follow g c =
    c.in_ok-starts.ensures.lead c.in_ok-values.values.items
    (subst (λ starts. Fills g.P.L.Lattice.algebra g.P.F.EdgeFn.edge c.args.graph.now c.args.tables.now.table starts c.in_ok-values.values.items)
    c.as_slice.ensures.value c.in_ok-values.ensures.filled)
