use Rattle.ide_store.specs.Table.{Analysis}
use Rattle.ide_service.proofs.Loops.{if_err, span_own}
use Rattle.ide_service.proofs.service.Service.exchange.Given.{Over}
use Rattle.ide_service.proofs.service.Service.exchange.Goals as goal

-- the analysis of the store
abbrev kept : (g : Over) → Analysis g.row.P-F.Denot g.row.P-L.Denot
kept g = record {
  lattice = g.P.L.Lattice.algebra;
  functions = g.P.F.EdgeFn.edge;
  targets = g.P.Problem.targets;
  same = g.P.F.PartialEq.eq;
  proper = g.P.F.Wire.proper;
  form = g.P.F.Wire.form;
}

pub returns : goal.returns
returns g c = if_err c.exchange.result _ _ (span_own (kept g) (λ desk. desk.half) c.args.span) c.exchange.ensures.refused
