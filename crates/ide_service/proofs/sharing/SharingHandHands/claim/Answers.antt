use Rattle.ide_store.specs.Table.{Analysis}
use Rattle.ide_service.proofs.Loops.{loop_own}
use Rattle.ide_service.proofs.sharing.SharingHandHands.claim.Given.{Over}
use Rattle.ide_service.proofs.sharing.SharingHandHands.claim.Goals as goal

-- the analysis of the store
abbrev kept : (g : Over) → Analysis g.row.P-F.Denot g.row.P-L.Denot
kept g = record {
  lattice = g.P.L.Lattice.algebra;
  functions = g.P.F.EdgeFn.edge;
  targets = g.P.Problem.targets;
  same = g.P.F.PartialEq.eq;
  proper = g.P.F.Wire.proper;
  form = g.P.F.Wire.form;
}

pub returns-clause-cause : goal.returns-clause-cause
returns-clause-cause g c = loop_own (kept g) _ c.args.hand (λ desk. desk.half) _ c.in-Err.ensures.refused
