use Rattle.std.proofs.Common.{subst, sym}
use Rattle.ide_store.specs.Table.{Analysis}
use Rattle.ide_service.specs.Refusing.{HalfRefuses, to_part}
use Rattle.ide_service.proofs.desk.TableDeskHands.parts.Given.{Over}
use Rattle.ide_service.proofs.desk.TableDeskHands.parts.Goals as goal

-- the analysis of the store
abbrev kept : (g : Over) → Analysis g.row.P-F.Denot g.row.P-L.Denot
kept g = record {
  lattice = g.P.L.Lattice.algebra;
  functions = g.P.F.EdgeFn.edge;
  targets = g.P.Problem.targets;
  same = g.P.F.PartialEq.eq;
  proper = g.P.F.Wire.proper;
  form = g.P.F.Wire.form;
}

pub returns-in-Err-clause-cause : goal.returns-in-Err-clause-cause
returns-in-Err-clause-cause g c = (
  c.loop-count.self,
  subst (λ w. HalfRefuses (kept g) c.loop-count.self.half (to_part c.args.hand w) c.in-Err.refused) (sym c.in-Err.ensures.unchanged.1) c.in-Err.ensures.refused,
)
