use Rattle.std.proofs.Common.{subst, sym}
use Rattle.ide_store.specs.Table.{Analysis}
use Rattle.ide_desks.specs.Stepping.{failed_before}
use Rattle.ide_service.specs.Storing.{IsCommitRefusal, not_stored}
use Rattle.ide_service.proofs.Clients.{seal_ends}
use Rattle.ide_service.proofs.service.Service.take_over.Given.{Over}
use Rattle.ide_service.proofs.service.Service.take_over.Goals as goal

-- the analysis of the store
abbrev kept : (g : Over) → Analysis g.row.P-F.Denot g.row.P-L.Denot
kept g = record {
  lattice = g.P.L.Lattice.algebra;
  functions = g.P.F.EdgeFn.edge;
  targets = g.P.Problem.targets;
  same = g.P.F.PartialEq.eq;
  proper = g.P.F.Wire.proper;
  form = g.P.F.Wire.form;
}

pub returns-in-Err : goal.returns-in-Err
returns-in-Err g c = seal_ends (kept g) _ c.in-Err.refused c.in-Err.ensures.refused

pub returns-in-Err-checkpoint_if_due : goal.returns-in-Err-checkpoint_if_due
returns-in-Err-checkpoint_if_due g c = subst IsCommitRefusal (sym c.in-Err-checkpoint_if_due.ensures) (not_stored failed_before)
