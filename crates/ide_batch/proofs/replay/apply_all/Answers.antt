use Rattle.std.specs.Prelude.{List}
use Rattle.std.proofs.Common.{arith, rules, subst}
use Rattle.std.proofs.lemmas.List.{take_all}
use Rattle.ide_journal.specs.Lists.{entries_of}
use Rattle.ide_journal.specs.declared.record.RawRecord.{RawRecord}
use Rattle.ide_batch.specs.AppliedAll.{AreApplied}
use Rattle.ide_batch.specs.Items.{functions_by}
use Rattle.ide_batch.proofs.ApplyingAll.{applied_next, lead_over, stops_at}
use Rattle.ide_batch.proofs.replay.apply_all.Goals as goal

pub returns-in_err-apply-clause-refused : goal.returns-in_err-apply-clause-refused
returns-in_err-apply-clause-refused g c =
    stops_at (functions_by g.P.F.Wire.proper g.P.F.Wire.form g.P.F.PartialEq.eq g.P.F.EdgeFn.edge.all_top) c.args.version g.P.F.EdgeFn.edge g.P.F.PartialEq.eq
    c.from_residual.result c.args.records.now c.loop-n.n c.index-records-n.result c.args.core.now c.loop-n.core c.apply.new.core
    (omega arith) c.index-records-n.is c.loop-n.invariant.applied (search rules)

pub loop-n-preserved : goal.loop-n-preserved
loop-n-preserved g c = record {
  applied = applied_next (functions_by g.P.F.Wire.proper g.P.F.Wire.form g.P.F.PartialEq.eq g.P.F.EdgeFn.edge.all_top) c.args.version g.P.F.EdgeFn.edge g.P.F.PartialEq.eq
      c.args.records.now c.loop-n.n c.index-records-n.result c.args.core.now c.loop-n.core c.apply.new.core
      (omega arith) c.index-records-n.is c.loop-n.invariant.applied c.in_ok-apply.ensures.applied;
  free = c.in_ok-apply.ensures.free;
}

pub returns-clause-leads : goal.returns-clause-leads
returns-clause-leads g c =
    lead_over (functions_by g.P.F.Wire.proper g.P.F.Wire.form g.P.F.PartialEq.eq g.P.F.EdgeFn.edge.all_top) c.args.version g.P.F.EdgeFn.edge g.P.F.PartialEq.eq
    (entries_of c.args.records.now) c.args.core.now c.loop-n.core
    (subst (λ (rs : List RawRecord). AreApplied (functions_by g.P.F.Wire.proper g.P.F.Wire.form g.P.F.PartialEq.eq g.P.F.EdgeFn.edge.all_top) c.args.version g.P.F.EdgeFn.edge g.P.F.PartialEq.eq
    (entries_of rs) c.args.core.now c.loop-n.core) (take_all c.loop-n.n c.args.records.now (omega arith)) c.loop-n.invariant.applied)
