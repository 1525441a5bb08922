use Rattle.std.specs.Prelude.{Ok}
use Rattle.std.proofs.Common.{arith, ap}
use Rattle.std.proofs.lemmas.List.{take_all}
use Rattle.ide_batch.specs.Items.{functions_by}
use Rattle.ide_batch.proofs.RecordsSpelled.{batch_made, batch_more, batch_stops}
use Rattle.ide_batch.proofs.raw.batch_to_raw.Goals as goal

pub loop-item-preserved : goal.loop-item-preserved
loop-item-preserved g c =
    batch_more (functions_by g.F.Wire.proper g.F.Wire.form g.F.PartialEq.eq g.F.EdgeFn.edge.all_top) c.args.version c.args.items.now c.loop-item.item-index
    c.item-item.result c.loop-item.writer c.put.new.self c.loop-item-test.true c.item-item.is (c.are_ascending.ensures.0 c.if-not-are_ascending.false)
    c.loop-item.invariant (c.in_ok-put.ensures.puts (ap Ok c.if-not-branch.false))

pub returns-then-not-branch-clause-none : goal.returns-then-not-branch-clause-none
returns-then-not-branch-clause-none g c =
    batch_stops (functions_by g.F.Wire.proper g.F.Wire.form g.F.PartialEq.eq g.F.EdgeFn.edge.all_top) c.args.version c.args.items.now c.loop-item.item-index
    c.item-item.result c.loop-item.writer c.loop-item-test.true c.item-item.is c.loop-item.invariant (c.in_ok-put.ensures.stops (ap Ok c.if-not-branch.true))

pub returns-clause-may : goal.returns-clause-may
returns-clause-may g c =
    (batch_made (functions_by g.F.Wire.proper g.F.Wire.form g.F.PartialEq.eq g.F.EdgeFn.edge.all_top) c.args.version c.args.items.now _ c.loop-item.writer
    c.finish.result (take_all c.loop-item.item-index c.args.items.now (omega arith)) c.loop-item.invariant c.finish.ensures.batch).1

pub returns-clause-none : goal.returns-clause-none
returns-clause-none g c =
    (batch_made (functions_by g.F.Wire.proper g.F.Wire.form g.F.PartialEq.eq g.F.EdgeFn.edge.all_top) c.args.version c.args.items.now _ c.loop-item.writer
    c.finish.result (take_all c.loop-item.item-index c.args.items.now (omega arith)) c.loop-item.invariant c.finish.ensures.batch).2
