use Rattle.std.proofs.Common.{ap, Ok}
use Rattle.ide_batch.specs.Items.{functions_by}
use Rattle.ide_batch.proofs.RecordsSpelled.{all_came, batch_made, coming_more, coming_stops}
use Rattle.ide_batch.proofs.raw.spell_changed.Goals as goal

pub loop-item-preserved : goal.loop-item-preserved
loop-item-preserved g c =
    coming_more (functions_by g.F.Wire.proper g.F.Wire.form g.F.PartialEq.eq g.F.EdgeFn.edge.all_top) c.args.version c.args.changed
    c.loop-item.invariant.0 c.loop-item.item-iterator c.loop-item.invariant.1 c.in-Some.item c.next.new.self c.loop-item.writer c.put.new.self
    c.in-Some.ensures.steps c.requires.ascending c.loop-item.invariant.2 (c.in_ok-put.ensures.puts (ap Ok c.if-not-branch.false))

pub returns-then-not-branch-clause-none : goal.returns-then-not-branch-clause-none
returns-then-not-branch-clause-none g c =
    coming_stops (functions_by g.F.Wire.proper g.F.Wire.form g.F.PartialEq.eq g.F.EdgeFn.edge.all_top) c.args.version c.args.changed
    c.loop-item.invariant.0 c.loop-item.item-iterator c.loop-item.invariant.1 c.in-Some.item c.next.new.self c.loop-item.writer
    c.in-Some.ensures.steps c.loop-item.invariant.2 (c.in_ok-put.ensures.stops (ap Ok c.if-not-branch.true))

pub returns-clause-may : goal.returns-clause-may
returns-clause-may g c =
    let forms = functions_by g.F.Wire.proper g.F.Wire.form g.F.PartialEq.eq g.F.EdgeFn.edge.all_top in
    let taken = c.loop-item.invariant.0 in
    let all = all_came forms c.args.version c.args.changed taken c.loop-item.item-iterator c.loop-item.invariant.1 c.in-None.ensures.steps.0 in
    (batch_made forms c.args.version c.args.changed taken c.loop-item.writer c.finish.result all c.loop-item.invariant.2 c.finish.ensures.batch).1
