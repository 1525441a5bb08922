use Rattle.std.proofs.Common.{arith}
use Rattle.std.proofs.lemmas.Grind.{common_steps}
use Rattle.ide_batch.specs.Items.{functions_by}
use Rattle.ide_batch.proofs.Writing.{puts, stops}
use Rattle.ide_batch.proofs.writer.BatchWriter.put.Goals as goal

pub returns-then-not-may_follow-clause-stops : goal.returns-then-not-may_follow-clause-stops
returns-then-not-may_follow-clause-stops g c same =
    stops (functions_by g.F.Wire.proper g.F.Wire.form g.F.PartialEq.eq g.F.EdgeFn.edge.all_top) c.args.item c.args.self.now
    (λ may. let yes = c.may_follow.ensures.1 may in grind (arith, common_steps, yes))

pub returns-clause-puts : goal.returns-clause-puts
returns-clause-puts g c same =
    puts (functions_by g.F.Wire.proper g.F.Wire.form g.F.PartialEq.eq g.F.EdgeFn.edge.all_top) c.args.version c.args.item _ c.args.self.now c.append.new.self
    (c.may_follow.ensures.0 (grind (arith, common_steps))) c.self.view_is c.in_ok-append.ensures
