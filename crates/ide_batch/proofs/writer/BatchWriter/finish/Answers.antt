use Rattle.std.proofs.Common.{arith, ap, refl, ◌∙◌}
use Rattle.ide_batch.specs.Items.{functions_by}
use Rattle.ide_batch.proofs.Writing.{finishes}
use Rattle.ide_batch.proofs.writer.BatchWriter.finish.Goals as goal

pub returns : goal.returns
returns g c =
    record {
      batch = finishes (functions_by g.F.Wire.proper g.F.Wire.form g.F.PartialEq.eq g.F.EdgeFn.edge.all_top)
          (λ f. omega (arith, g.met.F.Wire.at_most_max f, g.met.F.EdgeFn.few_bytes)) c.args.self _
          (λ none. c.if-self-eq0.false (ap (λ w. w.items) c.self.view_is ∙ none)) refl (ap (λ w. w.body) c.self-2.view_is ∙ c.write_counts.ensures);
    }
