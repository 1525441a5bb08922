use Rattle.ide_batch.specs.Items.{functions_by}
use Rattle.ide_batch.specs.FormLaws.{no_item}
use Rattle.ide_batch.proofs.entry.Tuple3KeyBoolCoded.front.Goals as goal

pub returns-in_default-clause-none : goal.returns-in_default-clause-none
returns-in_default-clause-none g c =
    no_item (functions_by g.F.Wire.proper g.F.Wire.form g.F.PartialEq.eq g.F.EdgeFn.edge.all_top) g.met.F.Wire.prefix_free
    c.args.bytes.now c.in_ok-key.key c.in_ok-key.rest.now c.in_ok-key.ensures.proper c.in_ok-key.ensures.found c.in_default.ensures.none
