use Rattle.ide_batch.specs.Items.{functions_by}
use Rattle.ide_batch.specs.FormLaws.{no_member}
use Rattle.ide_batch.proofs.members.Tuple4FactFactBoolCoded.front.Goals as goal

pub returns-in_default-clause-none : goal.returns-in_default-clause-none
returns-in_default-clause-none g c =
    no_member (functions_by g.F.Wire.proper g.F.Wire.form g.F.PartialEq.eq g.F.EdgeFn.edge.all_top) g.met.F.Wire.prefix_free
    c.args.bytes.now c.in_ok-first.first c.in_ok-second.second c.in_ok-first.behind.now c.in_ok-second.rest.now
    c.in_ok-first.ensures.proper c.in_ok-second.ensures.proper c.in_ok-first.ensures.found c.in_ok-second.ensures.found c.in_default.ensures.none
