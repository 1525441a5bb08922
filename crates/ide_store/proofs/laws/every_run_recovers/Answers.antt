use Rattle.ide_batch.specs.Items.{functions_by}
use Rattle.ide_store.proofs.Machine.{machine_is_exact}
use Rattle.ide_store.proofs.OneVersion.{one_disk_in_version}
use Rattle.ide_store.proofs.World.{every_run_recovers}
use Rattle.ide_store.specs.Machine.{machine}
use Rattle.ide_store.proofs.laws.every_run_recovers.Goals as goal

pub returns : goal.returns
returns g c = λ head.
    let forms = functions_by g.P.F.Wire.proper g.P.F.Wire.form g.P.F.PartialEq.eq g.P.F.EdgeFn.edge.all_top in
    let rules = machine g.P.F.EdgeFn.edge g.P.F.PartialEq.eq forms in
    every_run_recovers rules (machine_is_exact g.P.F.EdgeFn.edge g.P.F.PartialEq.eq forms g.met.P.F.Wire.prefix_free) (one_disk_in_version rules head)
