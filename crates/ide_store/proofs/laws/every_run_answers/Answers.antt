use Rattle.ide_batch.specs.Items.{functions_by}
use Rattle.ide_store.proofs.Hands.{every_run_answers}
use Rattle.ide_store.proofs.Machine.{machine_is_exact}
use Rattle.ide_store.proofs.OneVersion.{one_disk_in_version}
use Rattle.ide_store.specs.Machine.{machine}
use Rattle.ide_store.specs.OneDisk.{one_disk}
use Rattle.ide_store.specs.Versioned.{one_version}
use Rattle.ide_store.proofs.laws.every_run_answers.Goals as goal

pub returns : goal.returns
returns g c = λ head.
    let A = g.P.L.Lattice.algebra in
    let B = g.P.F.EdgeFn.edge in
    let targets = g.P.Problem.targets in
    let same = g.P.F.PartialEq.eq in
    let forms = functions_by g.P.F.Wire.proper g.P.F.Wire.form same B.all_top in
    every_run_answers A B targets same forms (one_version head.version (one_disk head))
    (record { exact = g.met.P.F.EdgeFn.exact; refl = g.met.P.F.Eq.laws.refl })
    (machine_is_exact B same forms g.met.P.F.Wire.prefix_free) (one_disk_in_version (machine B same forms) head)
    c.programs_are_known.ensures
    (λ r before now does. does)
