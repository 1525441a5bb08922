use Rattle.std.proofs.Common.{arith, refl}
use Rattle.ide_journal.specs.Lists.{entry_of}
use Rattle.ide_batch.specs.Items.{functions_by}
use Rattle.ide_batch.specs.Applied.{damaged}
use Rattle.ide_batch.proofs.Applying.{load_applied, load_refused, root_applied, root_refused, batch_applied, batch_refused, not_kind}
use Rattle.ide_batch.proofs.replay.apply.Goals as goal

pub returns-in-1-clause-applied : goal.returns-in-1-clause-applied
returns-in-1-clause-applied g c =
    load_applied (functions_by g.P.F.Wire.proper g.P.F.Wire.form g.P.F.PartialEq.eq g.P.F.EdgeFn.edge.all_top) c.args.version g.P.L.Lattice.algebra g.P.F.EdgeFn.edge g.P.Problem.targets g.P.F.PartialEq.eq
    c.args.core.now c.apply_load.new.core (entry_of c.args.raw.now) c.apply_load.result c.as_slice-body.result.now c.in-1.is c.as_slice-body.ensures.value c.apply_load.ensures.loaded

pub returns-in-1-clause-refused : goal.returns-in-1-clause-refused
returns-in-1-clause-refused g c =
    load_refused (functions_by g.P.F.Wire.proper g.P.F.Wire.form g.P.F.PartialEq.eq g.P.F.EdgeFn.edge.all_top) c.args.version c.args.n
    c.args.core.now c.apply_load.new.core (entry_of c.args.raw.now) c.apply_load.result c.as_slice-body.result.now c.in-1.is c.as_slice-body.ensures.value
    c.apply_load.ensures.refused c.apply_load.ensures.unchanged

pub returns-in-2-clause-applied : goal.returns-in-2-clause-applied
returns-in-2-clause-applied g c =
    root_applied (functions_by g.P.F.Wire.proper g.P.F.Wire.form g.P.F.PartialEq.eq g.P.F.EdgeFn.edge.all_top) c.args.version g.P.L.Lattice.algebra g.P.F.EdgeFn.edge g.P.Problem.targets g.P.F.PartialEq.eq
    c.args.core.now c.apply_root.new.core (entry_of c.args.raw.now) c.apply_root.result c.as_slice-body.result.now c.in-2.is c.as_slice-body.ensures.value c.requires c.apply_root.ensures.begun

pub returns-in-2-clause-refused : goal.returns-in-2-clause-refused
returns-in-2-clause-refused g c =
    root_refused (functions_by g.P.F.Wire.proper g.P.F.Wire.form g.P.F.PartialEq.eq g.P.F.EdgeFn.edge.all_top) c.args.version c.args.n
    c.args.core.now c.apply_root.new.core (entry_of c.args.raw.now) c.apply_root.result c.as_slice-body.result.now c.in-2.is c.as_slice-body.ensures.value
    c.apply_root.ensures.refused c.apply_root.ensures.damaged c.apply_root.ensures.unchanged

pub returns-in-3-clause-applied : goal.returns-in-3-clause-applied
returns-in-3-clause-applied g c =
    batch_applied (functions_by g.P.F.Wire.proper g.P.F.Wire.form g.P.F.PartialEq.eq g.P.F.EdgeFn.edge.all_top) c.args.version g.P.L.Lattice.algebra g.P.F.EdgeFn.edge g.P.Problem.targets g.P.F.PartialEq.eq
    c.args.core.now c.apply_batch.new.core (entry_of c.args.raw.now) c.apply_batch.result c.as_slice-body.result.now c.in-3.is c.as_slice-body.ensures.value c.apply_batch.ensures.set

pub returns-in-3-clause-refused : goal.returns-in-3-clause-refused
returns-in-3-clause-refused g c =
    batch_refused (functions_by g.P.F.Wire.proper g.P.F.Wire.form g.P.F.PartialEq.eq g.P.F.EdgeFn.edge.all_top) c.args.version c.args.n
    c.args.core.now c.apply_batch.new.core (entry_of c.args.raw.now) c.apply_batch.result c.as_slice-body.result.now c.in-3.is c.as_slice-body.ensures.value
    c.apply_batch.ensures.refused c.apply_batch.ensures.damaged c.apply_batch.ensures.kept

pub returns-in_default-clause-refused : goal.returns-in_default-clause-refused
returns-in_default-clause-refused g c =
    damaged (not_kind (functions_by g.P.F.Wire.proper g.P.F.Wire.form g.P.F.PartialEq.eq g.P.F.EdgeFn.edge.all_top) c.args.version c.args.n c.args.core.now c.args.core.now (entry_of c.args.raw.now)
    (omega (arith, c.in_default)) (omega (arith, c.in_default)) (omega (arith, c.in_default))) refl
