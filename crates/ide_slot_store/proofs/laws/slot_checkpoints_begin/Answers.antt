use Rattle.ide_store.specs.Table.{Analysis}
use Rattle.ide_slot_store.proofs.Checkpoint.{may_begin, stay_on_run}
use Rattle.ide_slot_store.proofs.laws.slot_checkpoints_begin.Given.{Over}
use Rattle.ide_slot_store.proofs.laws.slot_checkpoints_begin.Goals as goal

-- the analysis of the store
abbrev kept : (g : Over) → Analysis g.row.P-F.Denot g.row.P-L.Denot
kept g = record {
  lattice = g.P.L.Lattice.algebra;
  functions = g.P.F.EdgeFn.edge;
  targets = g.P.Problem.targets;
  same = g.P.F.PartialEq.eq;
  proper = g.P.F.Wire.proper;
  form = g.P.F.Wire.form;
}

pub returns-clause-begins : goal.returns-clause-begins
returns-clause-begins g c = may_begin (kept g) g.met.P.F.Wire.prefix_free

pub returns-clause-stays : goal.returns-clause-stays
returns-clause-stays g c = stay_on_run (kept g) g.met.P.F.Wire.prefix_free
