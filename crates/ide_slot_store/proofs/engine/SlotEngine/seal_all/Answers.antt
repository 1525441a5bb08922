use Rattle.std.proofs.Common.{Err}
use Rattle.ide_store.specs.Table.{Analysis}
use Rattle.ide_slot_store.specs.Asking.{not_sealed}
use Rattle.ide_slot_store.proofs.Asking.{handed_or_not, queue_stop, sealed_or_not}
use Rattle.ide_slot_store.proofs.engine.SlotEngine.seal_all.Given.{Over}
use Rattle.ide_slot_store.proofs.engine.SlotEngine.seal_all.Goals as goal

-- the analysis of the store
abbrev kept : (g : Over) → Analysis g.row.P-F.Denot g.row.P-L.Denot
kept g = record {
  lattice = g.P.L.Lattice.algebra;
  functions = g.P.F.EdgeFn.edge;
  targets = g.P.Problem.targets;
  same = g.P.F.PartialEq.eq;
  proper = g.P.F.Wire.proper;
  form = g.P.F.Wire.form;
}

-- ---- what changed is sealed, and handed over
pub returns-in-Ok-clause-seals : goal.returns-in-Ok-clause-seals
returns-in-Ok-clause-seals g c tag w reached at =
    let sealed =
    sealed_or_not (kept g) tag w c.seal.result c.args.self.now.table c.seal.new.self c.args.self.now.writer c.seal.ensures.seals c.seal.ensures.nothing
    c.seal.ensures.unchanged reached at in
    handed_or_not (kept g) tag w c.take_all_from.result c.seal.new.self c.take_all_from.new.table c.args.self.now.writer c.take_all_from.new.self
    c.take_all_from.ensures.hands c.take_all_from.ensures.unchanged c.take_all_from.ensures.queue c.take_all_from.ensures.journal
    c.take_all_from.ensures.commands c.take_all_from.ensures.few c.take_all_from.ensures.proper reached sealed

pub returns-in-Ok-clause-refused : goal.returns-in-Ok-clause-refused
returns-in-Ok-clause-refused g c = queue_stop (kept g) c.args.self.now c.take_all_from.result c.take_all_from.ensures.refused

-- ---- it is not sealed
pub returns-in-Err-clause-seals : goal.returns-in-Err-clause-seals
returns-in-Err-clause-seals g c tag w reached at =
    sealed_or_not (kept g) tag w (Err c.in-Err.refused) c.args.self.now.table c.seal.new.self c.args.self.now.writer tt (λ no. cc (no))
    c.in-Err.ensures.unchanged reached at

pub returns-in-Err-clause-refused : goal.returns-in-Err-clause-refused
returns-in-Err-clause-refused g c = not_sealed c.in-Err.ensures.refused
