use Rattle.std.proofs.Common.{arith, refl, sym}
use Rattle.ide_store.specs.Table.{Analysis}
use Rattle.ide_store.specs.TableCalls.{after_failure}
use Rattle.ide_slot_store.specs.Asking.{is_refused, last_generation, none_is_new, not_all_sealed, not_sealed, was_under_way}
use Rattle.ide_slot_store.proofs.Asking.{asked_behind, image_stop, not_worth, unsealed}
use Rattle.ide_slot_store.proofs.engine.SlotEngine.checkpoint.Given.{Over}
use Rattle.ide_slot_store.proofs.engine.SlotEngine.checkpoint.Goals as goal

-- the analysis of the store
abbrev kept : (g : Over) → Analysis g.row.P-F.Denot g.row.P-L.Denot
kept g = record {
  lattice = g.P.L.Lattice.algebra;
  functions = g.P.F.EdgeFn.edge;
  targets = g.P.Problem.targets;
  same = g.P.F.PartialEq.eq;
  proper = g.P.F.Wire.proper;
  form = g.P.F.Wire.form;
}

-- ---- nothing is done
pub returns-then-is_stopped-clause-refused : goal.returns-then-is_stopped-clause-refused
returns-then-is_stopped-clause-refused g c = not_all_sealed (not_sealed (after_failure (sym c.if-is_stopped.ensures)))

pub returns-then-is_checkpointing-clause-asks : goal.returns-then-is_checkpointing-clause-asks
returns-then-is_checkpointing-clause-asks g c tag w reached at =
    was_under_way (c.if-is_checkpointing.ensures.0 refl) (unsealed (kept g) tag w c.args.self.now.table c.args.self.now.writer at)

pub returns-then-generation-clause-asks : goal.returns-then-generation-clause-asks
returns-then-generation-clause-asks g c tag w reached at = is_refused (unsealed (kept g) tag w c.args.self.now.table c.args.self.now.writer at)

pub returns-then-generation-clause-refused : goal.returns-then-generation-clause-refused
returns-then-generation-clause-refused g c = last_generation (sym c.if-is_stopped.ensures) (omega (arith, c.if-generation.true, c.generation.ensures))

-- ---- not all is sealed and handed over
pub returns-in-Err-clause-asks : goal.returns-in-Err-clause-asks
returns-in-Err-clause-asks g c tag w reached at = is_refused (c.seal_all.ensures.seals tag w reached at)

pub returns-in-Err-clause-refused : goal.returns-in-Err-clause-refused
returns-in-Err-clause-refused g c = not_all_sealed c.in-Err.ensures.refused

-- ---- none would change what the disks hold
pub returns-then-not-is_worth_a_checkpoint-clause-asks : goal.returns-then-not-is_worth_a_checkpoint-clause-asks
returns-then-not-is_worth_a_checkpoint-clause-asks g c tag w reached at =
    none_is_new
    (not_worth c.args.self.now.writer.journal c.seal_all.new.self.writer.journal c.seal_all.new.self.table.sealed c.seal_all.ensures.journal
    (λ worth. let no = c.if-not-is_worth_a_checkpoint.ensures.1 worth in cc (no)))
    (c.seal_all.ensures.seals tag w reached at)

-- ---- a checkpoint is planned, or none is
pub returns-clause-asks : goal.returns-clause-asks
returns-clause-asks g c =
    asked_behind (kept g) c.args.self.now c.seal_all.new.self c.plan_image.new.self c.plan_image.result c.seal_all.ensures.seals c.plan_image.ensures.plans

pub returns-clause-refused : goal.returns-clause-refused
returns-clause-refused g c =
    image_stop (kept g) c.args.self.now c.seal_all.new.self c.plan_image.new.self c.plan_image.result c.seal_all.ensures.seals c.plan_image.ensures.unchanged
    c.seal_all.ensures.journal c.plan_image.ensures.refused
