use Rattle.std.proofs.Common.{ap, refl}
use Rattle.ide_store.specs.Table.{Analysis}
use Rattle.ide_slot_store.proofs.Stepping.{refuses, same_refusal, stepped_disks, taken_honest}
use Rattle.ide_slot_store.proofs.Stopping.{stepped_crashes}
use Rattle.ide_slot_store.proofs.engine.SlotEngine.disk_step.Given.{Over}
use Rattle.ide_slot_store.proofs.engine.SlotEngine.disk_step.Goals as goal

-- the analysis of the store
abbrev kept : (g : Over) → Analysis g.row.P-F.Denot g.row.P-L.Denot
kept g = record {
  lattice = g.P.L.Lattice.algebra;
  functions = g.P.F.EdgeFn.edge;
  targets = g.P.Problem.targets;
  same = g.P.F.PartialEq.eq;
  proper = g.P.F.Wire.proper;
  form = g.P.F.Wire.form;
}

-- ---- a good call, or none
pub returns-in-Ok-clause-steps : goal.returns-in-Ok-clause-steps
returns-in-Ok-clause-steps g c honest tag =
    stepped_disks (kept g) tag c.args.self.now.table c.take_from.new.table c.args.self.now.writer c.take_from.new.self c.take_from.ensures.journal
    c.take_from.ensures.commands c.take_from.ensures.few c.take_from.ensures.proper c.take_from.ensures.hands c.take_from.new.table c.disk_step.new.self _
    (c.in-Ok.ensures.steps (taken_honest c.args.self.now.writer c.take_from.new.self c.take_from.ensures.journal honest)) (λ no. cc (no)) (λ other. refl)

-- ---- a call that failed
pub returns-then-is_fault-clause-steps : goal.returns-then-is_fault-clause-steps
returns-then-is_fault-clause-steps g c honest tag =
    stepped_disks (kept g) tag c.args.self.now.table c.take_from.new.table c.args.self.now.writer c.take_from.new.self c.take_from.ensures.journal
    c.take_from.ensures.commands c.take_from.ensures.few c.take_from.ensures.proper c.take_from.ensures.hands c.stop.new.self c.disk_step.new.self _
    (c.in-Err.ensures.steps (taken_honest c.args.self.now.writer c.take_from.new.self c.take_from.ensures.journal honest)) (λ is. c.stop.ensures)
    (λ other. absurd (other (ap refuses (c.if-is_fault.ensures.0 refl))))

-- ---- want of memory
pub returns-else-is_fault-clause-steps : goal.returns-else-is_fault-clause-steps
returns-else-is_fault-clause-steps g c honest tag =
    stepped_disks (kept g) tag c.args.self.now.table c.take_from.new.table c.args.self.now.writer c.take_from.new.self c.take_from.ensures.journal
    c.take_from.ensures.commands c.take_from.ensures.few c.take_from.ensures.proper c.take_from.ensures.hands c.take_from.new.table c.disk_step.new.self _
    (c.in-Err.ensures.steps (taken_honest c.args.self.now.writer c.take_from.new.self c.take_from.ensures.journal honest))
    (λ is. let no = c.if-is_fault.ensures.1 (same_refusal _ _ is) in cc (no)) (λ other. refl)

pub returns-in-Ok-clause-crashes : goal.returns-in-Ok-clause-crashes
returns-in-Ok-clause-crashes g c honest tag =
    stepped_crashes (kept g) tag c.args.self.now.table c.take_from.new.table c.args.self.now.writer c.take_from.new.self c.take_from.ensures.journal
    c.take_from.ensures.commands c.take_from.ensures.few c.take_from.ensures.proper c.take_from.ensures.hands c.disk_step.new.self
    (c.in-Ok.ensures.any_moment (taken_honest c.args.self.now.writer c.take_from.new.self c.take_from.ensures.journal honest))

pub returns-then-is_fault-clause-crashes : goal.returns-then-is_fault-clause-crashes
returns-then-is_fault-clause-crashes g c honest tag =
    stepped_crashes (kept g) tag c.args.self.now.table c.take_from.new.table c.args.self.now.writer c.take_from.new.self c.take_from.ensures.journal
    c.take_from.ensures.commands c.take_from.ensures.few c.take_from.ensures.proper c.take_from.ensures.hands c.disk_step.new.self
    (c.in-Err.ensures.any_moment (taken_honest c.args.self.now.writer c.take_from.new.self c.take_from.ensures.journal honest))

pub returns-else-is_fault-clause-crashes : goal.returns-else-is_fault-clause-crashes
returns-else-is_fault-clause-crashes g c honest tag =
    stepped_crashes (kept g) tag c.args.self.now.table c.take_from.new.table c.args.self.now.writer c.take_from.new.self c.take_from.ensures.journal
    c.take_from.ensures.commands c.take_from.ensures.few c.take_from.ensures.proper c.take_from.ensures.hands c.disk_step.new.self
    (c.in-Err.ensures.any_moment (taken_honest c.args.self.now.writer c.take_from.new.self c.take_from.ensures.journal honest))
