use Rattle.std.proofs.Common.{◌∙◌, ap, subst, sym}
use Rattle.ide_store.specs.Table.{Analysis}
use Rattle.ide_desks.specs.Asking.{SealsForNone, last_generation, no_command, table_failed, writer_failed}
use Rattle.ide_desks.proofs.Asking.{hands_sealed, plan_stop, seal_stop, sealed_for_none}
use Rattle.ide_desks.proofs.table.TableDesk.checkpoint.Given.{Over}
use Rattle.ide_desks.proofs.table.TableDesk.checkpoint.Goals as goal
use Rattle.ide_desks.proofs.table.TableDesk.checkpoint.Goals.{then-is_stopped-via-then-is_stopped, then-is_stopped-via-else-is_stopped+then-writer}

-- the analysis of the store
abbrev kept : (g : Over) → Analysis g.row.P-F.Denot g.row.P-L.Denot
kept g = record {
  lattice = g.P.L.Lattice.algebra;
  functions = g.P.F.EdgeFn.edge;
  targets = g.P.Problem.targets;
  same = g.P.F.PartialEq.eq;
  proper = g.P.F.Wire.proper;
  form = g.P.F.Wire.form;
}

-- ---- before anything is done
pub returns-then-is_stopped-clause-refused : goal.returns-then-is_stopped-clause-refused
returns-then-is_stopped-clause-refused g c = elim c.then-is_stopped.branch [
  | then-is_stopped-via-then-is_stopped w ↦ table_failed (sym c.is_stopped.ensures ∙ w.if-is_stopped.true)
  | then-is_stopped-via-else-is_stopped+then-writer w ↦ writer_failed w.if-writer.true
]

pub returns-then-generation-eq4294967295-clause-refused : goal.returns-then-generation-eq4294967295-clause-refused
returns-then-generation-eq4294967295-clause-refused g c = last_generation (sym c.generation.ensures ∙ c.if-generation-eq4294967295.true)

pub returns-in-Err-clause-refused : goal.returns-in-Err-clause-refused
returns-in-Err-clause-refused g c =
    seal_stop (kept g) c.args.self.now.half c.seal.new.self.half c.args.writer.now.half c.args.writer.now.failed c.in-Err.refused
    (sym c.is_stopped.ensures ∙ c.if-is_stopped.false) c.in-Err.ensures.refused

-- ---- behind a seal and a hand over
pub returns-then-not-hand_over-clause-sealed : goal.returns-then-not-hand_over-clause-sealed
returns-then-not-hand_over-clause-sealed g c =
    let seat = c.args.self.now.seat in
    let sealed = sealed_for_none _ _ c.seal.result seat c.seal.new.self.seat c.seal.new.self.half c.seal.ensures.marked c.seal.ensures.nothing c.seal.ensures.unchanged in
    subst (SealsForNone seat.sealed) (sym (hands_sealed c.hand_over.result c.seal.new.self.seat c.hand_over.new.self.seat c.args.writer.now.seat c.hand_over.new.writer.seat
    c.hand_over.ensures.hands c.hand_over.ensures.none)) sealed

-- ---- and behind a plan
pub returns-clause-none : goal.returns-clause-none
returns-clause-none g c is = no_command c.hand_over.new.writer.half c.hand_over.ensures.journal (c.plan_image.ensures.none is)

pub returns-clause-sealed : goal.returns-clause-sealed
returns-clause-sealed g c =
    let seat = c.args.self.now.seat in
    let sealed = sealed_for_none _ _ c.seal.result seat c.seal.new.self.seat c.seal.new.self.half c.seal.ensures.marked c.seal.ensures.nothing c.seal.ensures.unchanged in
    let handed = hands_sealed c.hand_over.result c.seal.new.self.seat c.hand_over.new.self.seat c.args.writer.now.seat c.hand_over.new.writer.seat
    c.hand_over.ensures.hands c.hand_over.ensures.none in
    subst (SealsForNone seat.sealed) (sym (ap (λ t. t.sealed) c.plan_image.ensures.seats.0 ∙ handed)) sealed

pub returns-clause-refused : goal.returns-clause-refused
returns-clause-refused g c =
    plan_stop (kept g) c.args.self.now.half c.plan_image.new.self.half c.args.writer.now.half c.args.writer.now.failed c.hand_over.new.self.half
    c.hand_over.new.writer.half c.hand_over.new.writer.failed c.plan_image.result c.plan_image.ensures.refused c.plan_image.ensures.unchanged
    c.hand_over.ensures.journal c.hand_over.ensures.failed
