use Rattle.std.proofs.Common.{◌≡◌, ◌∙◌, ◌+◌, ◌<◌, Bool, Ok, Err, Result, ap, arith, length, refl, subst, sym, take}
use Rattle.std.proofs.Math.Logic.{∥∥₁_elim, ∥∥₁_map, ∥∥₁_prop}
use Rattle.std.proofs.Props.{props}
use Rattle.std.proofs.lemmas.List.{length-take-le}
use Rattle.ide_slot_journal.specs.Stands.{AreHonest}
use Rattle.ide_slot_store.specs.Half.{StepsOver}
use Rattle.ide_store.specs.Table.{Analysis}
use Rattle.ide_wire.specs.declared.refused.Refused.{Refused}
use Rattle.ide_desks.specs.Desks.{CountsTaken, IsWriterDesk}
use Rattle.ide_desks.specs.Stepping.{IsStepRefusal, failed_before, fails}
use Rattle.ide_desks.specs.Switching.{version_after}
use Rattle.ide_desks.proofs.Steps.{desk_calls, desk_crashes, desk_fails, desk_refused, desk_rests, desk_stores, desk_waits}
use Rattle.ide_desks.proofs.writer.WriterDesk.disk_step.Given.{Over}
use Rattle.ide_desks.proofs.writer.WriterDesk.disk_step.Goals as goal

-- the analysis of the store
abbrev kept : (g : Over) → Analysis g.row.P-F.Denot g.row.P-L.Denot
kept g = record {
  lattice = g.P.L.Lattice.algebra;
  functions = g.P.F.EdgeFn.edge;
  targets = g.P.Problem.targets;
  same = g.P.F.PartialEq.eq;
  proper = g.P.F.Wire.proper;
  form = g.P.F.Wire.form;
}

-- ---- a record was stored, and is published
pub invariant_of-self : goal.invariant_of-self
invariant_of-self g c =
    let old = c.args.self.now in
    let both = c.if-is_one_more.ensures.0 refl in
    let more = both.0 in
    let less = both.1 in
    let before = c.stored-before.ensures in
    let after = c.stored-after.ensures in
    let stored = c.stored-stored.ensures in
    let taken = old.counts.count in
    let room : length old.seat.stored < length old.seat.taken = omega (arith, less, stored, taken) in
    let long : length (take (length old.seat.stored + 1) old.seat.taken) ≡ length old.seat.stored + 1 =
    length-take-le (length old.seat.stored + 1) old.seat.taken (omega (arith, room)) in
    let result = c.in-Ok-true.is ∙ ap (λ b. Ok b) c.in-Ok-true.field-0-test in
    record {
      named = (old.named.0, ap (λ s. s.board) c.publish.ensures ∙ old.named.1);
      switched = old.switched;
      counts = subst (λ w. CountsTaken w old.taken) (sym c.publish.ensures) (record {
        count = taken;
        within = omega (arith, long, room);
        beginning = ap (λ n. take n old.seat.taken) (sym long);
      });
      kept = λ told. ∥∥₁_map (old.kept told) (λ desk.
          subst (λ w. IsWriterDesk (kept g) g.P.Problem.TAG (version_after (g.J.Accord.version told) old.switch.seat.taken) (g.J.Accord.first told) c.disk_step.new.self w old.failed) (sym c.publish.ensures)
          (desk_stores (kept g) g.P.Problem.TAG (version_after (g.J.Accord.version told) old.switch.seat.taken) c.two_disks_are_a_store.ensures.keep (g.J.Accord.first told) old.half c.disk_step.new.self old.seat old.failed
          c.if-self.false desk c.disk_step.ensures.honest
          (subst (λ (r : Result Bool Refused). AreHonest old.half.journal → StepsOver old.half c.disk_step.new.self r) result c.disk_step.ensures.steps)
          (omega (arith, more, before, after)) room));
    }

pub returns-then-is_one_more-clause-crashes : goal.returns-then-is_one_more-clause-crashes
returns-then-is_one_more-clause-crashes g c told going left here there =
    let old = c.args.self.now in
    ∥∥₁_elim (old.kept told) ∥∥₁_prop (λ desk.
    desk_crashes (kept g) g.P.Problem.TAG (version_after (g.J.Accord.version told) old.switch.seat.taken) c.two_disks_are_a_store.ensures.keep (g.J.Accord.first told) old.half c.disk_step.new.self old.seat old.failed
    c.if-self.false desk c.disk_step.ensures.honest c.disk_step.ensures.any_moment left here there)

-- ---- a call was made that stored none
pub invariant_of-self-else-is_one_more : goal.invariant_of-self-else-is_one_more
invariant_of-self-else-is_one_more g c =
    let old = c.args.self.now in
    let before = c.stored-before.ensures in
    let after = c.stored-after.ensures in
    let stored = c.stored-stored.ensures in
    let taken = old.counts.count in
    let result = c.in-Ok-true.is ∙ ap (λ b. Ok b) c.in-Ok-true.field-0-test in
    record {
      named = old.named;
      switched = old.switched;
      counts = old.counts;
      kept = λ told. ∥∥₁_map (old.kept told) (λ desk.
          desk_calls (kept g) g.P.Problem.TAG (version_after (g.J.Accord.version told) old.switch.seat.taken) c.two_disks_are_a_store.ensures.keep (g.J.Accord.first told) old.half c.disk_step.new.self old.seat old.failed
          c.if-self.false desk c.disk_step.ensures.honest
          (subst (λ (r : Result Bool Refused). AreHonest old.half.journal → StepsOver old.half c.disk_step.new.self r) result c.disk_step.ensures.steps)
          (λ both. let more = both.0 in let less = both.1 in
          let no = c.if-is_one_more.ensures.1 (omega (arith, more, before, after), omega (arith, less, stored, taken)) in cc (no)));
    }

pub returns-else-is_one_more-clause-crashes : goal.returns-else-is_one_more-clause-crashes
returns-else-is_one_more-clause-crashes g c told going left here there =
    let old = c.args.self.now in
    ∥∥₁_elim (old.kept told) ∥∥₁_prop (λ desk.
    desk_crashes (kept g) g.P.Problem.TAG (version_after (g.J.Accord.version told) old.switch.seat.taken) c.two_disks_are_a_store.ensures.keep (g.J.Accord.first told) old.half c.disk_step.new.self old.seat old.failed
    c.if-self.false desk c.disk_step.ensures.honest c.disk_step.ensures.any_moment left here there)

-- ---- there was none to make
pub invariant_of-self-in-Ok-false : goal.invariant_of-self-in-Ok-false
invariant_of-self-in-Ok-false g c =
    let old = c.args.self.now in
    let result = c.in-Ok-false.is ∙ ap (λ b. Ok b) c.in-Ok-false.field-0-test in
    record {
      named = old.named;
      switched = old.switched;
      counts = old.counts;
      kept = λ told. ∥∥₁_map (old.kept told) (λ desk.
          (desk_rests (kept g) g.P.Problem.TAG (version_after (g.J.Accord.version told) old.switch.seat.taken) c.two_disks_are_a_store.ensures.keep (g.J.Accord.first told) old.half c.disk_step.new.self old.seat old.failed
          c.if-self.false desk c.disk_step.ensures.honest
          (subst (λ (r : Result Bool Refused). AreHonest old.half.journal → StepsOver old.half c.disk_step.new.self r) result c.disk_step.ensures.steps)).1);
    }

pub returns-in-Ok-false-clause-all : goal.returns-in-Ok-false-clause-all
returns-in-Ok-false-clause-all g c told rests =
    let old = c.args.self.now in
    let result = c.in-Ok-false.is ∙ ap (λ b. Ok b) c.in-Ok-false.field-0-test in
    ∥∥₁_elim (old.kept told) (Prim.hlevel props) (λ desk.
    (desk_rests (kept g) g.P.Problem.TAG (version_after (g.J.Accord.version told) old.switch.seat.taken) c.two_disks_are_a_store.ensures.keep (g.J.Accord.first told) old.half c.disk_step.new.self old.seat old.failed
    c.if-self.false desk c.disk_step.ensures.honest
    (subst (λ (r : Result Bool Refused). AreHonest old.half.journal → StepsOver old.half c.disk_step.new.self r) result c.disk_step.ensures.steps)).0)

pub returns-in-Ok-false-clause-crashes : goal.returns-in-Ok-false-clause-crashes
returns-in-Ok-false-clause-crashes g c told going left here there =
    let old = c.args.self.now in
    ∥∥₁_elim (old.kept told) ∥∥₁_prop (λ desk.
    desk_crashes (kept g) g.P.Problem.TAG (version_after (g.J.Accord.version told) old.switch.seat.taken) c.two_disks_are_a_store.ensures.keep (g.J.Accord.first told) old.half c.disk_step.new.self old.seat old.failed
    c.if-self.false desk c.disk_step.ensures.honest c.disk_step.ensures.any_moment left here there)

-- ---- it was refused
pub invariant_of-self-then-is_fault : goal.invariant_of-self-then-is_fault
invariant_of-self-then-is_fault g c =
    let old = c.args.self.now in
    let result = c.in-Err.is ∙ ap (λ e. Err e) (c.if-is_fault.ensures.0 refl) in
    record {
      named = old.named;
      switched = old.switched;
      counts = old.counts;
      kept = λ told. ∥∥₁_map (old.kept told) (λ desk.
          desk_fails (kept g) g.P.Problem.TAG (version_after (g.J.Accord.version told) old.switch.seat.taken) c.two_disks_are_a_store.ensures.keep (g.J.Accord.first told) old.half c.disk_step.new.self old.seat old.failed
          c.if-self.false desk c.disk_step.ensures.honest
          (subst (λ (r : Result Bool Refused). AreHonest old.half.journal → StepsOver old.half c.disk_step.new.self r) result c.disk_step.ensures.steps));
    }

pub returns-then-is_fault-clause-crashes : goal.returns-then-is_fault-clause-crashes
returns-then-is_fault-clause-crashes g c told going left here there =
    let old = c.args.self.now in
    ∥∥₁_elim (old.kept told) ∥∥₁_prop (λ desk.
    desk_crashes (kept g) g.P.Problem.TAG (version_after (g.J.Accord.version told) old.switch.seat.taken) c.two_disks_are_a_store.ensures.keep (g.J.Accord.first told) old.half c.disk_step.new.self old.seat old.failed
    c.if-self.false desk c.disk_step.ensures.honest c.disk_step.ensures.any_moment left here there)

pub invariant_of-self-else-is_fault : goal.invariant_of-self-else-is_fault
invariant_of-self-else-is_fault g c =
    let old = c.args.self.now in
    record {
      named = old.named;
      switched = old.switched;
      counts = old.counts;
      kept = λ told. ∥∥₁_map (old.kept told) (λ desk.
          desk_waits (kept g) g.P.Problem.TAG (version_after (g.J.Accord.version told) old.switch.seat.taken) c.two_disks_are_a_store.ensures.keep (g.J.Accord.first told) old.half c.disk_step.new.self old.seat old.failed
          c.if-self.false desk c.disk_step.ensures.honest c.in-Err.refused (λ is. let no = c.if-is_fault.ensures.1 is in cc (no))
          (subst (λ (r : Result Bool Refused). AreHonest old.half.journal → StepsOver old.half c.disk_step.new.self r) c.in-Err.is c.disk_step.ensures.steps));
    }

pub returns-else-is_fault-clause-crashes : goal.returns-else-is_fault-clause-crashes
returns-else-is_fault-clause-crashes g c told going left here there =
    let old = c.args.self.now in
    ∥∥₁_elim (old.kept told) ∥∥₁_prop (λ desk.
    desk_crashes (kept g) g.P.Problem.TAG (version_after (g.J.Accord.version told) old.switch.seat.taken) c.two_disks_are_a_store.ensures.keep (g.J.Accord.first told) old.half c.disk_step.new.self old.seat old.failed
    c.if-self.false desk c.disk_step.ensures.honest c.disk_step.ensures.any_moment left here there)

-- ---- and for one of these reasons
pub returns-then-self-clause-refused : goal.returns-then-self-clause-refused
returns-then-self-clause-refused g c told = ∣ failed_before ∣₁

pub returns-then-is_fault-clause-refused : goal.returns-then-is_fault-clause-refused
returns-then-is_fault-clause-refused g c told =
    ∣ subst (λ (e : Refused). IsStepRefusal e) (sym (c.if-is_fault.ensures.0 refl)) fails ∣₁

pub returns-else-is_fault-clause-refused : goal.returns-else-is_fault-clause-refused
returns-else-is_fault-clause-refused g c told =
    let old = c.args.self.now in
    ∥∥₁_map (old.kept told) (λ desk.
    desk_refused (kept g) g.P.Problem.TAG (version_after (g.J.Accord.version told) old.switch.seat.taken) c.two_disks_are_a_store.ensures.keep (g.J.Accord.first told) old.half c.disk_step.new.self old.seat old.failed
    c.if-self.false desk c.disk_step.ensures.honest c.in-Err.refused (λ is. let no = c.if-is_fault.ensures.1 is in cc (no))
    (subst (λ (r : Result Bool Refused). AreHonest old.half.journal → StepsOver old.half c.disk_step.new.self r) c.in-Err.is c.disk_step.ensures.steps))
