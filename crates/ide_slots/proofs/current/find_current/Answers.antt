use Rattle.std.proofs.Common.{IfNone, sym, subst}
use Rattle.ide_slots.specs.Current.{BeginsSo, HasNoCurrent, files, no_slot}
use Rattle.ide_slots.specs.Sides.{First, Second}
use Rattle.ide_slots.specs.declared.current.Beginning.{Beginning}
use Rattle.ide_slots.proofs.Currents.{first_by_closed, first_by_open, none_by_closed, none_by_open, second_by_open}
use Rattle.ide_slots.proofs.current.find_current.Goals as goal
use Rattle.ide_slots.proofs.current.find_current.Goals.{in-Open+else-is_behind, in_default}

pub returns-in_err-a-clause-none : goal.returns-in_err-a-clause-none
returns-in_err-a-clause-none c =
    subst (λ r. IfNone r (HasNoCurrent (files c.args.first.now c.args.second.now))) (sym c.from_residual.ensures)
    (no_slot First c.in_err-a.ensures.none)

pub returns-in_err-head-clause-none : goal.returns-in_err-head-clause-none
returns-in_err-head-clause-none c =
    subst (λ r. IfNone r (HasNoCurrent (files c.args.first.now c.args.second.now))) (sym c.from_residual-in_err-head.ensures)
    (no_slot Second c.in_err-head.ensures.none)

pub returns-then-is_behind-clause-current : goal.returns-then-is_behind-clause-current
returns-then-is_behind-clause-current c =
    let b = c.args.second.now in
    second_by_open c.args.first.now b c.in_ok-a.a c.in-Open.head c.in_ok-a.ensures.begins
    (subst (λ (x : Beginning). BeginsSo x b) c.in-Open.is c.in_ok-head.ensures.begins) (c.is_behind.ensures.0 c.if-is_behind.true)

pub returns-in-Some-clause-current : goal.returns-in-Some-clause-current
returns-in-Some-clause-current c =
    let a = c.args.first.now in
    let b = c.args.second.now in
    elim c.match-branch-3.branch [
      | in-Open+else-is_behind w ↦
          let opened = subst (λ (x : Beginning). BeginsSo x b) w.in-Open.is c.in_ok-head.ensures.begins in
          first_by_open a b c.in_ok-a.a w.in-Open.head c.in-Some.head c.in_ok-a.ensures.begins opened
          (λ behind. let told = w.is_behind.ensures.1 behind in cc) c.in-Some.ensures.told
      | in_default w ↦ first_by_closed a b c.in_ok-a.a c.in-Some.head c.in_ok-a.ensures.begins
          (subst (λ (x : Beginning). BeginsSo x b) w.in_default.is c.in_ok-head.ensures.begins) c.in-Some.ensures.told
    ]

pub returns-in-None-clause-none : goal.returns-in-None-clause-none
returns-in-None-clause-none c =
    let a = c.args.first.now in
    let b = c.args.second.now in
    elim c.match-branch-3.branch [
      | in-Open+else-is_behind w ↦
          none_by_open a b c.in_ok-a.a w.in-Open.head c.in_ok-a.ensures.begins
          (λ behind. let told = w.is_behind.ensures.1 behind in cc) c.in-None.ensures.none
      | in_default w ↦ none_by_closed a b c.in_ok-a.a c.in_ok-a.ensures.begins
          (subst (λ (x : Beginning). BeginsSo x b) w.in_default.is c.in_ok-head.ensures.begins) c.in-None.ensures.none
    ]
