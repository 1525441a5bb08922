use Rattle.std.proofs.Common.{◌≡◌, ◌+◌, refl, sym, ap, ◌∙◌, subst, [], ◌∷◌, ◌++◌}
use Rattle.std.proofs.lemmas.Bool.{both_ways}
use Rattle.std.specs.List.{list_any}
use Rattle.std.specs.Map.{keys_of}
use Rattle.ide_wire.specs.Key.{same_key}
use Rattle.ide_wire.specs.declared.key.Key.TheVariants.{Jump}
use Rattle.ide_theory.specs.Images.{seeded_below}
use Rattle.ide_steps.specs.Rooted.{AllAbsent, AllAt, with_entries}
use Rattle.ide_steps.specs.State.{state_of}
use Rattle.ide_steps.proofs.Entries.{AreBefore, absent-more, absent-none, at-more, at-none, before-later, before-more, entered-absent, entered-present, with-none}
use Rattle.ide_steps.proofs.machine.Core.absent_jumps.Goals as goal
use Rattle.ide_steps.proofs.machine.Core.absent_jumps.Goals.{then-is_absent+in_ok-push, else-is_absent}

pub loop-fact-init : goal.loop-fact-init
loop-fact-init g c =
    let s = state_of g.P.F.EdgeFn.edge g.P.Problem.targets c.args.self.now in
    record {
      entered = sym (ap (with_entries s) c.new-jumps.ensures.items ∙ with-none s);
      before = λ d less. ap (λ entries. list_any (same_key (Jump c.args.start d d)) (keys_of entries)) c.new-jumps.ensures.items;
      place = subst (AllAt {F = g.row.P-F.Denot} c.args.start) (sym c.new-jumps.ensures.items) (at-none c.args.start);
      absent = subst (AllAbsent c.args.self.now) (sym c.new-jumps.ensures.items) (absent-none c.args.self.now);
    }

pub loop-fact-preserved : goal.loop-fact-preserved
loop-fact-preserved g c =
    let B = g.P.F.EdgeFn.edge in
    let targets = g.P.Problem.targets in
    let s = state_of B targets c.args.self.now in
    let start = c.args.start in
    let fact = c.loop-fact.fact in
    let entries = c.loop-fact.jumps.items in
    let was = c.loop-fact.invariant in
    elim c.if-is_absent.branch [
      | then-is_absent+in_ok-push w ↦
          let items : c.if-is_absent.jumps.items ≡ entries ++ (Jump start fact fact, w.id.result) ∷ [] = (λ i. (w.jumps-is i).items) ∙ w.in_ok-push.ensures.items in
          record {
            entered =
                subst (λ es. seeded_below B s start (fact + 1) ≡ with_entries s es) (sym items)
                (entered-absent B targets start fact s entries was.before w.id.result w.id.ensures (c.is_absent.ensures.0 w.if-is_absent.true) was.entered);
            before = subst (AreBefore start (fact + 1)) (sym items) (before-more start fact entries w.id.result was.before);
            place = subst (AllAt {F = g.row.P-F.Denot} start) (sym items) (at-more start entries (Jump start fact fact) w.id.result refl was.place);
            absent =
                subst (AllAbsent c.args.self.now) (sym items)
                (absent-more c.args.self.now entries (Jump start fact fact) w.id.result (c.is_absent.ensures.0 w.if-is_absent.true) was.absent);
          }
      | else-is_absent w ↦
          let items : c.if-is_absent.jumps.items ≡ entries = λ i. (w.jumps-is i).items in
          record {
            entered =
                subst (λ es. seeded_below B s start (fact + 1) ≡ with_entries s es) (sym items)
                (entered-present B targets start fact s entries was.before
                (λ empty. both_ways c.is_absent.result w.if-is_absent.false (c.is_absent.ensures.1 empty)) was.entered);
            before = subst (AreBefore start (fact + 1)) (sym items) (before-later start fact entries was.before);
            place = subst (AllAt {F = g.row.P-F.Denot} start) (sym items) was.place;
            absent = subst (AllAbsent c.args.self.now) (sym items) was.absent;
          }
    ]
