-- What holds of each state that a run comes to: what waits is present, and steps go on from it.
use Rattle.std.proofs.Common.{◌≡◌, true, Some, IsTrue, sym, subst, ◌∙◌, inl, inr}
use Rattle.ide_wire.specs.declared.key.Key.{Key}
use Rattle.ide_wire.specs.declared.key.Key.TheVariants.{Jump}
use Rattle.ide_theory.specs.Frame.{Frame, IsLawfulFrame}
use Rattle.ide_theory.specs.Image.{function_of, IsMet}
use Rattle.ide_theory.specs.Invariant.{IsInvariant}
use Rattle.ide_theory.specs.Reached.{IsRunOf, DoRunsGoOn}
use Rattle.ide_theory.specs.State.{State, with_function}
use Rattle.ide_theory.specs.Run.{Step, claim, skip, lower, release, finish, root, Run, begins, goes_on, Steps, none, more, steps_joined}
use Rattle.ide_theory.proofs.Laws.Changes.{key-tells}
use Rattle.ide_theory.proofs.Laws.Sound.{has-proper}
use Rattle.ide_theory.proofs.Laws.Kept.{inv-run}
use Rattle.ide_theory.proofs.Laws.Ranged.{ranged-run}
use Rattle.ide_theory.proofs.Laws.Runs.{met-step, met-root}

-- each key that waits is present
abbrev pub ArePresent : (K : Frame) → State K.F → Type 0
ArePresent K s = (key : Key) → s.pending key ≡ true → (f : K.F) × (s.get key ≡ Some f)

module _ (K : Frame) where
  open K use {F, functions as B}

  pub present-with : (s : State F) → ArePresent K s → (t : Key) (f : F) → ArePresent K (with_function s t f)
  present-with s present t f key waits = elim (key-tells s.get t (Some f) key) [
    | inl here ↦ (f, here.1)
    | inr other ↦ elim (key-tells s.pending t true key) [
      | inl same ↦ elim (other.0 same.0) [ ]
      | inr before ↦
          let found : (f : F) × (s.get key ≡ Some f) = present key (sym before.1 ∙ waits) in
          (found.0, other.1 ∙ found.1)
    ]
  ]

  pub present-step : {s t : State F} → Step K s t → IsInvariant K s → ArePresent K s → ArePresent K t
  present-step (claim h q parts free waits alone all) inv present = present
  present-step (skip h c t g rest mine parts is) inv present = present
  present-step (lower {s = s} h c t g rest mine parts changes) inv present = present-with s present t (B.meet (function_of K s.get t) g)
  present-step (release h c mine) inv present = present
  present-step (finish {s = s} h c mine done) inv present = λ key waits. elim (key-tells s.pending c.key c.lowered key) [
    | inl here ↦ present key (subst (λ u. s.pending u ≡ true) here.0 (inv.held.pending h c mine))
    | inr other ↦ present key (sym other.1 ∙ waits)
  ]
  present-step (root {s = s} r d is_start in_range absent) inv present = present-with s present (Jump r d d) B.id

  module _ (laws : IsLawfulFrame K) where
    pub present-run : {s : State F} → Run K s → ArePresent K s
    present-run begins = λ key waits. let no : ⊥ = cc (waits) in elim no [ ]
    present-run (goes_on run step) = present-step step (inv-run K laws run) (present-run run)

    pub run-reached : {s : State F} → Run K s → IsRunOf K s
    run-reached {s} run =
        let inv : IsInvariant K s = inv-run K laws run in
        record {
          ranged = ranged-run K laws run;
          invariant = inv;
          present = present-run run;
          proper = has-proper K laws s.get inv.sound;
          claimed = inv.held.pending;
          rooted = met-root K laws s inv;
        }

    pub run-on : {s t : State F} → Run K s → Steps K s t → Run K t
    run-on run none = run
    run-on run (more steps step) = goes_on (run-on run steps) step

    pub met-on : {s t : State F} → Run K s → Steps K s t → (key : Key) (f : F) → IsTrue (B.proper f) → IsMet K s.get key f → IsMet K t.get key f
    met-on run none key f p has = has
    met-on run (more steps step) key f p has = met-step K laws step (inv-run K laws (run-on run steps)) key f p (met-on run steps key f p has)

    -- so runs go on
    pub runs-go-on : DoRunsGoOn K
    runs-go-on = record {
      run = λ s t. run-on;
      keeps = λ s t. met-on;
      compose = λ s t u. steps_joined;
    }
