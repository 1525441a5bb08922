-- What holds of each state that a run comes to, and how runs go on.
use Rattle.std.specs.Prelude.{◌≡◌, ℕ, true, Some, IsTrue}
use Rattle.ide_wire.specs.declared.key.Key.{Key}
use Rattle.ide_wire.specs.declared.key.Key.TheVariants.{Jump}
use Rattle.ide_theory.specs.Frame.{Frame}
use Rattle.ide_theory.specs.Image.{IsMet}
use Rattle.ide_theory.specs.Invariant.{IsInvariant}
use Rattle.ide_theory.specs.Parts.{AreAllInRange}
use Rattle.ide_theory.specs.Run.{Run, Steps}
use Rattle.ide_theory.specs.State.{Claim, State, lowered_in_frame}

-- what a run comes to: facts are in range, the invariant holds, what waits is present, what is present
-- is proper, what is claimed waits, and a start that is given the identity has received it
pub record IsRunOf (K : Frame) (s : State K.F) : Type 0 where
  pub ranged : AreAllInRange K s
  pub invariant : IsInvariant K s
  pub present : (key : Key) → s.pending key ≡ true → (f : K.F) × (s.get key ≡ Some f)
  pub proper : (key : Key) (f : K.F) → s.get key ≡ Some f → IsTrue (K.functions.proper f)
  pub claimed : (hand : ℕ) (c : Claim K.F) → s.claims hand ≡ Some c → s.pending c.key ≡ true
  pub rooted : (r d : ℕ) → IsMet K (lowered_in_frame K s (Jump r d d) K.functions.id).get (Jump r d d) K.functions.id

-- steps from the end of a run are a run, keep what was received, and follow on one another
pub record DoRunsGoOn (K : Frame) : Type 0 where
  pub run : (s t : State K.F) → Run K s → Steps K s t → Run K t
  pub keeps : (s t : State K.F) → Run K s → Steps K s t → (key : Key) (f : K.F) → IsTrue (K.functions.proper f) → IsMet K s.get key f → IsMet K t.get key f
  pub compose : (s t u : State K.F) → Steps K s t → Steps K t u → Steps K s u
