-- Where nothing is pending each instance is met, so the values that follow from a quiet image, and
-- from a run that ended in one, are best.
use Rattle.std.proofs.Common.{ℕ, ◌<◌, List, IsTrue, sym, ◌∙◌, true≢false}
use Rattle.ide_wire.specs.declared.key.Key.{Key}
use Rattle.ide_wire.specs.declared.key.Key.TheVariants.{Jump}
use Rattle.ide_theory.specs.Frame.{Frame, Roots, AreRoots, IsLawfulFrame}
use Rattle.ide_theory.specs.Best.{IsBest}
use Rattle.ide_theory.specs.Image.{Instance, IsMet, HasRoots}
use Rattle.ide_theory.specs.Value.{IsStarted, value_at}
use Rattle.ide_theory.specs.State.{State, lowered_in_frame}
use Rattle.ide_theory.specs.Run.{Step, claim, skip, lower, release, finish, root, Run, IsQuiet}
use Rattle.ide_theory.specs.Invariant.{IsSettled, met, awaits, owed, IsHeld, IsInvariant}
use Rattle.ide_theory.proofs.Laws.Sound.{has-proper}
use Rattle.ide_theory.proofs.Laws.Ready.{lowered-is-seeded, met-lowered, met-now}
use Rattle.ide_theory.proofs.Laws.Kept.{proper-owed, inv-run}
use Rattle.ide_theory.proofs.Laws.Greatest.{best-value}
use Rattle.ide_theory.specs.Member.{IsIn, first}
use Rattle.std.proofs.Common.{subst}

-- what is settled where nothing is pending is met
pub settled-met : (K : Frame) (s : State K.F) → IsHeld s → IsQuiet s → {ks : List Key} {k : Key} {g : K.F} → IsSettled K s ks k g → IsMet K s.get k g
settled-met K s held quiet (met has) = has
settled-met K s held quiet (awaits q among expects) = elim (true≢false (sym expects.pending ∙ quiet q)) [ ]
settled-met K s held quiet (owed h c has among fresh part) = elim (true≢false (sym (held.pending h c has) ∙ quiet c.key)) [ ]

pub quiet-met : (K : Frame) (s : State K.F) → IsInvariant K s → IsQuiet s → (ks : List Key) (k : Key) (g : K.F) → Instance K s.get ks k g → IsMet K s.get k g
quiet-met K s inv quiet ks k g instance = settled-met K s inv.held quiet (inv.ready ks k g instance)

-- what was received stays so in each step
pub met-step : (K : Frame) → IsLawfulFrame K → {s t : State K.F} → Step K s t → IsInvariant K s → (k : Key) (f : K.F) → IsTrue (K.functions.proper f)
    → IsMet K s.get k f → IsMet K t.get k f
met-step K laws (claim h q parts free waits alone all) inv k f p has = has
met-step K laws (skip h c t g rest mine parts is) inv k f p has = has
met-step K laws (lower {s = s} h c t g rest mine parts changes) inv k f p has =
    met-lowered K laws s (has-proper K laws s.get inv.sound) t g
    (proper-owed K laws t g (inv.owed h c mine t g (subst (IsIn {T = Key × K.F} (t, g)) (sym parts) first))) k f p has
met-step K laws (release h c mine) inv k f p has = has
met-step K laws (finish h c mine none) inv k f p has = has
met-step K laws (root {s = s} r d is_start in_range absent) inv k f p has =
    subst (λ u. IsMet K u.get k f) (lowered-is-seeded K laws s (Jump r d d) absent) (met-lowered K laws s (has-proper K laws s.get inv.sound) (Jump r d d) K.functions.id laws.functions.proper_id k f p has)

-- a root's identity is received when it is given
pub met-root : (K : Frame) → IsLawfulFrame K → (s : State K.F) → IsInvariant K s → (r d : ℕ)
    → IsMet K (lowered_in_frame K s (Jump r d d) K.functions.id).get (Jump r d d) K.functions.id
met-root K laws s inv r d = met-now K laws s (has-proper K laws s.get inv.sound) (Jump r d d) K.functions.id laws.functions.proper_id

pub quiet-best : (K : Frame) → IsLawfulFrame K → (R : Roots K) → AreRoots K R → (s : State K.F) → IsInvariant K s → IsQuiet s → HasRoots K R s.get
    → (start : ℕ → ℕ → K.L) → IsStarted K R s.get start → (n d : ℕ) → d < K.facts → IsBest K R n d (value_at K s.get start n d)
quiet-best K laws R given s inv quiet roots start started n d h =
    best-value K laws R given s.get inv.sound roots (quiet-met K s inv quiet) start started n d h

pub run-best : (K : Frame) → IsLawfulFrame K → (R : Roots K) → AreRoots K R → {s : State K.F} → Run K s → IsQuiet s → HasRoots K R s.get
    → (start : ℕ → ℕ → K.L) → IsStarted K R s.get start → (n d : ℕ) → d < K.facts → IsBest K R n d (value_at K s.get start n d)
run-best K laws R given {s} run quiet roots start started n d h = quiet-best K laws R given s (inv-run K laws run) quiet roots start started n d h
