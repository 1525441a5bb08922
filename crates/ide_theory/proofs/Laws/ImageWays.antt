-- The steps of a hand are those of an image, and a root's step is a way of its entries.
use Rattle.std.proofs.Common.{◌≡◌, ℕ, zero, suc, ◌+◌, ◌<◌, ◌≤◌, Bool, true, false, cond, List, [], ◌∷◌, ◌++◌, Option, Some, None, ap, sym, refl, ◌∙◌, true≢false, arith}
use Rattle.std.specs.Option.{is_some}
use Rattle.ide_lattice.specs.Algebra.{EdgeAlgebra}
use Rattle.ide_wire.specs.declared.key.Key.{Key}
use Rattle.ide_wire.specs.declared.key.Key.TheVariants.{Jump}
use Rattle.ide_theory.specs.Frame.{Frame}
use Rattle.ide_theory.specs.Image.{function_of, IsMet}
use Rattle.ide_theory.specs.Images.{Procedures, Image, ImageStep, Root, with_state, seeded_once, seeded_below, absent_below, is_met, entered, root_begun, step as next, after_steps_of, image_steps_of, image_steps_in, IsSame, AreSeeds}
use Rattle.ide_theory.specs.Invariant.{unclaimed}
use Rattle.ide_theory.specs.Run.{Step, claim, skip, lower, release, finish, root, Steps, none, more, seeds_of, seeds_in}
use Rattle.ide_theory.specs.State.{State, with_lowered, seeded}

-- the image with the functions of a state, and one root more
abbrev with_root : {Program Name F : Type 0} → Image Program Name F → Name → State F → Image Program Name F
with_root i name s = record (with_state i s) { roots = i.roots ++ name ∷ [] }

is-none : {X : Type 0} (o : Option X) → is_some o ≡ false → o ≡ None
is-none None absent = refl
is-none (Some x) absent = absurd (true≢false absent)

module _ {F L : Type 0} (B : EdgeAlgebra F L) where
  -- what becomes of the entries does not hang on claims
  once-unclaimed : (s : State F) (key : Key) → unclaimed (seeded_once B (unclaimed s) key) ≡ unclaimed (seeded_once B s key)
  once-unclaimed s key = by (is_some (s.get key))
    where
      by : (b : Bool) → unclaimed (cond b (unclaimed s) (seeded B (unclaimed s) key)) ≡ unclaimed (cond b s (seeded B s key))
      by true = refl
      by false = refl

  below-unclaimed : (s : State F) (r n : ℕ) → unclaimed (seeded_below B (unclaimed s) r n) ≡ unclaimed (seeded_below B s r n)
  below-unclaimed s r zero = refl
  below-unclaimed s r (suc n) =
      sym (once-unclaimed (seeded_below B (unclaimed s) r n) (Jump r n n))
      ∙ ap (λ (u : State F). unclaimed (seeded_once B u (Jump r n n))) (below-unclaimed s r n)
      ∙ once-unclaimed (seeded_below B s r n) (Jump r n n)

module _ (K : Frame) where
  open K use {F, functions as B, facts, graph.{start_of}}

  -- one more entry, where it is absent
  seeds-once : (s u : State F) (count r d : ℕ) → start_of r ≡ r → d < facts → AreSeeds K s u count
      → AreSeeds K s (seeded_once B u (Jump r d d)) (count + cond (is_some (u.get (Jump r d d))) 0 1)
  seeds-once s u count r d starts fits before = by (is_some (u.get (Jump r d d))) refl
    where
      by : (b : Bool) → is_some (u.get (Jump r d d)) ≡ b → AreSeeds K s (cond b u (seeded B u (Jump r d d))) (count + cond b 0 1)
      by true present = record {
        way = before.way;
        seeds = omega (arith, before.seeds);
        claims = before.claims;
        lowerings = before.lowerings;
        releases = before.releases;
      }
      by false absent = record {
        way = more before.way (root r d starts fits (is-none (u.get (Jump r d d)) absent));
        seeds = omega (arith, before.seeds);
        claims = omega (arith, before.claims);
        lowerings = omega (arith, before.lowerings);
        releases = omega (arith, before.releases);
      }

  -- the absent entries become identities by steps of their own
  pub seeds-below : (s : State F) (r : ℕ) → start_of r ≡ r → (n : ℕ) → n ≤ facts → AreSeeds K s (seeded_below B s r n) (absent_below B s r n)
  seeds-below s r starts zero fits = record { way = none; seeds = refl; claims = refl; lowerings = refl; releases = refl }
  seeds-below s r starts (suc n) fits =
      seeds-once s (seeded_below B s r n) (absent_below B s r n) r n starts (omega (arith, fits)) (seeds-below s r starts n (omega (arith, fits)))

module _ {Program Name : Type 0} (procedures : Procedures Program Name) (K : Frame) (same : K.F → K.F → Bool) where
  open K use {F, functions as B}

  -- a root's step, where the program has the procedure
  pub root-image : (i : Image Program Name F) (s : State F) (p : Program) (name : Name) (r : ℕ) → i.program ≡ Some p → procedures.start p name ≡ Some r
      → next procedures B same (with_state i s) (Root name) ≡ record (with_state i (seeded_below B s r (procedures.entries p))) { roots = i.roots ++ name ∷ [] }
  root-image i s p name r is begins =
      ap (λ (o : Option Program). with_root i name (entered procedures B same o name (unclaimed s))) is
      ∙ ap (λ (o : Option ℕ). with_root i name (root_begun procedures B same p o (unclaimed s))) begins
      ∙ ap (with_root i name) (below-unclaimed B s r (procedures.entries p))

module _ {Program Name : Type 0} (procedures : Procedures Program Name) (K : Frame) (same : K.F → K.F → Bool) (is_same : IsSame same) where
  open K use {F, functions as B}

  met-test : (s : State F) (key : Key) (g : F) → IsMet K s.get key g → is_met procedures B same s key g ≡ true
  met-test s key g met = ap (same (B.meet (function_of K s.get key) g)) (sym met) ∙ is_same.refl (B.meet (function_of K s.get key) g)

  not-met-test : (s : State F) (key : Key) (g : F) → (IsMet K s.get key g → ⊥) → is_met procedures B same s key g ≡ false
  not-met-test s key g changes = by (is_met procedures B same s key g) refl
    where
      by : (b : Bool) → is_met procedures B same s key g ≡ b → is_met procedures B same s key g ≡ false
      by true is = absurd (changes (is_same.exact (B.meet (function_of K s.get key) g) (function_of K s.get key) is))
      by false is = is

  step-image : (i : Image Program Name F) {s t : State F} (happens : Step K s t) → seeds_of happens ≡ 0
      → after_steps_of procedures B same (with_state i s) (image_steps_of happens) ≡ with_state i t
  step-image i (claim h q parts free waits alone owes) unrooted = refl
  step-image i (skip {s = s} h c x g rest mine parts met) unrooted =
      ap (λ b. with_state i (cond b (unclaimed s) (with_lowered B (unclaimed s) x g))) (met-test s x g met)
  step-image i (lower {s = s} h c x g rest mine parts changes) unrooted =
      ap (λ b. with_state i (cond b (unclaimed s) (with_lowered B (unclaimed s) x g))) (not-met-test s x g changes)
  step-image i (release h c mine) unrooted = refl
  step-image i (finish h c mine over) unrooted = refl
  step-image i (root r d is_start in_range absent) rooted = let no : ⊥ = omega (arith, rooted) in absurd no

  after-append : (i : Image Program Name F) (xs ys : List (ImageStep Program Name F))
      → after_steps_of procedures B same i (xs ++ ys) ≡ after_steps_of procedures B same (after_steps_of procedures B same i xs) ys
  after-append i [] ys = refl
  after-append i (x ∷ xs) ys = after-append (next procedures B same i x) xs ys

  pub way-image : (i : Image Program Name F) {s t : State F} (way : Steps K s t) → seeds_in way ≡ 0
      → after_steps_of procedures B same (with_state i s) (image_steps_in way) ≡ with_state i t
  way-image i none unrooted = refl
  way-image i {s} (more steps happens) unrooted =
      after-append (with_state i s) (image_steps_in steps) (image_steps_of happens)
      ∙ ap (λ j. after_steps_of procedures B same j (image_steps_of happens)) (way-image i steps (omega (arith, unrooted)))
      ∙ step-image i happens (omega (arith, unrooted))
