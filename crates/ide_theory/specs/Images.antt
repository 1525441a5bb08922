-- What a core's records tell of it, its image, and what each step of a core does to that.
use Rattle.std.specs.Prelude.{◌≡◌, ℕ, zero, suc, ◌+◌, Bool, true, false, cond, List, [], ◌∷◌, ◌++◌, Option, Some, None, unwrap_or}
use Rattle.std.specs.Option.{is_some}
use Rattle.ide_lattice.specs.Algebra.{EdgeAlgebra}
use Rattle.ide_wire.specs.Key.{same_key}
use Rattle.ide_wire.specs.declared.key.Key.{Key}
use Rattle.ide_wire.specs.declared.key.Key.TheVariants.{Jump}
use Rattle.ide_theory.specs.Frame.{Frame}
use Rattle.ide_theory.specs.Run.{Step, claim, skip, lower, release, finish, root, Steps, none, more, claims_in, lowerings_in, releases_in, seeds_in}
use Rattle.ide_theory.specs.State.{State, put, with_lowered, seeded}

-- of each program: where the procedure of a name begins, and how many facts may hold there
pub record Procedures (Program Name : Type 0) : Type 0 where
  pub start : Program → Name → Option ℕ
  pub entries : Program → ℕ

-- the program, the roots in the order in which they came, the functions, and which keys are pending
pub record Image (Program Name F : Type 0) : Type 0 where
  pub program : Option Program
  pub roots : List Name
  pub get : Key → Option F
  pub pending : Key → Bool

-- a key receives a function, a claim ends whose key was lowered or not, a program is loaded, or a root set
pub data ImageStep (Program Name F : Type 0) : Type 0 where
  Part : Key → F → ImageStep Program Name F
  Finish : Key → Bool → ImageStep Program Name F
  Load : Program → ImageStep Program Name F
  Root : Name → ImageStep Program Name F

-- the program is loaded and nothing is done, or there is none
abbrev pub loaded : {Program Name F : Type 0} → Option Program → Image Program Name F
loaded program = record { program = program; roots = []; get = λ _. None; pending = λ _. false }

-- the image as a state without claims
abbrev pub image_state : {Program Name F : Type 0} → Image Program Name F → State F
image_state i = record { get = i.get; pending = i.pending; claims = λ _. None }

-- the image with the functions and the pending keys of a state
abbrev pub with_state : {Program Name F : Type 0} → Image Program Name F → State F → Image Program Name F
with_state i s = record i { get = s.get; pending = s.pending }

module _ {F L : Type 0} (functions : EdgeAlgebra F L) where
  -- an absent key becomes the identity
  abbrev pub seeded_once : State F → Key → State F
  seeded_once s key = cond (is_some (s.get key)) s (seeded functions s key)

  -- and so does the entry of each of so many facts at the start
  abbrev pub seeded_below : State F → ℕ → ℕ → State F
  seeded_below s r zero = s
  seeded_below s r (suc n) = seeded_once (seeded_below s r n) (Jump r n n)

  -- how many of them were absent
  abbrev pub absent_below : State F → ℕ → ℕ → ℕ
  absent_below s r zero = 0
  absent_below s r (suc n) = absent_below s r n + cond (is_some ((seeded_below s r n).get (Jump r n n))) 0 1

module _ {Program Name F L : Type 0} (procedures : Procedures Program Name) (functions : EdgeAlgebra F L) (same : F → F → Bool) where
  -- whether the key has received the function
  abbrev pub is_met : State F → Key → F → Bool
  is_met s key g = same (functions.meet (unwrap_or (s.get key) functions.all_top) g) (unwrap_or (s.get key) functions.all_top)

  -- the key receives the function, where it has not yet
  abbrev pub received : State F → Key → F → State F
  received s key g = cond (is_met s key g) s (with_lowered functions s key g)

  -- the entries at the start, if the program has the procedure
  abbrev pub root_begun : Program → Option ℕ → State F → State F
  root_begun p None s = s
  root_begun p (Some r) s = seeded_below functions s r (procedures.entries p)

  abbrev pub entered : Option Program → Name → State F → State F
  entered None name s = s
  entered (Some p) name s = root_begun p (procedures.start p name) s

  abbrev pub step : Image Program Name F → ImageStep Program Name F → Image Program Name F
  step i (Part key g) = with_state i (received (image_state i) key g)
  step i (Finish key lowered) = record i { pending = put same_key i.pending key lowered }
  step i (Load p) = loaded (Some p)
  step i (Root name) = record (with_state i (entered i.program name (image_state i))) { roots = i.roots ++ name ∷ [] }

  -- the image after the steps, one after the other
  abbrev pub after_steps_of : Image Program Name F → List (ImageStep Program Name F) → Image Program Name F
  after_steps_of i [] = i
  after_steps_of i (x ∷ xs) = after_steps_of (step i x) xs

-- what a step of a hand is to an image: each part, whether it was met or not, and each end of a claim
abbrev pub image_steps_of : {Program Name : Type 0} {K : Frame} {s t : State K.F} → Step K s t → List (ImageStep Program Name K.F)
image_steps_of (claim h q parts free waits alone owes) = []
image_steps_of (skip h c t g rest mine parts met) = Part t g ∷ []
image_steps_of (lower h c t g rest mine parts changes) = Part t g ∷ []
image_steps_of (release h c mine) = []
image_steps_of (finish h c mine over) = Finish c.key c.lowered ∷ []
image_steps_of (root r d is_start in_range absent) = []

abbrev pub image_steps_in : {Program Name : Type 0} {K : Frame} {s t : State K.F} → Steps K s t → List (ImageStep Program Name K.F)
image_steps_in none = []
image_steps_in (more steps happens) = image_steps_in steps ++ image_steps_of happens

-- the test finds functions that are the same
pub record IsSame {F : Type 0} (same : F → F → Bool) : Type 0 where
  pub exact : (f g : F) → same f g ≡ true → f ≡ g
  pub refl : (f : F) → same f f ≡ true

-- so many entries of roots, and no other step, lead from the one state to the other
pub record AreSeeds (K : Frame) (s t : State K.F) (count : ℕ) : Type 0 where
  pub way : Steps K s t
  pub seeds : seeds_in way ≡ count
  pub claims : claims_in way ≡ 0
  pub lowerings : lowerings_in way ≡ 0
  pub releases : releases_in way ≡ 0
