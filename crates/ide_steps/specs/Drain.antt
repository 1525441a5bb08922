-- What falls with each task, and what pays for it.
use Rattle.std.specs.Prelude.{◌≡◌, ℕ, ◌+◌, ◌-◌, ◌*◌, ◌^◌, ◌<◌, ◌≤◌, ◌⊎◌, Bool, Option, Result, Ok, if◌then◌else◌, length, min}
use Rattle.ide_lattice.specs.Algebra.{LatticeAlgebra, EdgeAlgebra}
use Rattle.ide_problem.specs.Flow.{Targets}
use Rattle.ide_image.specs.Spent.{spent}
use Rattle.ide_image.specs.Worklist.{Pile, claim_at, ends_key}
use Rattle.ide_image.specs.declared.claim.Claim.{Claim}
use Rattle.ide_steps.specs.declared.part.Parted.{Parted}
use Rattle.ide_steps.specs.declared.part.Parted.TheVariants.{Lowered, Same, NoPart}
use Rattle.ide_steps.specs.Core.{CoreData}
use Rattle.ide_steps.specs.Going.{GoesOnByHand}

-- a claim whose key was lowered leaves the key pending at its end
abbrev pub left_by : {T : Type 0} → Option (Claim T) → ℕ
left_by claim = if ends_key claim then 0 else 1

-- the end of the hand's claim takes its key out of the pending ones, unless the key was lowered
abbrev pub TakesOut : {T : Type 0} → ℕ → (old new : Pile T) → Type 0
TakesOut hand old new = length new.pending + (if ends_key (claim_at old hand) then 1 else 0) ≡ length old.pending

module _ {F L : Type 0} (B : EdgeAlgebra F L) where
  -- twice the ranks that the functions of so many entries as can be counted have still to lose, and the
  -- pending keys: to lower an entry makes at most one more key pending
  abbrev pub potential : CoreData F → ℕ
  potential core = 2 * (2 ^ 64 * B.height - spent B core.table.entries) + length core.pile.pending

  -- there is less to do than before
  abbrev pub HasLess : (old new : CoreData F) → Type 0
  HasLess old new = potential new < potential old

  -- so many claims and lowerings of keys are paid for: each claim by a key that is no longer pending, or
  -- by a lowering; and each lowering by a rank that a function lost
  pub record ArePaid (claims lowerings : ℕ) (old new : CoreData F) : Type 0 where
    pub keys : claims + length new.pile.pending ≤ length old.pile.pending + lowerings
    pub ranks : lowerings + spent B old.table.entries ≤ spent B new.table.entries

  -- the same with no claim; a hand that goes on with its own may have to pay for its key once more
  pub record IsPaidBy (hand lowerings : ℕ) (old new : CoreData F) : Type 0 where
    pub keys : length new.pile.pending + left_by (claim_at new.pile hand) ≤ length old.pile.pending + left_by (claim_at old.pile hand) + lowerings
    pub ranks : lowerings + spent B old.table.entries ≤ spent B new.table.entries

  -- there is as much to do as before, and the end of the hand's claim takes its key out if it did before
  abbrev pub IsStill : ℕ → (old new : CoreData F) → Type 0
  IsStill hand old new = (potential new ≡ potential old) × (ends_key (claim_at new.pile hand) ≡ ends_key (claim_at old.pile hand))

  -- there is less to do than before, or as much
  abbrev pub HasNoMore : ℕ → (old new : CoreData F) → Type 0
  HasNoMore hand old new = (HasLess old new) ⊎ (IsStill hand old new)

-- a part that lowered its key is one lowering
abbrev pub lowerings_by : Parted → ℕ
lowerings_by Lowered = 1
lowerings_by Same = 0
lowerings_by NoPart = 0

-- a part was done
abbrev pub HasDonePart : {E : Type 0} → Result Parted E → Type 0
HasDonePart result = (result ≡ Ok Lowered) ⊎ (result ≡ Ok Same)

-- the lowering that the part may be is paid for
abbrev pub IsPartPaid : {F L : Type 0} → EdgeAlgebra F L → ℕ → (old new : CoreData F) → Parted → Type 0
IsPartPaid B hand old new parted = IsPaidBy B hand (lowerings_by parted) old new

module _ {F L : Type 0} (A : LatticeAlgebra L) (B : EdgeAlgebra F L) (targets : Targets F) where
  -- so many claims of hand 0, with some number of lowerings, lead from the one core's state to the
  -- other's, and are paid for; none is given back
  pub record GoesOnPaid (claims : ℕ) (old new : CoreData F) : Type 0 where
    pub lowerings : ℕ
    pub goes : GoesOnByHand A B targets 0 claims lowerings 0 old new
    pub paid : ArePaid B claims lowerings old new

  -- so many tasks were claimed and are paid for, told up to the largest number of 64 bits
  abbrev pub Drains : (old new : CoreData F) → ℕ → Type 0
  Drains old new tasks = (claims : ℕ) × (tasks ≡ min claims (2 ^ 64 - 1)) × GoesOnPaid claims old new
