-- Why a hand's claim is refused.
use Rattle.std.specs.Prelude.{◌≡◌, ℕ, ◌<◌, ◌≤◌, true, false, None, IsSome}
use Rattle.ide_wire.specs.declared.key.Key.{Key}
use Rattle.ide_wire.specs.declared.refused.Refused.{Refused}
use Rattle.ide_wire.specs.declared.refused.Refused.TheVariants.{Busy, Limit, NoMemory, NoProgram}
use Rattle.ide_image.specs.Worklist.{claim_at, is_claimed, is_pending}
use Rattle.ide_steps.specs.Core.{CoreData, is_loaded}

-- the hand may claim a key: there is such a hand, a program is loaded, and the hand has no claim
pub record MayClaim {F : Type 0} (core : CoreData F) (hand : ℕ) : Type 0 where
  pub within : hand < 64
  pub loaded : is_loaded core ≡ true
  pub free : claim_at core.pile hand ≡ None

-- why it may not; or it may, and some pending key is no hand's, and memory is wanting
pub data IsClaimRefusal {F : Type 0} (core : CoreData F) (hand : ℕ) : Refused → Type 0 where
  limit : 64 ≤ hand → IsClaimRefusal core hand Limit
  no_program : hand < 64 → is_loaded core ≡ false → IsClaimRefusal core hand NoProgram
  busy : hand < 64 → is_loaded core ≡ true → IsSome (claim_at core.pile hand) → IsClaimRefusal core hand Busy
  memory : MayClaim core hand → (key : Key) → is_pending core.pile key ≡ true → is_claimed core.pile key ≡ false
      → IsClaimRefusal core hand NoMemory
