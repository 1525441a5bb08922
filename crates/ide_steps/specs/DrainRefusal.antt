-- Why a core is not drained.
use Rattle.std.specs.Prelude.{◌≡◌, ℕ, true, false, None, IsSome, nat_eq}
use Rattle.ide_wire.specs.declared.refused.Refused.{Refused}
use Rattle.ide_wire.specs.declared.refused.Refused.TheVariants.{Busy, NoMemory, NoProgram, Unfinished}
use Rattle.ide_image.specs.Worklist.{claim_at, IsFree}
use Rattle.ide_steps.specs.Core.{CoreData, is_loaded}

-- the core may be drained: a program is loaded, and no hand has a claim
pub record MayDrain {F : Type 0} (core : CoreData F) : Type 0 where
  pub loaded : is_loaded core ≡ true
  pub free : IsFree core.pile

-- why it may not
pub data IsNoDrain {F : Type 0} (core : CoreData F) : Refused → Type 0 where
  no_program : is_loaded core ≡ false → IsNoDrain core NoProgram
  busy : is_loaded core ≡ true → IsSome (claim_at core.pile 0) → IsNoDrain core Busy
  unfinished : is_loaded core ≡ true → claim_at core.pile 0 ≡ None
      → (hand : ℕ) → nat_eq 0 hand ≡ false → IsSome (claim_at core.pile hand) → IsNoDrain core Unfinished

-- why it is not drained: it may not; or it may, and memory is wanting
pub data IsDrainRefusal {F : Type 0} (core : CoreData F) : Refused → Type 0 where
  no_drain : {refused : Refused} → IsNoDrain core refused → IsDrainRefusal core refused
  memory : MayDrain core → IsDrainRefusal core NoMemory
