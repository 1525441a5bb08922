-- Why a core's image is not taken, copied or as it is.
use Rattle.std.specs.Prelude.{◌≡◌, ◌≢◌, [], true, false}
use Rattle.ide_wire.specs.declared.refused.Refused.{Refused}
use Rattle.ide_wire.specs.declared.refused.Refused.TheVariants.{NoMemory, NoProgram, Unfinished}
use Rattle.ide_steps.specs.Core.{CoreData, is_loaded}

-- why no image can be taken: no program is loaded, or some key is pending
pub data CloseFault {F : Type 0} (core : CoreData F) : Refused → Type 0 where
  no_program : is_loaded core ≡ false → CloseFault core NoProgram
  unfinished : is_loaded core ≡ true → core.pile.pending ≢ [] → CloseFault core Unfinished

-- why it is not copied: it cannot be taken, or it could be but for want of memory
pub data IsFreezeRefusal {F : Type 0} (core : CoreData F) : Refused → Type 0 where
  fault : {refused : Refused} → CloseFault core refused → IsFreezeRefusal core refused
  memory : is_loaded core ≡ true → core.pile.pending ≡ [] → IsFreezeRefusal core NoMemory
