-- Why values are refused, of what was tested.
use Rattle.std.proofs.Common.{◌≡◌, ℕ, ◌<◌, ◌⊎◌, inl, inr, Result, Ok, Err, sym, subst}
use Rattle.std.specs.Prelude.{IfErr}
use Rattle.ide_wire.specs.declared.refused.Refused.{Refused}
use Rattle.ide_wire.specs.declared.refused.Refused.TheVariants.{Limit, NoMemory}
use Rattle.ide_values.specs.Refusal.{AreWorkers, IsValuesRefusal, memory, no_worker, too_many}

pub not_workers : (workers : ℕ) → (workers ≡ 0) ⊎ (64 < workers) → IsValuesRefusal workers Limit
not_workers workers (inl none) = no_worker none
not_workers workers (inr past) = too_many past

-- a call for workers that is refused for want of memory alone
pub wants_memory : {T : Type 0} (workers : ℕ) (result : Result T Refused) → AreWorkers workers
    → IfErr result (λ e. e ≡ NoMemory) → IfErr result (IsValuesRefusal workers)
wants_memory workers (Ok x) are is = is
wants_memory workers (Err e) are is = subst (IsValuesRefusal workers) (sym is) (memory are)
