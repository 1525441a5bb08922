-- Why an opening is refused, from what its parts were refused for.
use Rattle.std.specs.Prelude.{◌≡◌, ◌⊎◌, ℕ, List, Result, Ok, Err, IfErr}
use Rattle.std.proofs.Common.{inl, inr, sym, subst}
use Rattle.ide_disk.specs.Disk.{settled}
use Rattle.ide_disk.specs.OneCall.{FailsOnce}
use Rattle.ide_disk.specs.declared.disk.Disk.{Ghosts}
use Rattle.ide_wire.specs.declared.refused.Refused.{Refused}
use Rattle.ide_wire.specs.declared.refused.Refused.TheVariants.{NoMemory, Disk}
use Rattle.ide_journal.specs.Reading.{IsStoreOf}
use Rattle.ide_journal.specs.Refusals.{IsRecordRefusal, record_memory, record_damaged, IsFileRefusal, no_memory, damaged, IsOpenRefusal, open_device, open_file}

-- what holds of a refusal holds of what is handed on
pub handed-on : {T E : Type 0} (P : E → Type 0) (result : Result T E) (given handed : E) → result ≡ Err handed → handed ≡ given → P given → IfErr result P
handed-on P result given handed is same h = subst (λ r. IfErr r P) (sym is) (subst P (sym same) h)

-- in a store with that tag, a record that is not read refuses the file
pub file_refused : (tag : ℕ) (bytes : List ℕ) (refused : Refused) → IsStoreOf tag bytes → IsRecordRefusal bytes refused → IsFileRefusal tag bytes refused
file_refused tag bytes refused store record_memory = no_memory
file_refused tag bytes refused store (record_damaged at) = damaged store at

-- the bytes are not all read, for want of memory or by a call of the disk that failed
pub read_refused : {D : Type 0} (G : Ghosts D) (tag : ℕ) (old new : D) (refused : Refused) → (refused ≡ NoMemory) ⊎ (refused ≡ Disk)
    → (refused ≡ Disk → FailsOnce G old new) → G.state new ≡ settled (G.state old).now → IsOpenRefusal G tag old new refused
read_refused G tag old new refused why fails state = elim why [
  | inl memory ↦ subst (λ (r : Refused). IsOpenRefusal G tag old new r) (sym memory) (open_file no_memory state)
  | inr device ↦ subst (λ (r : Refused). IsOpenRefusal G tag old new r) (sym device) (open_device (fails device))
]

-- the bytes that were read are no store, or not whole
pub load_refused : {D T : Type 0} (G : Ghosts D) (tag : ℕ) (old new : D) (bytes : List ℕ) (result : Result T Refused)
    → bytes ≡ (G.state old).now → G.state new ≡ settled (G.state old).now
    → IfErr result (IsFileRefusal tag bytes) → IfErr result (IsOpenRefusal G tag old new)
load_refused G tag old new bytes (Ok loaded) are state refusal = tt
load_refused G tag old new bytes (Err refused) are state refusal =
    open_file (subst (λ (xs : List ℕ). IsFileRefusal tag xs refused) are refusal) state
