-- A new store on two disks.
use Rattle.std.specs.Prelude.{◌≡◌, ℕ, [], None, Result, IfErr}
use Rattle.ide_disk.specs.OneCall.{FailsOnce}
use Rattle.ide_disk.specs.declared.disk.Disk.{Ghosts}
use Rattle.ide_journal.specs.Format.{Head, head_of}
use Rattle.ide_journal.specs.declared.version.Version.TheVariants.{Two}
use Rattle.ide_slots.specs.Slot.{Slot, first_slot}
use Rattle.ide_wire.specs.declared.refused.Refused.{Refused}
use Rattle.ide_wire.specs.declared.refused.Refused.TheVariants as refusals
use Rattle.ide_slot_journal.specs.Stands.{StandsOn}
use Rattle.ide_slot_journal.specs.declared.journal.SlotJournal.{SlotJournal}

-- the journal stands with no record
abbrev pub StandsEmpty : {D : Type 0} {G : Ghosts D} → Head → SlotJournal D G → Type 0
StandsEmpty head journal = (other : Slot) → StandsOn (first_slot head []) None other journal

-- a store with that tag, which is of the second version
abbrev pub StandsNew : {D : Type 0} {G : Ghosts D} → (tag : ℕ) → SlotJournal D G → Type 0
StandsNew tag journal = StandsEmpty (head_of Two tag) journal

-- no call of A, now the current disk, or of B failed
pub record FailsNever {D : Type 0} (G : Ghosts D) (a b : D) (journal : SlotJournal D G) : Type 0 where
  pub first : G.failures journal.current ≡ G.failures a
  pub second : G.failures journal.other ≡ G.failures b

-- honest disks that come back beside a refusal are honest still
abbrev pub ComeBackHonest : {D T : Type 0} → Ghosts D → (a b : D) → Result T (Refused × D × D) → Type 0
ComeBackHonest G a b result = G.honest a → G.honest b → IfErr result (λ all. G.honest all.1 × G.honest all.2)

-- why no store is made: want of memory, which leaves the disks as they were; or a call of A failed, before any of B; or
-- one of B
pub data IsMakingRefusal {D : Type 0} (G : Ghosts D) (a b new_a new_b : D) : Refused → Type 0 where
  making_memory : new_a ≡ a → new_b ≡ b → IsMakingRefusal G a b new_a new_b refusals.NoMemory
  making_first : FailsOnce G a new_a → new_b ≡ b → IsMakingRefusal G a b new_a new_b refusals.Disk
  making_second : G.failures new_a ≡ G.failures a → FailsOnce G b new_b → IsMakingRefusal G a b new_a new_b refusals.Disk
