-- Records of a slot as they are read.
use Rattle.std.specs.Prelude.{◌≡◌, ◌≢◌, ℕ, ◌+◌, ◌<◌, ◌≤◌, map, List, [], ◌∷◌, ◌++◌, length, drop, slice_index, slice_range}
use Rattle.std.specs.Int.{w32, w64, to_le_bytes}
use Rattle.ide_journal.specs.Format.{IsEntry, after_gate, padding, zeros}
use Rattle.ide_journal.specs.Lists.{entry_of}
use Rattle.ide_slots.specs.Slot.{HavePages, IsCommandEntry, IsPartEntry, NumberedEntry, SlotHead}
use Rattle.ide_slots.specs.declared.record.NumberedRecord.{NumberedRecord}

-- a record's number, kind and body
abbrev pub numbered : NumberedRecord → NumberedEntry
numbered found = (found.number, entry_of found.raw)

abbrev pub all_numbered : List NumberedRecord → List NumberedEntry
all_numbered records = map numbered records

-- what may stand at a place of a slot, behind records whose numbers end before from: first come the commands, under ascending
-- numbers below the base; then the parts, numbered from 0 on; then the others, numbered from the base on
pub data MayStand (told : SlotHead) (from place : ℕ) (r : NumberedEntry) : Type 0 where
  as_command : place < told.commands → IsCommandEntry r.1 → from ≤ r.0 → r.0 < told.base → MayStand told from place r
  as_part : told.commands ≤ place → place < told.commands + told.parts → IsPartEntry r.1 → told.commands + r.0 ≡ place
      → MayStand told from place r
  as_other : told.commands + told.parts ≤ place → IsEntry r.1 → told.commands + told.parts + r.0 ≡ told.base + place
      → r.0 ≤ 4294967294 → MayStand told from place r

-- each of the records may stand where it does, the first at this place
abbrev pub AreInPlace : SlotHead → ℕ → ℕ → List NumberedEntry → Type 0
AreInPlace told from place [] = Unit {0}
AreInPlace told from place (r ∷ records) = MayStand told from place r × AreInPlace told (r.0 + 1) (place + 1) records

-- where the numbers of these records end
abbrev pub end_of_numbers : ℕ → List NumberedEntry → ℕ
end_of_numbers from [] = from
end_of_numbers from (r ∷ records) = end_of_numbers (r.0 + 1) records

-- bytes behind an open gate begin with that record, which takes so many of them, and a gate stands behind it
pub record IsReadRecord (r : NumberedEntry) (size : ℕ) (bytes : List ℕ) : Type 0 where
  pub low : r.0 ≤ 4294967295
  pub short : length r.1.1 ≤ 4194304
  pub inside : size < length bytes
  pub split : bytes ≡ after_gate r.0 r.1 ++ drop size bytes

-- the same of a record that was read, with how many bytes it takes
abbrev pub IsReadAt : List ℕ → NumberedRecord × ℕ → Type 0
IsReadAt bytes pair = IsReadRecord (numbered pair.0) pair.1 bytes

-- it may stand at this place
abbrev pub MayStandAt : SlotHead → ℕ → ℕ → NumberedRecord × ℕ → Type 0
MayStandAt told from place pair = MayStand told from place (numbered pair.0)

-- they begin with no record that may stand at this place
abbrev pub NoneStands : SlotHead → ℕ → ℕ → List ℕ → Type 0
NoneStands told from place bytes =
    (r : NumberedEntry) (size : ℕ) → IsReadRecord r size bytes → MayStand told from place r → ⊥

-- they begin with a record of that number, whose body has so many bytes
pub record IsFrame (number count : ℕ) (bytes : List ℕ) : Type 0 where
  pub low : number ≤ 4294967295
  pub numbered : slice_range bytes 1 9 ≡ to_le_bytes w64 number
  pub sized : slice_range bytes 9 13 ≡ to_le_bytes w32 count
  pub short : count ≤ 4194304
  pub filled : slice_range bytes (13 + count) (13 + count + padding count) ≡ zeros (padding count)
  pub inside : 13 + count + padding count < length bytes

-- they begin with none
abbrev pub HasNoRecord : List ℕ → Type 0
HasNoRecord bytes = (r : NumberedEntry) (size : ℕ) → IsReadRecord r size bytes → ⊥

-- the records up to this gate are whole, and each in its place
pub record AreReadSo (told : SlotHead) (records : List NumberedEntry) (gate : ℕ) (bytes : List ℕ) : Type 0 where
  pub whole : HavePages records (slice_range bytes 4096 gate)
  pub places : AreInPlace told 0 0 records
  pub behind : 4096 ≤ gate
  pub inside : gate < length bytes

-- behind these records the next one lacks: the gate is closed before the parts are complete, or behind an open gate no record
-- stands that may stand there
pub data Lacks (told : SlotHead) (records : List NumberedEntry) (gate : ℕ) (bytes : List ℕ) : Type 0 where
  missing : slice_index bytes gate ≡ 0 → length records < told.commands + told.parts → Lacks told records gate bytes
  broken : slice_index bytes gate ≢ 0
      → NoneStands told (end_of_numbers 0 records) (length records) (drop (gate + 1) bytes) → Lacks told records gate bytes

-- so many records are whole, and the next one lacks
pub record IsDamagedAt (told : SlotHead) (bytes : List ℕ) (place : ℕ) : Type 0 where
  pub records : List NumberedEntry
  pub gate : ℕ
  pub before : AreReadSo told records gate bytes
  pub counted : length records ≡ place
  pub lacks : Lacks told records gate bytes
