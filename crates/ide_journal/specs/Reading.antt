-- Records as they are read.
use Rattle.std.specs.Prelude.{◌≡◌, ◌≢◌, ℕ, ◌+◌, ◌<◌, ◌≤◌, List, ◌++◌, length, drop, slice_index, slice_range}
use Rattle.std.specs.Int.{w32, w64, to_le_bytes}
use Rattle.ide_journal.specs.Format.{Entry, Head, head_of, header, padding, zeros, after_gate, IsEntry, IsPages}
use Rattle.ide_journal.specs.declared.version.Version.{Version}

-- behind an open gate stands no whole record of that number with a gate behind it
abbrev pub IsDamaged : ℕ → List ℕ → Type 0
IsDamaged number bytes = (entry : Entry) (rest : List ℕ) → IsEntry entry → number ≤ 4294967294 → 0 < length rest
    → bytes ≡ after_gate number entry ++ rest → ⊥

-- behind an open gate stands a record with a body of so many bytes, of whatever kind and number, and a gate behind it
pub record IsFramed (count : ℕ) (bytes : List ℕ) : Type 0 where
  pub sized : slice_range bytes 9 13 ≡ to_le_bytes w32 count
  pub short : count ≤ 4194304
  pub filled : slice_range bytes (13 + count) (13 + count + padding count) ≡ zeros (padding count)
  pub inside : 13 + count + padding count < length bytes

-- none stands there
abbrev pub IsUnframed : List ℕ → Type 0
IsUnframed bytes = (count : ℕ) → IsFramed count bytes → ⊥

-- such a record stands there, with a body of so many bytes
pub record IsWholeRecord (number count : ℕ) (bytes : List ℕ) : Type 0 where
  pub low : number ≤ 4294967294
  pub some_kind : 1 ≤ slice_index bytes 0
  pub known_kind : slice_index bytes 0 ≤ 3
  pub numbered : slice_range bytes 1 9 ≡ to_le_bytes w64 number
  pub sized : slice_range bytes 9 13 ≡ to_le_bytes w32 count
  pub short : count ≤ 4194304
  pub filled : slice_range bytes (13 + count) (13 + count + padding count) ≡ zeros (padding count)
  pub inside : 13 + count + padding count < length bytes

-- the bytes begin with that record, which takes so many of them, and a gate stands behind it
pub record IsRead (number : ℕ) (entry : Entry) (size : ℕ) (bytes : List ℕ) : Type 0 where
  pub low : number ≤ 4294967294
  pub proper : IsEntry entry
  pub inside : size < length bytes
  pub split : bytes ≡ after_gate number entry ++ drop size bytes

-- the records up to this gate are whole
pub record AreRead (entries : List Entry) (gate : ℕ) (bytes : List ℕ) : Type 0 where
  pub whole : IsPages 0 entries (slice_range bytes 4096 gate)
  pub behind : 4096 ≤ gate
  pub inside : gate < length bytes
  pub few : length entries ≤ 4294967295

-- the record of that number is open and not whole, and those before it are whole
pub record IsDamagedAt (number : ℕ) (bytes : List ℕ) : Type 0 where
  pub entries : List Entry
  pub gate : ℕ
  pub before : AreRead entries gate bytes
  pub counted : length entries ≡ number
  pub opened : slice_index bytes gate ≢ 0
  pub damaged : IsDamaged number (drop (gate + 1) bytes)

-- the file begins with the first page of a store that tells this, and a gate stands behind it
pub record IsStore (head : Head) (bytes : List ℕ) : Type 0 where
  pub some : 0 < head.tag
  pub inside : 4096 < length bytes
  pub split : bytes ≡ header head ++ drop 4096 bytes

-- the file is a store with that tag, of the one version or the other
abbrev pub IsStoreOf : ℕ → List ℕ → Type 0
IsStoreOf tag bytes = (version : Version) × IsStore (head_of version tag) bytes

-- the file is a store of neither version, with no tag
abbrev pub IsNoStore : List ℕ → Type 0
IsNoStore bytes = (told : Head) → IsStore told bytes → ⊥
