-- A file of records behind gates.
use Rattle.std.specs.Prelude.{◌≡◌, ◌≢◌, ℕ, ◌+◌, ◌-◌, ◌%◌, ◌≤◌, List, [], ◌∷◌, ◌++◌, length, replicate}
use Rattle.std.specs.Int.{w32, w64, to_le_bytes}
use Rattle.ide_journal.specs.declared.version.Version.{Version}
use Rattle.ide_journal.specs.declared.version.Version.TheVariants.{One, Two}

-- a record's kind and body
abbrev pub Entry : Type 0
Entry = ℕ × List ℕ

-- so many zeros
unfoldable pub zeros : ℕ → List ℕ
zeros count = replicate count 0

-- what the first page tells: how the store spells its batches, and for which instance it is
pub record Head : Type 0 where
  pub version : Version
  pub tag : ℕ

abbrev pub head_of : Version → ℕ → Head
head_of version tag = record { version = version; tag = tag }

-- the letters IDEJRNL1, or IDEJRNL2
abbrev pub letters : Version → List ℕ
letters One = 73 ∷ 68 ∷ 69 ∷ 74 ∷ 82 ∷ 78 ∷ 76 ∷ 49 ∷ []
letters Two = 73 ∷ 68 ∷ 69 ∷ 74 ∷ 82 ∷ 78 ∷ 76 ∷ 50 ∷ []

-- the first page: the letters, the tag, zeros
unfoldable pub header : Head → List ℕ
header head = letters head.version ++ head.tag ∷ zeros 4087

-- how many zeros fill the last page of a record whose body has so many bytes; 14 bytes stand before the body
unfoldable pub padding : ℕ → ℕ
padding count = (4096 - (14 + count) % 4096) % 4096

-- a record behind its gate: kind, number, length of the body, body, zeros
unfoldable pub after_gate : ℕ → Entry → List ℕ
after_gate number entry =
    entry.0 ∷ [] ++ to_le_bytes w64 number ++ to_le_bytes w32 (length entry.1) ++ entry.1 ++ zeros (padding (length entry.1))

-- a kind that there is, and a body within the limit
pub record IsEntry (entry : Entry) : Type 0 where
  pub some_kind : 1 ≤ entry.0
  pub known_kind : entry.0 ≤ 3
  pub short : length entry.1 ≤ 4194304

-- the pages are those of the records, each behind an open gate and with its number
abbrev pub IsPages : ℕ → List Entry → List ℕ → Type 0
IsPages number [] pages = pages ≡ []
IsPages number (entry ∷ entries) pages =
    (gate : ℕ) × (rest : List ℕ) × (gate ≢ 0) × IsEntry entry × (pages ≡ gate ∷ after_gate number entry ++ rest) × IsPages (number + 1) entries rest

-- a file holds the records: the header, their pages, a closed gate, and then anything
pub record Holds (head : Head) (entries : List Entry) (bytes : List ℕ) : Type 0 where
  pub pages : List ℕ
  pub rest : List ℕ
  pub whole : IsPages 0 entries pages
  pub few : length entries ≤ 4294967295
  pub split : bytes ≡ header head ++ pages ++ 0 ∷ rest
