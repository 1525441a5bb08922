-- The list of records that a journal keeps on its disk.
use Rattle.std.specs.Prelude.{◌≡◌, ◌≢◌, ◌⊎◌, ℕ, ◌+◌, map, List, [], ◌∷◌, ◌++◌, length}
use Rattle.ide_disk.specs.Disk.{settled}
use Rattle.ide_disk.specs.declared.disk.Disk.{Ghosts}
use Rattle.ide_journal.specs.Format.{Entry, Head, header, after_gate, IsEntry, IsPages, Holds}
use Rattle.ide_journal.specs.Stands.{StandsAtGate}
use Rattle.ide_journal.specs.declared.journal.Journal.{Journal}
use Rattle.ide_journal.specs.declared.record.RawRecord.{RawRecord}
use Rattle.ide_journal.specs.declared.stage.Stage.{Stage}
use Rattle.ide_journal.specs.declared.stage.Stage.TheVariants.{Idle, Begun, Written, BodySynced, GateWritten, Failed}

-- a record's kind and body
abbrev pub entry_of : RawRecord → Entry
entry_of raw = (raw.kind, raw.body.items)

abbrev pub entries_of : List RawRecord → List Entry
entries_of records = map entry_of records

-- the file holds these records, or these and one more
abbrev pub HoldsWithOrWithout : Head → List Entry → Entry → List ℕ → Type 0
HoldsWithOrWithout head entries entry bytes = Holds head entries bytes ⊎ Holds head (entries ++ entry ∷ []) bytes

-- what a read gives at a stage: from the write of the gate on the record is there
abbrev pub HoldsAt : Stage → Head → List Entry → Entry → List ℕ → Type 0
HoldsAt Idle head entries entry bytes = Holds head (entries ++ entry ∷ []) bytes
HoldsAt Begun head entries entry bytes = Holds head entries bytes
HoldsAt Written head entries entry bytes = Holds head entries bytes
HoldsAt BodySynced head entries entry bytes = Holds head entries bytes
HoldsAt GateWritten head entries entry bytes = Holds head (entries ++ entry ∷ []) bytes
HoldsAt Failed head entries entry bytes = HoldsWithOrWithout head entries entry bytes

-- these records are stored, and no record is under way
pub record IsAtRest {D : Type 0} {G : Ghosts D} (head : Head) (entries : List Entry) (journal : Journal D G) : Type 0 where
  pub pages : List ℕ
  pub whole : IsPages 0 entries pages
  pub gate : journal.gate ≡ length (header head ++ pages)
  pub count : journal.count ≡ length entries
  pub next : journal.next ≡ length entries
  pub version : journal.version ≡ head.version
  pub stage : journal.stage ≡ Idle
  pub disk : G.state journal.disk ≡ settled (header head ++ pages ++ 0 ∷ [])

-- these records are stored, and one more is under way
pub record IsUnderWay {D : Type 0} {G : Ghosts D} (head : Head) (entries : List Entry) (entry : Entry) (journal : Journal D G) : Type 0 where
  pub pages : List ℕ
  pub whole : IsPages 0 entries pages
  pub proper : IsEntry entry
  pub count : journal.count ≡ length entries
  pub next : journal.next ≡ length entries + 1
  pub version : journal.version ≡ head.version
  pub busy : journal.stage ≢ Idle
  pub stands : StandsAtGate (header head ++ pages) (after_gate (length entries) entry ++ 0 ∷ []) journal
