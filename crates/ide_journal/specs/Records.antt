-- What each call of a journal does to its list, whatever list that is.
use Rattle.std.specs.Prelude.{◌⊎◌, List, [], ◌∷◌, ◌++◌}
use Rattle.ide_disk.specs.declared.disk.Disk.{Ghosts}
use Rattle.ide_journal.specs.Format.{Entry, Head}
use Rattle.ide_journal.specs.Lists.{IsAtRest, IsUnderWay, HoldsAt, HoldsWithOrWithout}
use Rattle.ide_journal.specs.Moments.{LeavesOnly}
use Rattle.ide_journal.specs.declared.journal.Journal.{Journal}

-- the journal stays at rest with its records
abbrev pub StaysAtRest : {D : Type 0} {G : Ghosts D} → Journal D G → Journal D G → Type 0
StaysAtRest old new = (head : Head) → (entries : List Entry) → IsAtRest head entries old → IsAtRest head entries new

-- the record is put under way behind the stored ones
abbrev pub PutsUnderWay : {D : Type 0} {G : Ghosts D} → Entry → Journal D G → Journal D G → Type 0
PutsUnderWay entry old new = (head : Head) → (entries : List Entry) → IsAtRest head entries old → IsUnderWay head entries entry new

-- the record under way stays so, or is stored
abbrev pub KeepsOrStores : {D : Type 0} {G : Ghosts D} → Journal D G → Journal D G → Type 0
KeepsOrStores old new = (head : Head) → (entries : List Entry) → (entry : Entry) → IsUnderWay head entries entry old
    → IsAtRest head (entries ++ entry ∷ []) new ⊎ IsUnderWay head entries entry new

-- a read gives the stored records, and from the write of the gate on the one under way with them
abbrev pub GivesRecords : {D : Type 0} {G : Ghosts D} → Journal D G → Journal D G → Type 0
GivesRecords {G = G} old new = (head : Head) → (entries : List Entry) → (entry : Entry) → IsUnderWay head entries entry old
    → HoldsAt new.stage head entries entry (G.state new.disk).now

-- a crash at any moment of the call leaves the stored records, or these and the one under way
abbrev pub LeavesRecords : {D : Type 0} {G : Ghosts D} → Journal D G → Journal D G → Type 0
LeavesRecords {G = G} old new = (head : Head) → (entries : List Entry) → (entry : Entry) → IsUnderWay head entries entry old
    → LeavesOnly G old.disk new.disk (HoldsWithOrWithout head entries entry)
