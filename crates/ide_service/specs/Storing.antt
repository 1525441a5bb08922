-- What the one that writes comes to, and why it is refused.
use Rattle.std.specs.Prelude.{◌≡◌, ◌≤◌, length}
use Rattle.ide_board.specs.Records.{WriterView}
use Rattle.ide_desks.specs.Stepping.{IsStepRefusal}
use Rattle.ide_store.specs.Versioned.{VersionedEntry}
use Rattle.ide_wire.specs.declared.refused.Refused.{Refused}
use Rattle.ide_wire.specs.declared.refused.Refused.TheVariants.{Limit}

-- nothing is taken over, and what was stored stays so
pub record StoresOn (old new : WriterView VersionedEntry) : Type 0 where
  pub board : new.board ≡ old.board
  pub taken : new.taken ≡ old.taken
  pub stored : length old.stored ≤ length new.stored

-- why a committer ends: as a call of a disk is refused; or since there is no number left for a record
pub data IsCommitRefusal : Refused → Type 0 where
  not_stored : {why : Refused} → IsStepRefusal why → IsCommitRefusal why
  no_number : IsCommitRefusal Limit
