-- Where records go over from one version to the other.
use Rattle.std.specs.Prelude.{Bool, true, false, List, [], ◌∷◌, None}
use Rattle.ide_board.specs.Records.{Marked}
use Rattle.ide_journal.specs.declared.version.Version.{Version}
use Rattle.ide_journal.specs.declared.version.Version.TheVariants.{Two}

-- what a board has, on which it is noted once that a checkpoint began
abbrev pub noted_once : Bool → List (Marked (Unit {0}))
noted_once false = []
noted_once true = (tt, None) ∷ []

-- the version in which records are sealed: that of the beginning, until it is noted that a checkpoint began
abbrev pub version_after : {R : Type 0} → Version → (noted : List R) → Version
version_after version [] = version
version_after version (x ∷ noted) = Two
