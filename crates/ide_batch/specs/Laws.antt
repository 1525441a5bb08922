-- That bodies are told apart.
use Rattle.std.specs.Prelude.{◌≡◌, List, ◌++◌, ℕ, length}
use Rattle.ide_journal.specs.declared.version.Version.{Version}
use Rattle.ide_batch.specs.Bodies.{IsBody}
use Rattle.ide_batch.specs.Items.{Functions}
use Rattle.ide_batch.specs.Records.{RecordValue, record_kind}

-- no two records of one kind have bodies of one length of which one begins what the other begins: so none share a
-- body, and nothing that follows a body changes what it spells
abbrev pub BodiesAreApart : {F : Type 0} → Functions F → Type 0
BodiesAreApart {F = F} functions = (version : Version) (x y : RecordValue F) (a b rest behind : List ℕ) → record_kind x ≡ record_kind y
    → IsBody functions version x a → IsBody functions version y b → length a ≡ length b → a ++ rest ≡ b ++ behind → x ≡ y
