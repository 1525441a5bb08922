-- What each command prints.
use Rattle.std.specs.Global.{Vec}
use Rattle.std.specs.Borrow.{Bor}
use Rattle.std.specs.Prelude.{◌≡◌, ◌++◌, ℕ, Bool, true, false, List, []}
use Rattle.ide_commands.specs.Counts.{AppendsCounts}
use Rattle.ide_words.specs.declared.words.Instance.{Instance}
use Rattle.ide_words.specs.declared.words.StoreCommand.TheVariants.{Dump}
use Rattle.ide_words.specs.declared.words.Words.{Words}
use Rattle.ide_words.specs.declared.words.Words.TheVariants.{Once, Check, Explain, Create, Adopt, On}
use Rattle.ide_cli.specs.Dump.{IsDump}
use Rattle.ide_cli.specs.Explained.{explained}
use Rattle.ide_cli.specs.Stores.{DumpsOver, IsObeyed, OpenStore, adopted_line, created_line}

-- the answer of the command is appended. No clause says what a file holds, so it is the answer over some text, or over some
-- store. What solves a text in memory appends nothing: it writes its dump itself
abbrev pub AppendsAnswer : Words → (old new : Vec ℕ) → Type 0
AppendsAnswer (Once instance file procedure workers) old new = ⊥
AppendsAnswer (Check file) old new = (text : List ℕ) × AppendsCounts text old.items new.items
AppendsAnswer (Explain name) old new = new.items ≡ old.items ++ explained name.now
AppendsAnswer (Create store instance) old new = new.items ≡ old.items ++ created_line
AppendsAnswer (Adopt store) old new = new.items ≡ old.items ++ adopted_line
AppendsAnswer (On store command) old new = IsObeyed command old new

-- the command is one that solves a text in memory
abbrev pub is_once : Words → Bool
is_once (Once instance file procedure workers) = true
is_once (Check file) = false
is_once (Explain name) = false
is_once (Create store instance) = false
is_once (Adopt store) = false
is_once (On store command) = false

-- the text is such an answer, and nothing else: it is all that stands in a list that was empty; or it is the dump of some text,
-- or of some store, which are not appended but written
pub data IsPrinted : Words → List ℕ → Type 0 where
  appended : {words : Words} {text : List ℕ} (before after : Vec ℕ) → before.items ≡ [] → AppendsAnswer words before after → after.items ≡ text
      → IsPrinted words text
  dumped : {instance : Instance} {file procedure : Bor (List ℕ)} {workers : ℕ} (text dump : List ℕ) → IsDump instance text procedure.now dump
      → IsPrinted (Once instance file procedure workers) dump
  shown : {name : Bor (List ℕ)} (store : OpenStore) (dump : List ℕ) → DumpsOver store dump → IsPrinted (On name Dump) dump
