-- The command line of the program: its commands, and the words that each takes.
use Rattle.std.specs.Prelude.{◌≡◌, ℕ, List, [], ◌∷◌, Some, codes, false, map, true}
use Rattle.std.specs.Borrow.{Bor}
use Rattle.clap.specs.Simple.{App, Shape, new_shape}
use Rattle.clap.specs.Walk.{Rule, Text, texts}
use Rattle.clap.specs.Words.{app_of, new_rule}
use Rattle.clap.specs.declared.builder.command.Command.TheViews.{out-Command as fields_of}
use Rattle.clap.specs.declared.builder.action.ArgAction.TheVariants.{Set, SetTrue}
use Rattle.clap.specs.declared.builder.value_parser.ValueParser.TheVariants.{Names, Unsigned}
use Rattle.clap.specs.declared.builder.command.Command.{Command}
use Rattle.ide_words.specs.declared.words.Instance.{Instance}
use Rattle.ide_words.specs.declared.words.Instance.TheVariants.{Uninit, Copy, Shift}

-- a word that a command wants
abbrev pub wanted : Text → Rule
wanted name = record (new_rule name) { action = Some Set; required = true }

-- one that is to be among these
abbrev pub wanted_among : Bor (List (Bor Text)) → Text → Rule
wanted_among choices name = record (wanted name) { parser = Some (Names choices) }

-- the word is to be a number from the one up to the other
abbrev pub number_between : ℕ → ℕ → Rule → Rule
number_between least most word = record word { parser = Some (Unsigned least most) }

-- a word behind an option, and what it is where the option is left out
abbrev pub defaulted : (name option default : Text) → Rule
defaulted name option default = record (new_rule name) { long = Some option; action = Some Set; defaults = default ∷ [] }

-- `--workers N`, 1 to 64; where it is left out, 1
abbrev pub workers : Rule
workers = number_between 1 64 (defaulted (codes "N") (codes "workers") (codes "1"))

-- `--quiet`
abbrev pub quiet : Rule
quiet = record (new_rule (codes "quiet")) { long = Some (codes "quiet"); action = Some SetTrue }

-- `--checkpoint-every RECORDS`, 1 to 4294967295; where it is left out, 1024
abbrev pub checkpoint_every : Rule
checkpoint_every = number_between 1 4294967295 (defaulted (codes "RECORDS") (codes "checkpoint-every") (codes "1024"))

-- a command and the words that it takes
abbrev pub command : Text → List Rule → Shape
command name words = record (new_shape name) { rules = words }

-- a command on a store, which is its first word
abbrev pub on_store : Text → List Rule → Shape
on_store name words = command name (wanted (codes "STORE") ∷ words)

-- the name of an analysis
abbrev pub name_of : Instance → Text
name_of Uninit = codes "uninit"
name_of Copy = codes "copy"
name_of Shift = codes "shift"

-- the names of the analyses
abbrev pub AreAnalyses : Bor (List (Bor Text)) → Type 0
AreAnalyses choices = texts choices.now ≡ map name_of (Uninit ∷ Copy ∷ Shift ∷ [])

-- `once INSTANCE FILE PROC --workers N`, `check FILE` and `explain NAME`
abbrev pub once : Bor (List (Bor Text)) → Shape
once analyses = command (codes "once")
    (wanted_among analyses (codes "INSTANCE") ∷ wanted (codes "FILE") ∷ wanted (codes "PROC") ∷ workers ∷ [])

-- the same without `--workers N`
abbrev pub once_alone : Bor (List (Bor Text)) → Shape
once_alone analyses = command (codes "once") (wanted_among analyses (codes "INSTANCE") ∷ wanted (codes "FILE") ∷ wanted (codes "PROC") ∷ [])

abbrev pub check : Shape
check = command (codes "check") (wanted (codes "FILE") ∷ [])

abbrev pub explain : Bor (List (Bor Text)) → Shape
explain names = command (codes "explain") (wanted_among names (codes "NAME") ∷ [])

-- `create STORE INSTANCE`, `adopt STORE`, `load STORE FILE` and `root STORE PROC`
abbrev pub create : Bor (List (Bor Text)) → Shape
create analyses = on_store (codes "create") (wanted_among analyses (codes "INSTANCE") ∷ [])

abbrev pub adopt : Shape
adopt = on_store (codes "adopt") []

abbrev pub load : Shape
load = on_store (codes "load") (wanted (codes "FILE") ∷ [])

abbrev pub root : Shape
root = on_store (codes "root") (wanted (codes "PROC") ∷ [])

-- `work STORE --workers N --quiet --checkpoint-every RECORDS`, `checkpoint STORE` and `migrate STORE`
abbrev pub work : Shape
work = on_store (codes "work") (workers ∷ quiet ∷ checkpoint_every ∷ [])

abbrev pub checkpoint : Shape
checkpoint = on_store (codes "checkpoint") []

abbrev pub migrate : Shape
migrate = on_store (codes "migrate") []

-- `ask STORE PROC NODE FACT`, `dump STORE` and `status STORE`
abbrev pub ask : Shape
ask = on_store (codes "ask") (wanted (codes "PROC") ∷ number_between 0 4294967295 (wanted (codes "NODE")) ∷ wanted (codes "FACT") ∷ [])

abbrev pub dump : Shape
dump = on_store (codes "dump") []

abbrev pub status : Shape
status = on_store (codes "status") []

-- what may be asked of the program, where `once` and `create` are of these analyses, and `explain` of these names
abbrev pub idesolve : (solved names created : Bor (List (Bor Text))) → App
idesolve solved names created = record {
  top = record (new_shape (codes "idesolve")) {
    is_leaf = false;
    has_version = true;
    subcommand_required = true;
  };
  subs = once solved ∷ check ∷ explain names ∷ create created ∷ adopt ∷ load ∷ root ∷ work ∷ checkpoint ∷ migrate ∷ ask ∷ dump ∷ status ∷ [];
}

-- the command line is the program's
pub record IsIdesolve (app : App) : Type 0 where
  pub solved : Bor (List (Bor Text))
  pub names : Bor (List (Bor Text))
  pub created : Bor (List (Bor Text))
  pub are : AreAnalyses solved × AreAnalyses created
  pub is : app ≡ idesolve solved names created

-- a command of that shape, which shares no argument with others
pub record HasShape (shape : Shape) (command : Command) : Type 0 where
  pub local : (fields_of command).has_globals ≡ false
  pub is : app_of command ≡ record { top = shape; subs = [] }

-- `once` and `create` over the analyses that there are, and `explain` of some names
abbrev pub IsOnce : Command → Type 0
IsOnce command = (analyses : Bor (List (Bor Text))) × AreAnalyses analyses × HasShape (once analyses) command

abbrev pub IsOnceAlone : Command → Type 0
IsOnceAlone command = (analyses : Bor (List (Bor Text))) × AreAnalyses analyses × HasShape (once_alone analyses) command

abbrev pub IsCreate : Command → Type 0
IsCreate command = (analyses : Bor (List (Bor Text))) × AreAnalyses analyses × HasShape (create analyses) command

abbrev pub IsExplain : Command → Type 0
IsExplain command = (names : Bor (List (Bor Text))) × HasShape (explain names) command
