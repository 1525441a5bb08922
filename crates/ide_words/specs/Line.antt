-- A line of words, as clap reads it.
use Rattle.std.specs.Prelude.{◌≡◌, ℕ, List, [], Some, codes, unwrap_or}
use Rattle.std.specs.Str.{bytes_eq}
use Rattle.std.specs.Str.Parse.{IsNumeral, digits_value, without_leading_plus}
use Rattle.clap.specs.Faults.{fault_of}
use Rattle.clap.specs.Matches.{found_of}
use Rattle.clap.specs.Simple.{App, subcommand_of}
use Rattle.clap.specs.Walk.{Row, Text, first_of, rows_of}
use Rattle.clap.specs.declared.parser.matches.ArgMatches.{ArgMatches}
use Rattle.ide_words.specs.Commands.{IsIdesolve, name_of}
use Rattle.ide_words.specs.declared.words.Instance.{Instance}
use Rattle.ide_words.specs.declared.words.Words.{Words}
use Rattle.ide_words.specs.declared.words.Words.TheVariants.{Once, Check, Explain, Create, Adopt, On}
use Rattle.ide_words.specs.declared.words.StoreCommand.{StoreCommand}
use Rattle.ide_words.specs.declared.words.StoreCommand.TheVariants.{Load, Root, Work, Checkpoint, Migrate, Ask, Dump, Status}

-- the words that were given with their texts, as clap lists them
abbrev pub given_rows : ArgMatches → List Row
given_rows given = rows_of (found_of given)

-- the text that was given for a word
abbrev pub given_words : Text → List Row → Text
given_words name rows = unwrap_or (first_of name rows) []

-- the analysis that was given
abbrev pub IsGiven : Instance → List Row → Type 0
IsGiven instance rows = (other : Instance) → given_words (codes "INSTANCE") rows ≡ name_of other → instance ≡ other

-- the text spells the number in decimal digits, before which a plus may stand
abbrev pub SpellsNumber : Text → ℕ → Type 0
SpellsNumber text number = IsNumeral 10 (without_leading_plus text) × (number ≡ digits_value 10 (without_leading_plus text))

-- the command on a store, and the texts of its words behind the store
abbrev pub IsStoreCommand : StoreCommand → Text → List Row → Type 0
IsStoreCommand (Load file) name rows = (name ≡ codes "load") × (file.now ≡ given_words (codes "FILE") rows)
IsStoreCommand (Root procedure) name rows = (name ≡ codes "root") × (procedure.now ≡ given_words (codes "PROC") rows)
IsStoreCommand (Work workers quiet checkpoint_every) name rows = (name ≡ codes "work") × SpellsNumber (given_words (codes "N") rows) workers
    × (quiet ≡ bytes_eq (given_words (codes "quiet") rows) (codes "true")) × SpellsNumber (given_words (codes "RECORDS") rows) checkpoint_every
IsStoreCommand Checkpoint name rows = name ≡ codes "checkpoint"
IsStoreCommand Migrate name rows = name ≡ codes "migrate"
IsStoreCommand (Ask procedure position fact) name rows = (name ≡ codes "ask") × (procedure.now ≡ given_words (codes "PROC") rows)
    × SpellsNumber (given_words (codes "NODE") rows) position × (fact.now ≡ given_words (codes "FACT") rows)
IsStoreCommand Dump name rows = name ≡ codes "dump"
IsStoreCommand Status name rows = name ≡ codes "status"

-- the command, and the texts of its words
abbrev pub IsCommand : Words → Text → List Row → Type 0
IsCommand (Once instance file procedure workers) name rows = (name ≡ codes "once") × IsGiven instance rows
    × (file.now ≡ given_words (codes "FILE") rows) × (procedure.now ≡ given_words (codes "PROC") rows)
    × SpellsNumber (given_words (codes "N") rows) workers
IsCommand (Check file) name rows = (name ≡ codes "check") × (file.now ≡ given_words (codes "FILE") rows)
IsCommand (Explain asked) name rows = (name ≡ codes "explain") × (asked.now ≡ given_words (codes "NAME") rows)
IsCommand (Create store instance) name rows = (name ≡ codes "create") × (store.now ≡ given_words (codes "STORE") rows) × IsGiven instance rows
IsCommand (Adopt store) name rows = (name ≡ codes "adopt") × (store.now ≡ given_words (codes "STORE") rows)
IsCommand (On store command) name rows = (store.now ≡ given_words (codes "STORE") rows) × IsStoreCommand command name rows

-- clap finds no fault in the line, and this is the command that it names, with its words
pub record IsOfLine (line : List Text) (words : Words) : Type 0 where
  pub app : App
  pub program : IsIdesolve app
  pub faultless : fault_of app line ≡ []
  pub name : Text
  pub rows : List Row
  pub found : subcommand_of app line ≡ Some (name, rows)
  pub words_are : IsCommand words name rows
