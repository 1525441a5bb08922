-- How the program's command line is made, and a line's command by what clap finds on it.
use Rattle.std.proofs.Common.{◌≡◌, ◌∙◌, List, [], true, refl, ap, sym}
use Rattle.std.specs.Prelude.{Option, Some, None, Box, option_map}
use Rattle.clap.specs.Faults.{fault_of, is_simple_and_free}
use Rattle.clap.specs.Built.{AddsSubcommand}
use Rattle.clap.specs.Simple.{App, HasMatchesOf, Shape, is_simple, on_top, subcommand_rows, with_subcommand}
use Rattle.clap.specs.Walk.{Row, Text}
use Rattle.clap.specs.Words.{app_of, subcommand_name_of, subcommand_rows_of}
use Rattle.clap.specs.declared.builder.command.Command.{Command}
use Rattle.std.specs.Box.{box_value}
use Rattle.clap.specs.declared.parser.matches.ArgMatches.{ArgMatches}
use Rattle.clap.specs.declared.parser.matches.ArgMatches.TheViews.{out-ArgMatches, out-SubCommand}
use Rattle.clap.specs.declared.parser.matches.SubCommand.{SubCommand}
use Rattle.ide_words.specs.Commands.{HasShape, IsIdesolve}
use Rattle.ide_words.specs.Line.{IsCommand, IsOfLine}
use Rattle.ide_words.specs.declared.words.Words.{Words}

-- the settings of the command above the others
abbrev pub versioned : App → App
versioned = on_top (λ s. record s { has_version = true })

abbrev pub wanting : App → App
wanting = on_top (λ s. record s { subcommand_required = true })

pub of_subcommand : {shape : Shape} {old sub new : Command} → AddsSubcommand old sub new → HasShape shape sub
    → app_of new ≡ with_subcommand (app_of old) shape
of_subcommand {shape} {old} {sub} {new} added has =
    added.shape has.local ∙ ap (λ (a : App). with_subcommand (app_of old) a.top) has.is

simple_and_free : (app : App) → IsIdesolve app → is_simple_and_free app ≡ true
simple_and_free app program = rw program.is refl

simple : (app : App) → IsIdesolve app → is_simple app ≡ true
simple app program = rw program.is refl

both : {Z : Type 0} (found : Option (Box SubCommand Z)) (name : Text) (rows : List Row)
    → Some name ≡ option_map (λ b. (out-SubCommand (box_value b)).name.now) found
    → Some rows ≡ option_map (λ p. p.1) (subcommand_rows found) → subcommand_rows found ≡ Some (name, rows)
both None name rows is are = cc
both (Some b) name rows is are = cc

pub of_line : (app : App) (line : List Text) (matches : ArgMatches) (name : Text) (rows : List Row) (words : Words) → IsIdesolve app
    → HasMatchesOf app line matches → (is_simple_and_free app ≡ true → fault_of app line ≡ []) → Some name ≡ subcommand_name_of matches
    → Some rows ≡ option_map (λ p. p.1) (subcommand_rows_of matches) → IsCommand words name rows → IsOfLine line words
of_line app line matches name rows words program has faultless is are words_are = record {
  app = app;
  program = program;
  faultless = faultless (simple_and_free app program);
  name = name;
  rows = rows;
  found = sym (has (simple app program)).1 ∙ both (out-ArgMatches matches).subcommand name rows is are;
  words_are = words_are;
}

-- a subcommand more, behind those of the command line so far
pub of_next : {shape : Shape} {old sub new : Command} {app : App} → AddsSubcommand old sub new → HasShape shape sub → app_of old ≡ app
    → app_of new ≡ with_subcommand app shape
of_next {shape} added has is = of_subcommand added has ∙ ap (λ (a : App). with_subcommand a shape) is
