-- What a run leaves on its output.
use Rattle.std.specs.Io.KnownBytes.{Appends}
use Rattle.std.specs.Prelude.{◌≡◌, ℕ, List, Option}
use Rattle.clap.specs.Walk.{Text}
use Rattle.ide_words.specs.Line.{IsOfLine}
use Rattle.ide_words.specs.declared.words.Words.{Words}
use Rattle.ide_cli.specs.Help.{AsksForHelp}
use Rattle.ide_cli.specs.Printed.{IsPrinted}

module _ (line : List Text) where
  -- the text is what the command prints that the words of the line are
  pub record IsAnswer (text : List ℕ) : Type 0 where
    pub words : Words
    pub read : IsOfLine line words
    pub printed : IsPrinted words text

  -- a run that did what it was asked: the answer was written behind what the output had; or the line asks for help
  pub data IsDone (old new : Option (List ℕ)) : Type 0 where
    answered : (text : List ℕ) → IsAnswer text → Appends old new text → IsDone old new
    helped : AsksForHelp line → IsDone old new

  -- one that was refused: nothing was written to the output; or the answer was whole, or help was asked for, the output failed,
  -- or memory for its text was wanting, and nothing was written to the other writer. Of what a writer has that failed no clause says anything
  pub data IsRefused {O E : Type 0} (out_old out_new : O) (err_old err_new : E) : Type 0 where
    unwritten : out_new ≡ out_old → IsRefused out_old out_new err_old err_new
    cut_off : (text : List ℕ) → IsAnswer text → err_new ≡ err_old → IsRefused out_old out_new err_old err_new
    help_cut_off : AsksForHelp line → err_new ≡ err_old → IsRefused out_old out_new err_old err_new
