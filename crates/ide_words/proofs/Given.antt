-- The texts that were given, as clap's matches and its rows tell them.
use Rattle.std.proofs.Common.{◌≡◌, ◌∙◌, [], refl, ap}
use Rattle.std.specs.Prelude.{Option, Some, None, option_map, unwrap_or}
use Rattle.std.specs.Borrow.{Bor}
use Rattle.clap.specs.Walk.{Text, rows_of}
use Rattle.clap.specs.Words.{first_value}
use Rattle.clap.specs.declared.parser.matches.Found.{Found}
use Rattle.clap.proofs.WalkLemmas.{first_value-rows}
use Rattle.ide_words.specs.Line.{given_words}

text_or_empty : (found : Option (Bor Text)) (other : Bor Text) (text : Option Text) → option_map (λ s. s.now) found ≡ text
    → other.now ≡ [] → (unwrap_or found other).now ≡ unwrap_or text []
text_or_empty None other text is empty = rw (← is) empty
text_or_empty (Some s) other text is empty = rw (← is) refl

pub given_text : (matches : Found) (name : Text) (found : Option (Bor Text)) (other : Bor Text)
    → option_map (λ s. s.now) found ≡ first_value matches name → other.now ≡ []
    → (unwrap_or found other).now ≡ given_words name (rows_of matches)
given_text matches name found other is empty =
    text_or_empty found other (first_value matches name) is empty
    ∙ ap (λ (t : Option Text). unwrap_or t []) (first_value-rows matches name)
