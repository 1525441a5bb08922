use Rattle.std.proofs.Common.{◌∙◌, ap, rules}
use Rattle.std.specs.Borrow.{Bor}
use Rattle.clap.specs.Walk.{Text}
use Rattle.clap.specs.Words.{found_of}
use Rattle.ide_words.proofs.Given.{given_text}
use Rattle.ide_words.proofs.words.text_of.Goals as goal

pub returns : goal.returns
returns c =
    ap (λ (r : Bor Text). r.now) c.unwrap_or.ensures
    ∙ given_text (found_of c.args.matches.now) c.args.name.now c.get_str.result _ c.get_str.ensures (search rules)
