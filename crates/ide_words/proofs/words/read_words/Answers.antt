use Rattle.std.proofs.Common.{map}
use Rattle.clap.specs.Words.{app_of, found_of, rows_of}
use Rattle.ide_words.proofs.Line.{of_line}
use Rattle.ide_words.proofs.words.read_words.Goals as goal

pub returns-in-Some-words_of : goal.returns-in-Some-words_of
returns-in-Some-words_of g c =
    let arm = c.in-Some in
    of_line (app_of c.in_ok-command.command) (map g.S.AsStr.text c.args.line.now) c.in_ok-matches.matches arm.name.now
    (rows_of (found_of arm.given.now)) c.in-Some-words_of.words c.in_ok-command.ensures c.in_ok-matches.ensures.ok.2 c.in_ok-matches.ensures.kinds
    arm.ensures.name arm.ensures.rows c.in-Some-words_of.ensures
