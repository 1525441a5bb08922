use Rattle.std.proofs.Common.{subst}
use Rattle.ide_text.specs.Parsed.{IsParsed, IsRefusalOf}
use Rattle.std.specs.Prelude.{IfErr, IfOk}
use Rattle.ide_steps.proofs.SpelledAgain.{only_memory, says}
use Rattle.ide_steps.proofs.program_text.ProgramText.program.Goals as goal

pub returns-clause-says : goal.returns-clause-says
returns-clause-says c =
    let kept = c.args.self.now in
    says c.parsing_and_printing_undo_each_other.ensures.printed kept.text.items kept.spelled.0 kept.spelled.1 c.parse.result
    (subst (λ text. IfOk c.parse.result (IsParsed text)) c.as_slice.ensures.value c.parse.ensures.parsed)

pub returns-clause-refused : goal.returns-clause-refused
returns-clause-refused c =
    let kept = c.args.self.now in
    only_memory c.parsing_and_printing_undo_each_other.ensures.printed kept.text.items kept.spelled.0 kept.spelled.1 c.parse.result
    (subst (λ text. IfErr c.parse.result (IsRefusalOf text)) c.as_slice.ensures.value c.parse.ensures.fault)
