use Rattle.std.proofs.Common.{◌≡◌, [], ◌++◌, ◌∙◌, ap, subst}
use Rattle.ide_text.specs.Names.{IsFirstRepeated}
use Rattle.ide_text.specs.Draft.{draft_globals}
use Rattle.ide_text.proofs.ProgramLemmas.{global_first}
use Rattle.ide_text.proofs.Repeated.{renamed}
use Rattle.ide_text.proofs.checker.check_lines.Goals as goal

pub returns-in-Some : goal.returns-in-Some
returns-in-Some c =
    let p = c.args.draft.now in
    let none = c.args.none.now in
    let globals = c.args.globals.now in
    let known : none ++ globals ≡ [] = ap (λ names. names ++ globals) c.requires.taken ∙ c.requires.declared in
    let told = renamed (none ++ globals) [] c.globals.result.now (draft_globals p) c.in_ok-place.field-0 known c.globals.ensures c.in_ok-place.ensures.first in
    let one = subst (IsFirstRepeated [] (draft_globals p)) c.in-Some.is told in
    global_first p c.in-Some.place one.0 one.1
