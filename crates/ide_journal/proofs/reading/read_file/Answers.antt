use Rattle.std.proofs.Common.{rules}
use Rattle.std.proofs.lemmas.Result.{err_from_is_err_and}
use Rattle.ide_journal.specs.Refusals.{IsFileRefusal, other_tag}
use Rattle.ide_journal.proofs.Refused.{file_refused, handed-on}
use Rattle.ide_journal.proofs.reading.read_file.Goals as goal

pub returns-then-told-tag-clause-refused : goal.returns-then-told-tag-clause-refused
returns-then-told-tag-clause-refused c = other_tag _ c.in-Some.ensures.store c.if-told-tag.true

pub returns-in_err-records-clause-refused : goal.returns-in_err-records-clause-refused
returns-in_err-records-clause-refused c =
    let p = err_from_is_err_and c.from_residual.result c.from_residual.ensures.1 in
    handed-on (IsFileRefusal c.args.tag c.args.bytes.now) c.from_residual.result c.in_err-records.field-0.0 p.0 p.1 p.2
    (file_refused c.args.tag c.args.bytes.now c.in_err-records.field-0.0 (c.in-Some.version, search rules) c.in_err-records.ensures.refused)
