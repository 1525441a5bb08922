use Rattle.std.proofs.Common.{rules}
use Rattle.std.proofs.lemmas.Result.{err_from_is_err_and}
use Rattle.ide_journal.specs.Refusals.{IsOpenRefusal}
use Rattle.ide_journal.proofs.Refused.{handed-on, read_refused, load_refused}
use Rattle.ide_journal.proofs.opening.load.Goals as goal

pub returns-in_err-bytes-clause-refused : goal.returns-in_err-bytes-clause-refused
returns-in_err-bytes-clause-refused g c honest =
    let disk = c.args.disk.now in
    let new = c.read_all.new.disk in
    let refused = c.in_err-bytes.field-0.0 in
    let p = err_from_is_err_and c.from_residual.result c.from_residual.ensures.1 in
    handed-on (IsOpenRefusal g.D.Disk c.args.tag disk new) c.from_residual.result refused p.0 p.1 p.2
    (read_refused g.D.Disk c.args.tag disk new refused c.in_err-bytes.ensures.refused (λ device. search (rules, device)) (search rules))

pub returns-clause-refused : goal.returns-clause-refused
returns-clause-refused g c honest =
    load_refused g.D.Disk c.args.tag c.args.disk.now c.read_all.new.disk _ c.read_file.result (search rules) (search rules) c.read_file.ensures.refused
