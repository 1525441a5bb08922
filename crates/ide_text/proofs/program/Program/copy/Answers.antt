use Rattle.std.proofs.Common.{map, ap, ◌∙◌}
use Rattle.ide_text.specs.declared.program.Draft.{Draft}
use Rattle.ide_text.specs.Value.{value_of_procedure}
use Rattle.ide_text.proofs.LimitsSame.{IsWithinLimits-same}
use Rattle.ide_text.proofs.Value.{IsWellNamed-same, copied_value, short_copy}
use Rattle.ide_text.proofs.program.Program.copy.Goals as goal

pub of-requires-clause-named : goal.of-requires-clause-named
of-requires-clause-named c =
    let p = c.args.self.now in
    let copy : Draft = record { globals = c.in_ok-globals.globals; procedures = c.in_ok-procedures.procedures } in
    IsWellNamed-same p.draft copy (copied_value p.draft copy (c.in_ok-globals.ensures ∙ c.globals.ensures) (c.in_ok-procedures.ensures ∙ ap (map value_of_procedure) c.procedures.ensures)) p.named

pub of-requires-clause-limits : goal.of-requires-clause-limits
of-requires-clause-limits c =
    let p = c.args.self.now in
    let copy : Draft = record { globals = c.in_ok-globals.globals; procedures = c.in_ok-procedures.procedures } in
    IsWithinLimits-same p.draft copy (copied_value p.draft copy (c.in_ok-globals.ensures ∙ c.globals.ensures) (c.in_ok-procedures.ensures ∙ ap (map value_of_procedure) c.procedures.ensures)) p.limits

pub of-requires-clause-short : goal.of-requires-clause-short
of-requires-clause-short c =
    let p = c.args.self.now in
    let copy : Draft = record { globals = c.in_ok-globals.globals; procedures = c.in_ok-procedures.procedures } in
    short_copy p.draft copy (copied_value p.draft copy (c.in_ok-globals.ensures ∙ c.globals.ensures) (c.in_ok-procedures.ensures ∙ ap (map value_of_procedure) c.procedures.ensures)) p.short
