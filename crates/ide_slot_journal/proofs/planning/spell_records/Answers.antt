use Rattle.std.proofs.Common.{ap, refl, rules}
use Rattle.ide_slot_journal.specs.Planning.{chunk_bytes}
use Rattle.ide_slot_journal.proofs.Chunks.{commands_spelled, parts_spelled}
use Rattle.ide_slot_journal.proofs.planning.spell_records.Goals as goal

pub returns-in-Some-clause-spelled : goal.returns-in-Some-clause-spelled
returns-in-Some-clause-spelled c =
    parts_spelled c.args.commands.now c.args.parts.now c.in-Some.parts.now c.in-Some.last.now (chunk_bytes c.new.result.items) _ _ _ _
    c.in-Some.ensures.cases.0 refl (ap chunk_bytes c.new.ensures.items) c.in_ok-push_commands.ensures.spelled c.in_ok-push_parts.ensures.spelled c.in_ok-push.ensures.one

pub returns-clause-spelled : goal.returns-clause-spelled
returns-clause-spelled c =
    commands_spelled c.args.commands.now c.in-Some-split_last.commands.now c.args.parts.now c.in-Some-split_last.last.now (chunk_bytes c.new.result.items) _ _ _ (search rules)
    c.in-Some-split_last.ensures.cases.0 c.in_default.ensures.cases (ap chunk_bytes c.new.ensures.items) c.in_ok-push_commands-2.ensures.spelled
    c.in_ok-push-2.ensures.one
