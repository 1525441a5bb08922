use Rattle.std.proofs.Common.{◌+◌, refl}
use Rattle.ide_slot_journal.proofs.Chunks.{commands_short, parts_short}
use Rattle.ide_slot_journal.proofs.Plans.{plan_stands, told_so}
use Rattle.ide_slot_journal.proofs.journal.SlotJournal.plan.Goals as goal

pub spell_checkpoint-requires-clause-commands : goal.spell_checkpoint-requires-clause-commands
spell_checkpoint-requires-clause-commands g c = commands_short 0 c.args.base c.args.commands.now c.requires.proper.commands

pub spell_checkpoint-requires-clause-parts : goal.spell_checkpoint-requires-clause-parts
spell_checkpoint-requires-clause-parts g c = parts_short c.args.parts.now c.requires.proper.parts

pub returns-clause-planned : goal.returns-clause-planned
returns-clause-planned g c =
    plan_stands c.args.base c.args.commands.now c.args.parts.now _ c.args.self.now _ c.requires.none c.requires.generation c.requires.up_to c.requires.proper
    (told_so c.args.self.now.tag (c.args.self.now.generation + 1) c.args.base c.args.commands.now c.args.parts.now) c.in_ok-self.ensures.spelled
    (record { current = refl; gate = refl; end = refl; count = refl; next = refl; stage = refl; tail = refl })
    (record { side = refl; generation = refl; base = refl; version = refl; tag = refl; other = refl })
