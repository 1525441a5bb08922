use Rattle.std.proofs.Common.{◌≡◌, ◌++◌, ℕ, refl, subst, take}
use Rattle.ide_journal.specs.Lists.{entries_of}
use Rattle.ide_slots.specs.Records.{all_numbered}
use Rattle.ide_store.specs.TwoDisks.{commands_from}
use Rattle.ide_slot_store.proofs.Half.{called_last, called_on, refused_call}
use Rattle.ide_slot_store.proofs.writer.SlotWriterHalf.advance.Goals as goal

pub returns-then-is_idle-clause-calls : goal.returns-then-is_idle-clause-calls
returns-then-is_idle-clause-calls g c honest =
    called_last c.args.self.now _ _ c.requires.busy (c.in-Ok.ensures.steps honest) (c.if-is_idle.ensures.0 refl) c.keep_oldest.ensures.waiting
    (subst (λ (n : ℕ). all_numbered c.keep_oldest.new.commands.items ≡ all_numbered c.args.self.now.commands.items ++ commands_from n (entries_of (take 1 c.args.self.now.waiting.items)))
    c.count-number.ensures c.keep_oldest.ensures.commands)

pub returns-else-is_idle-clause-calls : goal.returns-else-is_idle-clause-calls
returns-else-is_idle-clause-calls g c honest =
    called_on c.args.self.now _ _ c.requires.busy (c.in-Ok.ensures.steps honest)
    (λ idle. let no = c.if-is_idle.ensures.1 idle in cc (no)) refl refl

pub returns-in-Err-clause-calls : goal.returns-in-Err-clause-calls
returns-in-Err-clause-calls g c honest = refused_call c.args.self.now _ c.in-Err.refused c.requires.busy (c.in-Err.ensures.steps honest)
