use Rattle.std.proofs.Common.{ap, refl, ◌∙◌}
use Rattle.ide_disk.specs.Disk.{settled}
use Rattle.ide_journal.specs.Format.{head_of}
use Rattle.ide_journal.specs.declared.version.Version.TheVariants.{Two}
use Rattle.ide_slot_journal.proofs.Making.{stands_made}
use Rattle.ide_slot_journal.proofs.journal.SlotJournal.create.Goals as goal

pub returns-clause-stands : goal.returns-clause-stands
returns-clause-stands g c first second other =
    let head = head_of Two c.args.tag in
    let page = c.deref.ensures.value ∙ c.in-Ok.ensures.spelled in
    let page-2 = c.deref-2.ensures.value ∙ c.in-Ok.ensures.spelled in
    stands_made head other _ c.requires (c.in-Ok-rewrite.ensures.bytes first ∙ ap settled page) (c.in-Ok-rewrite-2.ensures.bytes second ∙ ap settled page-2)
    refl refl refl refl refl refl refl refl refl c.new-2.ensures.rests c.new-2.ensures.closed
