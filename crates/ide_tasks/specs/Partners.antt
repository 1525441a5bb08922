-- What keys join their functions with, however it is kept.
use Rattle.std.specs.Prelude.{if◌then◌else◌}
use Rattle.ide_tasks.specs.declared.partners.Partners.{Partners}
use Rattle.ide_tasks.specs.declared.partners.Partners.TheVariants.{Entries, Callers}
use Rattle.ide_tasks.specs.declared.partners.PartnerLists.{PartnerLists}
use Rattle.ide_tasks.specs.declared.partners.LentPartners.{LentPartners}
use Rattle.ide_tasks.specs.declared.partners.LentPartners.TheVariants.{Entries as LentEntries, Callers as LentCallers}

-- those that are lent
abbrev pub partners_lent : {F : Type 0} → LentPartners F → Partners F
partners_lent (LentEntries entries) = Entries entries.now
partners_lent (LentCallers callers) = Callers callers.now

-- those that the lists have
abbrev pub partners_in : {F : Type 0} → PartnerLists F → Partners F
partners_in lists = if lists.are_callers then Callers lists.callers.items else Entries lists.entries.items
