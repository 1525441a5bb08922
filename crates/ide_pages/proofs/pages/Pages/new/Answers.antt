use Rattle.ide_pages.proofs.Growth.{are-none}
use Rattle.ide_pages.proofs.pages.Pages.new.Goals as goal

pub invariant_of-result : goal.invariant_of-result
invariant_of-result c = are-none c.new.result.items c.new-2.result.items c.new-3.result c.new.ensures.items c.new-2.ensures c.new-3.ensures
