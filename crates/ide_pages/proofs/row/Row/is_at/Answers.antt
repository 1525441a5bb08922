use Rattle.std.proofs.Common.{eqb-true}
use Rattle.ide_pages.proofs.RowLemmas.{place-here}
use Rattle.ide_pages.proofs.row.Row.is_at.Goals as goal

pub returns-in-Some : goal.returns-in-Some
returns-in-Some c = λ same.
    let listed = c.in-Some.listed.now in
    let there = (rw c.deref.ensures.value at c.in-Some.ensures.lookup).3 in
    rw (← c.self.view_is)
    (place-here c.args.fact c.self.inside.pages.items c.args.index listed c.self.invariant there.0 (there.1 listed)
    (eqb-true listed.0 c.args.fact same))
