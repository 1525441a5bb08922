use Rattle.ide_pages.proofs.KeyCells.{key-end, key-fits, key-in}
use Rattle.ide_pages.proofs.pages.Pages.key_in.Goals as goal

pub returns-clause-key : goal.returns-clause-key
returns-clause-key c =
    rw (← c.self.view_is)
    (key-in c.self.invariant c.key_at.result c.args.cell (rw (c.deref.ensures.value) at c.key_at.ensures.key) (rw (c.deref.ensures.value) at c.key_at.ensures.there))

pub returns-clause-end : goal.returns-clause-end
returns-clause-end c =
    rw (← c.self.view_is)
    (key-end c.self.invariant c.key_at.result c.args.cell (rw (c.deref.ensures.value) at c.key_at.ensures.there) (rw (c.deref.ensures.value) at c.key_at.ensures.end))

pub returns-clause-fits : goal.returns-clause-fits
returns-clause-fits c = key-fits c.self.invariant c.key_at.result c.args.cell (rw (c.deref.ensures.value) at c.key_at.ensures.key)
