use Rattle.std.proofs.Common.{sym, ◌∙◌, arith}
use Rattle.ide_pages.proofs.KeyCells.{number-in-cell, number-of-cell}
use Rattle.ide_pages.proofs.Slots.{length-slots}
use Rattle.ide_pages.specs.Pages.{key_at}
use Rattle.ide_pages.proofs.pages.Pages.alike_to.Goals as goal

pub returns-clause-alike : goal.returns-clause-alike
returns-clause-alike c =
    rw (← c.self.view_is)
    (λ cell least less.
    let is = c.alike_to.ensures.alike cell least less in (
      number-in-cell c.self.invariant cell ∙ is,
      λ key has. sym is ∙ number-of-cell c.self.invariant key cell has,
    ))

pub returns-clause-ends : goal.returns-clause-ends
returns-clause-ends c =
    rw (← c.self.view_is)
    (λ less there is.
    let long = length-slots (key_at c.self.inside.pages.items) 0 c.self.inside.cells.items in
    c.alike_to.ensures.ends less (omega (arith, long, there)) (sym (number-in-cell c.self.invariant c.alike_to.result) ∙ is))
