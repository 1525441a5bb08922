use Rattle.ide_image.proofs.Columns.{has-others}
use Rattle.ide_image.proofs.indexed.Indexed.next_page.Goals as goal

pub returns-clause-others : goal.returns-clause-others
returns-clause-others g c =
    rw (← c.self.view_is)
    (λ n from before.
    has-others c.self.inside.places c.self.inside.functions.items c.self.invariant.paged c.args.begin c.args.end c.self.inside.functions.room n
    (c.next_page.ensures.aside n from before))
