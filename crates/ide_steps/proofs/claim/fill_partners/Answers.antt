use Rattle.ide_steps.proofs.CalledAt.{called-at}
use Rattle.ide_steps.proofs.claim.fill_partners.Goals as goal

pub returns-in_ok-fill_reaching-in-Jump-Exit-clause-partners : goal.returns-in_ok-fill_reaching-in-Jump-Exit-clause-partners
returns-in_ok-fill_reaching-in-Jump-Exit-clause-partners g c = λ kept owned at own within.
    called-at g.P.F.EdgeFn.edge g.P.Problem.targets c.args.loaded.now c.args.image.now.table c.args.key c.args.site.now c.args.procedure c.fill_reaching.new.reaching.items
    kept owned at own within c.in-Jump-Exit.field-0-0 c.in-Jump-Exit.from c.in-Jump-Exit.field-2-0 c.in-Jump-Exit.start-1 c.in-Jump-Exit.callers-1
    c.in-Jump-Exit.is-0 c.in-Jump-Exit.is-1 c.in_ok-fill_reaching-in-Jump-Exit.ensures
