use Rattle.std.proofs.Common.{◌∙◌, sym}
use Rattle.ide_wire.specs.Listing.{lists_exact}
use Rattle.ide_plain.proofs.walk.Walk.is_same.Goals as goal

pub returns-then-eq-clause-environment : goal.returns-then-eq-clause-environment
returns-then-eq-clause-environment g c = λ same.
    lists_exact g.P.L.PartialEq.eq g.met.P.L.Lattice.exact c.args.self.now.environment.items c.args.other.now.environment.items
    (sym c.eq-then-eq.ensures ∙ same)
