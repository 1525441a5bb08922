use Rattle.std.proofs.Common.{◌≡◌, true, false, ap, sym, ◌∙◌}
use Rattle.std.specs.Prelude.{not}
use Rattle.ide_steps.proofs.Walked.{goes-unchanged}
use Rattle.ide_steps.proofs.walk.goes_on_unchanged.Goals as goal

pub returns : goal.returns
returns g c = λ is.
    goes-unchanged g.F.L.Lattice.algebra g.F.EdgeFn.edge g.met.F.L.Lattice.lawful g.met.F.EdgeFn.lawful c.args.function c.proper.ensures.proper (λ same.
    let alike = ap (g.F.PartialEq.eq c.args.function) (c.all_top.ensures ∙ sym same) ∙ g.met.F.Eq.laws.refl c.args.function in
    let no : true ≡ false = sym is ∙ c.ne.ensures ∙ ap not alike in
    cc (no))
