use Rattle.std.proofs.Common.{◌∙◌}
use Rattle.ide_lattice.specs.Meets.{apply-meet_all}
use Rattle.ide_lattice.proofs.meets.value_of_meet.Goals as goal

pub returns : goal.returns
returns g c =
    c.meet_of_values.ensures
    ∙ apply-meet_all g.F.L.Lattice.algebra g.met.F.L.Lattice.lawful g.F.EdgeFn.edge g.met.F.EdgeFn.lawful
    c.args.functions.now c.args.x c.requires.functions c.requires.value
