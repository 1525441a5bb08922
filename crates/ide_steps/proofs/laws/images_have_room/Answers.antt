use Rattle.ide_graph.specs.Joined.{start_at}
use Rattle.ide_theory.specs.Sites.{edges_of}
use Rattle.ide_steps.specs.Room.{key_space}
use Rattle.ide_steps.specs.State.{state_of}
use Rattle.ide_steps.proofs.Potential.{spent_most}
use Rattle.ide_steps.proofs.Room.{entries-few}
use Rattle.ide_steps.proofs.laws.images_have_room.Goals as goal

pub returns : goal.returns
returns g c core whole graph is all fit run =
    let B = g.P.F.EdgeFn.edge in
    let state = state_of B g.P.Problem.targets core in
    let made = c.sites_make_a_graph.ensures graph.facts graph.sites all (start_at graph) fit.joined in
    let sound = c.runs_are_sound.ensures (edges_of graph.facts graph.sites all (start_at graph)) made.0 state run in
    let within = c.keys_stand_at_nodes.ensures graph fit.joined fit.ends all state run in
    let few = entries-few graph core.table.entries (whole.sited graph is) whole.distinct (λ key f same. (within.keys key f same, sound.ranged.keys key f same)) in
    spent_most B core.table.entries (key_space graph) few
