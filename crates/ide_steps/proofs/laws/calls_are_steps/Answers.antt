use Rattle.std.proofs.Common.{ap}
use Rattle.std.specs.Option.{is_some}
use Rattle.ide_graph.specs.Joined.{start_at}
use Rattle.ide_theory.specs.Sites.{edges_of}
use Rattle.ide_steps.specs.State.{state_of}
use Rattle.ide_steps.proofs.Going.{goes-back, goes-claim, goes-ended, goes-lowered, goes-skipped}
use Rattle.ide_steps.proofs.laws.calls_are_steps.Goals as goal

pub returns : goal.returns
returns g c =
    let A = g.P.L.Lattice.algebra in
    let B = g.P.F.EdgeFn.edge in
    let targets = g.P.Problem.targets in
    record {
      claim = λ hand old new task same taken owes. goes-claim A B targets old new hand task same taken (λ graph is all fit run.
          let made = c.sites_make_a_graph.ensures graph.facts graph.sites all (start_at graph) fit.joined in
          let sound = c.runs_are_sound.ensures (edges_of graph.facts graph.sites all (start_at graph)) made.0 (state_of B targets old) run in
          let present = sound.present task.key taken.pending in
          c.tasks_owe_their_parts.ensures graph all fit.joined fit.few old.table task (owes graph is fit.exits (ap is_some present.1)) sound.ranged.keys);
      lower = λ hand old new work after task same progress parts is. goes-lowered A B targets old new hand work after task same progress parts is;
      skip = λ hand old new work after task same progress parts is. goes-skipped A B targets old new hand work after task same progress parts is;
      finish = λ hand old new held same has over state. goes-ended A B targets old new hand held same has over state;
      release = λ hand old new held same has state. goes-back A B targets old new hand held same has state;
    }
