use Rattle.std.proofs.Common.{◌≡◌, ◌≤◌, length, map, take}
use Rattle.std.specs.Prelude.{vec_capacity, vec_len}
use Rattle.ide_tasks.specs.Sources.{told_source}
use Rattle.ide_tasks.proofs.source_list.fill_origins.Given as goal

-- where the sources that were gone over are from, with room for the others
abbrev pub invariant-loop-place : goal.invariant-loop-place
invariant-loop-place g l = record {
  origins : l.origins.items ≡ map (λ place. (told_source g.F.EdgeFn.edge.all_top l.functions place).from) (take l.place-index l.places);
  few : vec_len l.origins ≤ l.place-index;
  room : length l.places ≤ vec_capacity l.origins;
}
