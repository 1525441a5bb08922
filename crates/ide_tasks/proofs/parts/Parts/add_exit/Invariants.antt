use Rattle.std.proofs.Common.{◌≡◌, ℕ, ◌++◌, Some, take}
use Rattle.std.specs.Prelude.{slice_get}
use Rattle.std.specs.List.{flat_map}
use Rattle.ide_graph.specs.declared.site.Caller.{Caller}
use Rattle.ide_tasks.specs.Parts.{exit_parts}
use Rattle.ide_tasks.proofs.parts.Parts.add_exit.Given as goal

-- the parts of the sources that were gone over stand at the end, and the targets are those of the
-- current caller, if there is one
abbrev pub invariant-loop-source : goal.invariant-loop-source
invariant-loop-source g l = record {
  parts : l.self.list.items ≡ l.initial.self.list.items
      ++ flat_map (λ source. exit_parts g.P.F.EdgeFn.edge g.P.Problem.targets l.to l.function source (slice_get l.callers source.caller)) (take l.source-index l.reaching);
  targets : (k : ℕ) (caller : Caller) → l.current ≡ Some k → slice_get l.callers k ≡ Some caller
      → l.self.targets.list.items ≡ g.P.Problem.targets caller.back l.to;
}
