use Rattle.std.proofs.Common.{◌≡◌, ℕ, ◌<◌, Some, length}
use Rattle.std.specs.Prelude.{slice_get, slice_index, slice_index_or, []}
use Rattle.ide_graph.specs.declared.site.Site.{Site}
use Rattle.ide_graph.specs.Exits.{HasFewCallers}
use Rattle.ide_tasks.specs.Sources.{AreAscending, reaching_of, sources_at}
use Rattle.ide_tasks.proofs.sources.sources_of.Given as goal

-- the sources of the procedures that were gone over ascend, and are those of their exits
abbrev pub invariant-loop-procedure : goal.invariant-loop-procedure
invariant-loop-procedure g l = record {
  ascending : AreAscending l.procedures.items;
  count : length l.procedures.items ≡ l.procedure;
  exact : (k : ℕ) → k < l.procedure → (site : Site) → slice_get l.graph.sites (slice_index l.graph.exits k) ≡ Some site → HasFewCallers site
      → (fact : ℕ) → reaching_of fact (slice_index_or l.procedures.items k [])
      ≡ reaching_of fact (sources_at g.P.Problem.targets l.graph.facts site);
}
