-- A node that is passed by leads to a node of the graph.
use Rattle.std.proofs.Common.{ℕ, ◌+◌, ◌<◌, List, subst, arith}
use Rattle.std.specs.List.{All}
use Rattle.std.proofs.lemmas.Option.{get_or_from_slice_get, slice_get_within}
use Rattle.ide_graph.specs.Edges.{EdgesWithin, EndsWithin}
use Rattle.ide_graph.specs.Steps.{LeadsBehind, PassesBy}
use Rattle.ide_graph.specs.declared.site.Site.{Site}
use Rattle.ide_graph.specs.declared.site.Site.TheVariants.{Normal, Call, Exit}

leads-within : (nodes node fact : ℕ) (site : Site) → LeadsBehind node fact site → EdgesWithin nodes site → node + 1 < nodes
leads-within nodes node fact (Normal edges) (edge, is, end, alone) within =
    subst (λ n. n < nodes) end (subst (All (EndsWithin nodes)) is within 0 edge (omega arith))
leads-within nodes node fact (Call calls along) h within = elim h [ ]
leads-within nodes node fact (Exit start callers) h within = elim h [ ]

pub passes-within : (nodes : ℕ) (sites : List Site) (node fact : ℕ) → All (EdgesWithin nodes) sites → PassesBy sites node fact → node + 1 < nodes
passes-within nodes sites node fact all by =
    leads-within nodes node fact by.site by.leads
    (subst (EdgesWithin nodes) (get_or_from_slice_get sites node by.site by.site by.stands)
    (all node by.site (slice_get_within sites node by.site by.stands)))
