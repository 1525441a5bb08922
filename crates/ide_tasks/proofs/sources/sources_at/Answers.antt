use Rattle.std.proofs.Common.{rules, ap, ◌∙◌}
use Rattle.std.proofs.lemmas.List.Sorted.{IsNonDecreasingBy-from_sort_by_key, answers_always}
use Rattle.ide_tasks.specs.Sources.{reaching_of}
use Rattle.ide_tasks.proofs.Inverse.{stable_reaching}
use Rattle.ide_tasks.proofs.sources.sources_at.Goals as goal

pub returns-clause-ascending : goal.returns-clause-ascending
returns-clause-ascending g c =
    IsNonDecreasingBy-from_sort_by_key (λ source. source.reached) c.sort_by_key.new.self.items c.in_ok-sort_by_key.ensures.sorted (λ a r q k. search rules)

pub returns-clause-exact : goal.returns-clause-exact
returns-clause-exact g c =
    λ few fact.
    stable_reaching g.P.F.EdgeFn.edge.id _ c.sort_by_key.new.self.items (c.in_ok-sort_by_key.ensures.stable (λ source. source.reached) (answers_always _ _ _ (λ f a r q k. search rules))) fact
    ∙ ap (reaching_of fact) (c.in_ok-sources.ensures few)
