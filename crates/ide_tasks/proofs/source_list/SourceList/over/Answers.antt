use Rattle.std.proofs.Common.{◌≡◌, List, ℕ, ap, map, subst, ◌∙◌}
use Rattle.std.specs.Prelude.{filter, nat_eq}
use Rattle.ide_tasks.specs.Sources.{Ascends, told_source}
use Rattle.ide_tasks.specs.declared.sources.Source.{Source}
use Rattle.ide_tasks.proofs.Told.{over-told}
use Rattle.ide_tasks.proofs.source_list.SourceList.over.Goals as goal

pub returns : goal.returns
returns g c =
    let none = g.F.EdgeFn.edge.all_top in
    let run = c.of_fact.result.now in
    let left = c.of_caller.result.now in
    rw (← c.self.view_is)
    (λ up callers. ap (λ (fs : List g.row.F.Denot). map (told_source none fs) left) c.as_slice.ensures.value
    ∙ over-told none c.self.inside.functions.items c.args.fact c.args.caller c.self.inside.places.items run left up callers
    (subst (λ (ps : List (Source ℕ)). Ascends ps → run ≡ filter (λ s. nat_eq s.reached c.args.fact) ps) c.as_slice-2.ensures.value c.of_fact.ensures)
    c.of_caller.ensures)
