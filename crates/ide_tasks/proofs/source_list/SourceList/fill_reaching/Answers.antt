use Rattle.std.proofs.Common.{◌≡◌, List, ℕ, map, subst}
use Rattle.std.specs.Prelude.{OnOk, filter, nat_eq}
use Rattle.ide_tasks.specs.Sources.{Ascends, told_source}
use Rattle.ide_tasks.specs.declared.sources.Source.{Source}
use Rattle.ide_tasks.proofs.Told.{reaching-told}
use Rattle.ide_tasks.proofs.source_list.SourceList.fill_reaching.Goals as goal

pub returns : goal.returns
returns g c =
    let none = g.F.EdgeFn.edge.all_top in
    let run = c.of_fact-places.result.now in
    rw (← c.self.view_is)
    (λ up. reaching-told none c.self.inside.functions.items c.fill_origins.result c.args.fact c.self.inside.places.items run c.fill_origins.new.origins.items up
    (subst (λ (ps : List (Source ℕ)). Ascends ps → run ≡ filter (λ s. nat_eq s.reached c.args.fact) ps) c.as_slice.ensures.value c.of_fact-places.ensures)
    (subst (λ (fs : List g.row.F.Denot). OnOk c.fill_origins.result (c.fill_origins.new.origins.items ≡ map (λ s. (told_source none fs s).from) run)) c.as_slice-2.ensures.value c.fill_origins.ensures))
