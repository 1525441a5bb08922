use Rattle.std.proofs.Common.{◌≡◌, List, [], ◌∷◌, ◌++◌, sym, subst, ap, ◌∙◌}
use Rattle.std.specs.List.Sorted.{IsNonDecreasingBy}
use Rattle.std.proofs.lemmas.List.Elements.{All-push}
use Rattle.ide_tasks.specs.Sources.{AreAscending}
use Rattle.ide_tasks.specs.declared.sources.Source.{Source}
use Rattle.ide_tasks.proofs.Ascending.{exits_more, exit_read, one_longer}
use Rattle.ide_tasks.proofs.sources.sources_of.Goals as goal

pub loop-procedure-preserved : goal.loop-procedure-preserved
loop-procedure-preserved g c =
    let before = c.loop-procedure.procedures.items in
    let all = c.push.new.self.items in
    let new = c.in_ok-sources.sources.items in
    let is : all ≡ before ++ new ∷ [] =
    c.in_ok-push.ensures.items ∙ ap (λ (s : List (Source g.row.P-F.Denot)). before ++ s ∷ []) (c.in_ok-of.ensures ∙ c.deref.ensures.value) in
    record {
      ascending = subst AreAscending (sym is) (All-push (IsNonDecreasingBy (λ source. source.reached)) before new c.loop-procedure.invariant.ascending c.in_ok-sources.ensures.ascending);
      count = one_longer before all new c.loop-procedure.procedure is c.loop-procedure.invariant.count;
      exact = exits_more g.P.Problem.targets c.args.graph.now before all new c.loop-procedure.procedure is c.loop-procedure.invariant.count c.loop-procedure.invariant.exact
          (exit_read g.P.Problem.targets c.args.graph.now c.loop-procedure.procedure c.exit_of-exit.result c.site.result.now new c.exit_of-exit.ensures.exit c.site.ensures.site
          c.in_ok-sources.ensures.exact);
    }
