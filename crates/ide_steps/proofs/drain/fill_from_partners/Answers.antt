use Rattle.std.proofs.Common.{◌≡◌, ◌∙◌, [], Some, ap, refl, rules, subst, sym}
use Rattle.std.specs.Prelude.{slice_get, slice_index, slice_index_or}
use Rattle.std.proofs.lemmas.Option.{slice_get_read}
use Rattle.ide_wire.specs.Key.{node_of}
use Rattle.ide_tasks.specs.Partners.{partners_in}
use Rattle.ide_steps.specs.Core.{AllStandIn}
use Rattle.ide_steps.proofs.Nodes.{parts-within}
use Rattle.ide_steps.proofs.drain.fill_from_partners.Goals as goal

pub returns-clause-parts : goal.returns-clause-parts
returns-clause-parts g c = record {
  task = record { key = c.args.key; function = c.args.function; site = c.site-site.result.now; partners = partners_in c.fill_partners.new.lists };
  of_key = refl;
  owes = c.in_ok-fill_from.ensures;
  is_task = λ kept exits.
      let graph = c.args.loaded.now.graph in
      let site : slice_get graph.sites (node_of c.args.key) ≡ Some c.site-site.result.now =
      slice_get_read graph.sites graph.nodes (node_of c.args.key) c.site-site.result.now (sym kept.sited) c.requires.place
      (c.site-site.ensures.site ∙ ap (λ n. slice_index_or graph.sites n c.site-site.result.now) c.node-node.ensures) in
      record {
        function = c.requires.function;
        site = site;
        partners =
            c.in_ok-fill_partners.ensures.partners kept exits site (c.procedure_of-procedure.ensures.owner ∙ ap (slice_index graph.owners) c.node-node.ensures)
            c.procedure_of-procedure.ensures.within;
      };
}

pub returns-clause-inside : goal.returns-clause-inside
returns-clause-inside g c =
    subst (AllStandIn c.args.loaded.now.graph) (sym c.in_ok-fill_from.ensures)
    (parts-within g.P.F.EdgeFn.edge g.P.Problem.targets c.args.loaded.now.graph.nodes c.args.key c.args.function c.site-site.result.now (partners_in c.fill_partners.new.lists)
    c.site-site.ensures.edges)
