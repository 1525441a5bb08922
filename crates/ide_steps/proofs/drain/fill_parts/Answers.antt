use Rattle.std.proofs.Common.{◌≡◌, ◌∙◌, [], Some, ap, refl, rules, subst, sym}
use Rattle.std.specs.Prelude.{slice_get, slice_index, slice_index_or}
use Rattle.std.proofs.lemmas.Option.{slice_get_read}
use Rattle.ide_wire.specs.Key.{node_of}
use Rattle.ide_tasks.specs.Parts.{FillsAlone}
use Rattle.ide_tasks.specs.declared.partners.Partners.TheVariants.{Entries}
use Rattle.ide_steps.specs.Core.{AllStandIn}
use Rattle.ide_steps.proofs.Nodes.{parts-within}
use Rattle.ide_steps.proofs.Alone.{has_no_partners, owed_alone}
use Rattle.ide_steps.proofs.drain.fill_parts.Goals as goal

pub returns-then-branch-clause-parts : goal.returns-then-branch-clause-parts
returns-then-branch-clause-parts g c =
    let B = g.P.F.EdgeFn.edge in
    let targets = g.P.Problem.targets in
    let filled : FillsAlone B targets c.args.key c.args.function c.site-site.result.now c.fill_alone.new.self = search rules in
    record {
      task = record { key = c.args.key; function = c.args.function; site = c.site-site.result.now; partners = Entries [] };
      of_key = refl;
      owes = owed_alone B targets c.args.key c.args.function c.site-site.result.now c.fill_alone.new.self filled;
      is_task = λ kept exits.
          let graph = c.args.loaded.now.graph in
          record {
            function = c.requires.function;
            site =
                slice_get_read graph.sites graph.nodes (node_of c.args.key) c.site-site.result.now (sym kept.sited) c.requires.place
                (c.site-site.ensures.site ∙ ap (λ n. slice_index_or graph.sites n c.site-site.result.now) c.node-node.ensures);
            partners = has_no_partners B targets graph c.args.image.now.table c.args.key c.args.function c.site-site.result.now c.fill_alone.new.self filled;
          };
    }

pub returns-then-branch-clause-inside : goal.returns-then-branch-clause-inside
returns-then-branch-clause-inside g c =
    let B = g.P.F.EdgeFn.edge in
    let targets = g.P.Problem.targets in
    let filled : FillsAlone B targets c.args.key c.args.function c.site-site.result.now c.fill_alone.new.self = search rules in
    subst (AllStandIn c.args.loaded.now.graph) (sym (owed_alone B targets c.args.key c.args.function c.site-site.result.now c.fill_alone.new.self filled))
    (parts-within B targets c.args.loaded.now.graph.nodes c.args.key c.args.function c.site-site.result.now (Entries []) c.site-site.ensures.edges)
