use Rattle.std.proofs.Common.{◌≡◌, arith, rules, List, [], ap, subst, sym, ◌∙◌}
use Rattle.std.proofs.lemmas.Option.{same_Some}
use Rattle.std.proofs.lemmas.Grind.{common_steps}
use Rattle.ide_steps.specs.Core.{IsProgramKept, CoreData, of_program}
use Rattle.ide_steps.proofs.States.{state-nothing}
use Rattle.ide_steps.proofs.Nodes.{kept-nothing}
use Rattle.std.specs.Option.{option_map}
use Rattle.ide_wire.specs.declared.key.Key.{Key}
use Rattle.ide_image.specs.declared.entry.Entry.{Entry}
use Rattle.ide_steps.specs.declared.loaded.Loaded.{Loaded}
use Rattle.ide_steps.proofs.machine.Core.load_spelled.Goals as goal

pub returns-clause-loads : goal.returns-clause-loads
returns-clause-loads g c =
    let none : List (Key × Entry g.row.P-F.Denot) → List (Key × Entry g.row.P-F.Denot) = λ _. [] in
    record {
      program = first_of (search rules, grind (arith, common_steps));
      roots = search rules;
      graph = first_of (search rules, grind (arith, common_steps));
      edges = first_of (search rules, grind (arith, common_steps));
      state = state-nothing g.P.F.EdgeFn.edge g.P.Problem.targets c.clear.new.self.table c.clear.new.self.pile c.clear.ensures.entries c.clear.ensures.pending c.clear.ensures.claims;
      entries = c.clear.ensures.entries;
      pending = c.clear.ensures.pending;
      claims = c.clear.ensures.claims;
      changes = c.clear.ensures.changes ∙ ap (λ (core : CoreData g.row.P-F.Denot). option_map none core.changes) c.self.view_is;
    }

pub invariant_of-self : goal.invariant_of-self
invariant_of-self g c = λ loaded is.
    let Held = Loaded g.row.P.Denot g.row.P-L.Denot g.row.P-F.Denot in
    let made = c.in_ok-loaded.loaded in
    let same : made ≡ loaded = sym c.in_ok-loaded-2.ensures.ok ∙ same_Some _ _ is in
    let graphed = c.in_ok-loaded.ensures.graph in
    let kept : IsProgramKept g.P.Problem.targets made.program made.graph made.sources = record {
      graphed = of_program c.args.program (sym c.in_ok-loaded.ensures.program) graphed c.in_ok-loaded.ensures.edges;
      sited = graphed.sited ∙ sym graphed.nodes;
      inverse = c.in_ok-loaded.ensures.sources;
    } in (
      subst (λ (l : Held). IsProgramKept g.P.Problem.targets l.program l.graph l.sources) same kept,
      kept-nothing g.P.F.EdgeFn.edge g.P.Problem.targets loaded.graph c.clear.new.self.pile c.clear.ensures.pending c.clear.ensures.claims,
    )
