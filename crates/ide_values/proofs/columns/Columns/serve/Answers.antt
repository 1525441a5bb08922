use Rattle.std.proofs.Common.{◌≡◌, ◌<◌, ◌∙◌, Some, arith, length, rules, sym}
use Rattle.std.specs.Prelude.{slice_index}
use Rattle.ide_graph.specs.Supergraph.{name_at}
use Rattle.ide_values.specs.Columns.{AreLinesAt}
use Rattle.ide_values.specs.Lines.{columns_in}
use Rattle.std.proofs.lemmas.List.{length-map}
use Rattle.ide_values.proofs.Edges.{equal_exact}
use Rattle.ide_values.proofs.Told.{served}
use Rattle.ide_values.proofs.columns.Columns.serve.Goals as goal

pub returns-then-not-is_empty-clause-columns : goal.returns-then-not-is_empty-clause-columns
returns-then-not-is_empty-clause-columns g c = λ same.
    let graph = c.args.self.now.graph in
    let lines = c.args.self.now.lines in
    let are : AreLinesAt g.L.Lattice.shown graph c.in-Some.made lines = search rules in
    let some : 0 < length lines.facts.items = search rules in
    let named : name_at graph c.args.node 0 ≡ Some c.in-Some-fact_name.field-0.now = search rules in
    let one : c.procedure_of.result ≡ slice_index graph.owners c.in-Some.made = search rules in
    let two : c.procedure_of-then-not-is_empty.result ≡ slice_index graph.owners c.args.node = search rules in
    served graph c.in-Some.made c.args.node (columns_in lines.facts.items) c.in-Some-fact_name.field-0.now are.columns c.requires
    (omega (arith, some, length-map lines.facts.items (λ columns. columns.items))) named
    (sym one ∙ equal_exact c.procedure_of.result c.procedure_of-then-not-is_empty.result same ∙ two)
