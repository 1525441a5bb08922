-- The graph that a core has is one of the program that it has.
use Rattle.std.proofs.Common.{◌≡◌, ◌∙◌, Option, Some, subst}
use Rattle.ide_batch.specs.Applied.{IsGraphed}
use Rattle.ide_graph.proofs.LawfulLemmas.{edges_lawful}
use Rattle.ide_graph.specs.Supergraph.{Supergraph}
use Rattle.ide_steps.specs.Core.{CoreData}
use Rattle.ide_steps.specs.Room.{IsGraphSaid, IsWholeCore}
use Rattle.ide_text.specs.Value.{ProgramValue}
use Rattle.ide_theory.proofs.Laws.Changes.{some-inj}
use Rattle.ide_theory.proofs.Laws.Programs.{site-lawful}
use Rattle.ide_store.specs.Answers.{GraphBy}

module _ {F : Type 0} (core : CoreData F) where
  -- a graph of the program, as the core has it
  pub graph_said : (graph : Supergraph) → IsGraphSaid core.program graph → (v : ProgramValue) → core.program ≡ Some v → GraphBy v
  graph_said graph said v is = record {
    program = said.program;
    says = some-inj (said.says ∙ is);
    graph = graph;
    graphed = said.graphed;
    edges = said.edges;
    all = λ n site stands. site-lawful said.program (edges_lawful said.program) graph.facts said.graphed.counts.0 n site (said.edges n site stands);
  }

  -- where a program is loaded, the core has such a graph
  pub graph_kept : IsWholeCore core → IsGraphed core.program core.graph → (v : ProgramValue) → core.program ≡ Some v
      → (by : GraphBy v) × (core.graph ≡ Some by.graph)
  unfolding graph_said
  graph_kept whole graphed v is =
      let at : IsGraphed (Some v) core.graph = subst (λ (o : Option ProgramValue). IsGraphed o core.graph) is graphed in
      (graph_said at.1 (whole.said at.1 at.3) v is, at.3)
