-- An answer tells the best origin, as the solver's values are best.
use Rattle.std.proofs.Common.{◌≡◌, ℕ, ◌<◌, Bool, List, [], ◌∷◌, refl, ap, sym, subst, ◌∙◌}
use Rattle.ide_graph.specs.Supergraph.{Supergraph, IsFoundAt}
use Rattle.ide_solver.specs.Solve.{AreSolved}
use Rattle.ide_theory.specs.Best.{IsBest}
use Rattle.ide_theory.specs.Graphs.{frame_at, roots_at}
use Rattle.ide_values.specs.Values.{ValuesData, value_there}
use Rattle.ide_example.specs.Asked.{IsAnswer, origin_told}
use Rattle.ide_example.specs.Carry.{carries}
use Rattle.ide_example.specs.Inputs.{inputs_targets}
use Rattle.ide_example.specs.Origin.{origins}
use Rattle.ide_example.specs.contracts.origin.OriginPartialEq.TheImpl.{ghosts as origin_eq}
use Rattle.ide_example.specs.declared.asked.Place.{Place}
use Rattle.ide_example.specs.declared.origin.Origin.{Origin}
use Rattle.ide_example.specs.declared.origin.Origin.TheVariants.{Program, Input}

-- whether an origin is an input tells the origin
told : (origin : Origin) → origin_told (origin_eq.eq origin Input) ≡ origin
told Program = refl
told Input = refl

pub answered : (text root : List ℕ) (place : Place) (values : ValuesData Origin) (graph : Supergraph) (node fact : ℕ) (origin : Origin) (answer : Bool)
    → AreSolved origins carries inputs_targets text (root ∷ []) values → graph ≡ values.graph
    → IsFoundAt graph place.procedure.now place.position place.variable.now node fact → node < graph.nodes → fact < graph.facts
    → origin ≡ value_there origins values node fact → answer ≡ origin_eq.eq origin Input
    → IsAnswer text root place answer
answered text root place values graph node fact origin answer solved same found is_node is_fact value is = record {
  graph = values.graph;
  spelled = solved.spelled;
  roots = values.roots;
  named = solved.named;
  node = node;
  fact = fact;
  found = subst (λ g. IsFoundAt g place.procedure.now place.position place.variable.now node fact) same found;
  all = solved.all;
  best =
      subst (IsBest (frame_at origins carries inputs_targets values.graph solved.all) (roots_at origins carries inputs_targets values.graph solved.all values.roots) node fact)
      (sym value ∙ (sym (told origin) ∙ ap origin_told (sym is)))
      (solved.best node fact (subst (λ g. node < g.nodes) same is_node) (subst (λ g. fact < g.facts) same is_fact));
}
