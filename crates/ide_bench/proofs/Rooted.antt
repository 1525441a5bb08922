-- That `main` alone is a root, from what the calls of a core tell.
use Rattle.std.proofs.Common.{◌≡◌, ◌∷◌, [], ◌++◌, ℕ, List, Some, ap, codes, sym, subst, ◌∙◌}
use Rattle.std.specs.Option.{IsSomeAnd, unwrap_or}
use Rattle.ide_graph.specs.GraphOf.{IsGraphOf}
use Rattle.ide_graph.specs.ProgramEdges.{HasEdgesOf}
use Rattle.ide_graph.specs.Supergraph.{Supergraph, procedure_named}
use Rattle.ide_instances.specs.ConstFn.{const_edge}
use Rattle.ide_instances.specs.ConstValue.{const_algebra}
use Rattle.ide_instances.specs.Received.{copy_targets}
use Rattle.ide_instances.specs.declared.const_fn.ConstFn.{ConstFn}
use Rattle.ide_steps.specs.Core.{CoreData}
use Rattle.ide_steps.specs.Going.{GoesOn}
use Rattle.ide_steps.specs.Rooted.{IsBegun}
use Rattle.ide_text.specs.Parsed.{IsParsed}
use Rattle.ide_text.specs.declared.program.Program.{Program}
use Rattle.ide_bench.specs.Phases.{IsRootedAtMain}

pub rooted_at_main : (text : List ℕ) (p : Program) → IsParsed text p
    → (loaded rooted drained : CoreData ConstFn) (graph : Supergraph) (roots : List ℕ)
    → IsSomeAnd loaded.graph (IsGraphOf p) → IsSomeAnd loaded.graph (HasEdgesOf p) → loaded.roots ≡ []
    → IsBegun const_algebra const_edge copy_targets loaded rooted (codes "main") → GoesOn const_algebra const_edge copy_targets 0 rooted drained
    → drained.graph ≡ Some graph → roots ≡ drained.roots
    → IsRootedAtMain text graph roots
rooted_at_main text p parsed loaded rooted drained graph roots has_graph has_edges no_roots begun goes at_end roots_end =
    record {
      spelled = record { program = p; parsed = parsed; counted = subst (λ o. IsSomeAnd o (IsGraphOf p)) at_load has_graph; edges = subst (λ o. IsSomeAnd o (HasEdgesOf p)) at_load has_edges };
      main = begun.root;
      named = subst (λ g. procedure_named g (codes "main") ≡ Some begun.root) same begun.named.named;
      alone = roots_end ∙ goes.by.same.roots ∙ begun.roots ∙ ap (λ xs. xs ++ begun.root ∷ []) no_roots;
    }
  where
    at_load : loaded.graph ≡ Some graph
    at_load = sym begun.same ∙ sym goes.by.same.graph ∙ at_end

    same : begun.graph ≡ graph
    same = ap (λ o. unwrap_or o graph) (sym begun.is ∙ at_load)
