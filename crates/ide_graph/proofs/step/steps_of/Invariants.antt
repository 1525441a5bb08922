use Rattle.std.proofs.Common.{◌≡◌, ℕ, Some, length}
use Rattle.std.specs.Prelude.{slice_get}
use Rattle.ide_graph.specs.Steps.{IsStepAt}
use Rattle.ide_graph.specs.declared.step.Step.{Step}
use Rattle.ide_graph.proofs.step.steps_of.Given as goal

-- there is a step for each of the nodes before, and each is one of its node
abbrev pub invariant-loop-node : goal.invariant-loop-node
invariant-loop-node l = record {
  counted : length l.steps.items ≡ l.node;
  each : (node : ℕ) (step : Step) → slice_get l.steps.items node ≡ Some step → IsStepAt l.fn.facts l.fn.sites node step;
}
