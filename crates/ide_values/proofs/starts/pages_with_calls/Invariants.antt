use Rattle.ide_values.specs.CallPages.{KnowsCalls}
use Rattle.ide_values.proofs.starts.pages_with_calls.Given as goal

abbrev pub invariant-loop-page : goal.invariant-loop-page
invariant-loop-page g l = KnowsCalls l.graph l.calls
