use Rattle.ide_image.proofs.functions.recent.Given as goal

abbrev pub invariant-loop-index : goal.invariant-loop-index
invariant-loop-index g l = Unit {0}
