use Rattle.ide_values.proofs.values.ValuePhase.values_alone.Goals as goal

pub returns-clause-best : goal.returns-clause-best
returns-clause-best g c = rw (← c.image.ensures) c.in_ok-values_of.ensures.best
