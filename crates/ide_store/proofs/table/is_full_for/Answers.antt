use Rattle.ide_store.proofs.table.is_full_for.Goals as goal

pub returns-clause-current : goal.returns-clause-current
returns-clause-current g c is = record { claim = c.is_current.ensures.current.0 is; parts = c.is_current.ensures.owed is }
