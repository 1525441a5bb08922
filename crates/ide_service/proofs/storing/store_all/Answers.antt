use Rattle.ide_desks.specs.Stepping.{failed_before}
use Rattle.ide_service.proofs.storing.store_all.Goals as goal

pub returns-then-has_failed-clause-refused : goal.returns-then-has_failed-clause-refused
returns-then-has_failed-clause-refused g c told = ∣ failed_before ∣₁
