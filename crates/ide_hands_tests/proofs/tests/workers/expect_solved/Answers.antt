use Rattle.std.proofs.Common.{refl}
use Rattle.ide_hands_tests.proofs.tests.workers.expect_solved.Goals as goal

pub expect_solved_by-requires-clause-told : goal.expect_solved_by-requires-clause-told
expect_solved_by-requires-clause-told g t c outlives told = record { run = told.run; version_is = refl; honest = told.honest; is = refl }
