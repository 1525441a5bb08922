use Rattle.ide_file_tests.proofs.Unchanged.{leaves_sync-unchanged}
use Rattle.ide_file_tests.proofs.tests.memory_file.MemoryFileBackingFile.sync.Goals as goal

pub returns-then-self-eq0-clause-crash : goal.returns-then-self-eq0-clause-crash
returns-then-self-eq0-clause-crash c honest = leaves_sync-unchanged c.args.self.now.disk
