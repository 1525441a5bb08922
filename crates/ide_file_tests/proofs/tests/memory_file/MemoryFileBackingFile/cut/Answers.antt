use Rattle.ide_disk.specs.Disk.{Cut}
use Rattle.ide_file_tests.proofs.Unchanged.{leaves-unchanged}
use Rattle.ide_file_tests.proofs.tests.memory_file.MemoryFileBackingFile.cut.Goals as goal

pub returns-then-self-eq0-clause-crash : goal.returns-then-self-eq0-clause-crash
returns-then-self-eq0-clause-crash c honest = leaves-unchanged (Cut c.args.len) c.args.self.now.disk
