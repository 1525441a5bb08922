use Rattle.std.proofs.Common.{length}
use Rattle.ide_disk.specs.Disk.{Wrote}
use Rattle.ide_file_tests.proofs.Unchanged.{leaves-unchanged}
use Rattle.ide_file_tests.proofs.tests.memory_file.MemoryFileBackingFile.write.Goals as goal

pub returns-then-self-bytes-clause-crash : goal.returns-then-self-bytes-clause-crash
returns-then-self-bytes-clause-crash c honest =
    leaves-unchanged (Wrote c.args.at (length c.args.bytes.now)) c.args.self.now.disk
