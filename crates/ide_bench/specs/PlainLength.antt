-- No such disk is longer than a file can be.
use Rattle.std.specs.Prelude.{◌<◌, ◌^◌}
use Rattle.std.proofs.Common.{arith}
use Rattle.ide_bench.specs.PlainDisk.{plain_size}
use Rattle.ide_bench.specs.declared.plain_disk.PlainDisk.{PlainDisk}

pub plain_bounded : (disk : PlainDisk) → plain_size disk < 2 ^ 63
plain_bounded disk = omega (arith, disk.bytes.ok, disk.bytes.small)
