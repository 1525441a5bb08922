-- How many bytes a disk in memory can have.
use Rattle.std.specs.Prelude.{◌<◌, ◌^◌, length}
use Rattle.std.proofs.Common.{arith}
use Rattle.ide_disk.specs.declared.contents.Contents.{Contents}

pub bounded_length : (contents : Contents) → length contents.bytes.items < 2 ^ 63
bounded_length contents = omega (arith, contents.bytes.ok, contents.bytes.small)
