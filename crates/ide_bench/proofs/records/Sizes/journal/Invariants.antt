use Rattle.ide_bench.specs.Records.{alike}
use Rattle.ide_bench.specs.declared.records.TheConstants.{KIND, TAG}
use Rattle.ide_journal.specs.Format.{head_of}
use Rattle.ide_journal.specs.Lists.{IsAtRest}
use Rattle.ide_journal.specs.declared.version.Version.TheVariants.{Two}
use Rattle.ide_bench.proofs.records.Sizes.journal.Given as goal

abbrev pub invariant-loop : goal.invariant-loop
invariant-loop l = IsAtRest (head_of Two TAG) (alike KIND l.fn.self.length l.counter) l.journal
