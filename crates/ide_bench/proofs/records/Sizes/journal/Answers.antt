use Rattle.std.proofs.Common.{◌∷◌, [], ◌++◌, sym, subst, ap, ◌∙◌}
use Rattle.ide_journal.specs.Format.{head_of}
use Rattle.ide_journal.specs.Lists.{IsAtRest}
use Rattle.ide_journal.specs.declared.version.Version.TheVariants.{Two}
use Rattle.ide_bench.proofs.Alike.{one_more}
use Rattle.ide_bench.specs.Records.{alike}
use Rattle.ide_bench.specs.declared.records.TheConstants.{KIND, TAG}
use Rattle.ide_bench.proofs.records.Sizes.journal.Goals as goal

pub loop-preserved : goal.loop-preserved
loop-preserved c =
    let stored = alike KIND c.args.self.length c.loop.counter in
    subst (λ entries. IsAtRest (head_of Two TAG) entries c.store.new.journal)
    (ap (λ entry. stored ++ entry ∷ []) c.in_ok-record.ensures ∙ sym (one_more KIND c.args.self.length c.loop.counter))
    (c.in_ok-store.ensures (head_of Two TAG) stored c.loop.invariant)
