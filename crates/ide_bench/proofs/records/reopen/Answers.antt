use Rattle.std.proofs.Common.{map, arith, rules, subst}
use Rattle.std.proofs.lemmas.List.{length-map}
use Rattle.ide_disk.specs.contracts.memory.MemDiskDisk.TheImpl.{ghosts}
use Rattle.ide_journal.specs.Format.{Holds, head_of}
use Rattle.ide_journal.specs.Lists.{entry_of}
use Rattle.ide_journal.specs.declared.version.Version.TheVariants.{Two}
use Rattle.ide_bench.proofs.Alike.{same_count}
use Rattle.ide_bench.specs.declared.records.TheConstants.{KIND, TAG}
use Rattle.ide_bench.proofs.records.reopen.Goals as goal

pub returns-in-Ok : goal.returns-in-Ok
returns-in-Ok c =
    let records = c.in-Ok.records in
    let entries = map entry_of records.items in
    let told = head_of c.in-Ok.journal.version TAG in
    let held = subst (λ disk. Holds told entries (ghosts.state disk).now) c.into_disk-disk.ensures (c.in-Ok.ensures.opened (search rules)).held in
    let count = same_count ghosts c.holds_one_list.ensures (head_of Two TAG) told KIND c.args.sizes.length c.args.sizes.count c.in_ok-journal.field-0 entries c.in_ok-journal.ensures held in
    omega (arith, c.len.ensures, records.ok, length-map records.items entry_of, count)
