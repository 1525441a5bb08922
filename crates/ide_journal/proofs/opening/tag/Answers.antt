use Rattle.std.proofs.Common.{◌<◌, ◌+◌, length, slice_range, arith, ap, ◌∙◌}
use Rattle.ide_disk.specs.Disk.{DiskState}
use Rattle.ide_journal.specs.Refusals.{tag_no_store}
use Rattle.ide_journal.proofs.FirstPage.{page_of, file_of}
use Rattle.ide_journal.proofs.opening.tag.Goals as goal

pub returns-in_default-clause-refused : goal.returns-in_default-clause-refused
returns-in_default-clause-refused g c honest =
    let bytes = (g.D.Disk.state c.args.disk.now).now in
    let inside : 4096 < length bytes = omega (arith, g.met.D.Disk.whole c.args.disk.now honest, c.in-Ok.ensures.length, c.if-len-le4096.false) in
    let page = c.in-Ok-read.ensures.bytes (c.len.ensures.honest honest) ∙ ap (λ (d : DiskState). slice_range d.now 0 (0 + 4097)) (c.len.ensures.state honest) in
    tag_no_store (λ told store. c.in_default.ensures.none told (page_of bytes c.read.new.out inside page told store))

pub returns-clause-told : goal.returns-clause-told
returns-clause-told g c honest =
    let bytes = (g.D.Disk.state c.args.disk.now).now in
    let inside : 4096 < length bytes = omega (arith, g.met.D.Disk.whole c.args.disk.now honest, c.in-Ok.ensures.length, c.if-len-le4096.false) in
    let page = c.in-Ok-read.ensures.bytes (c.len.ensures.honest honest) ∙ ap (λ (d : DiskState). slice_range d.now 0 (0 + 4097)) (c.len.ensures.state honest) in
    (_, file_of bytes c.read.new.out inside page _ c.in-Some.ensures.store)
