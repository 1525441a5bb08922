use Rattle.std.proofs.Common.{codes}
use Rattle.ide_commands.specs.Lines.{number_line}
use Rattle.ide_commands.proofs.Appended.{five_appended}
use Rattle.ide_commands.proofs.status.Status.append_slots.Goals as goal

pub returns : goal.returns
returns c =
    let s = c.args.self.now in
    five_appended c.args.out.now.items (number_line (codes "records ") s.records) (number_line (codes "bytes ") s.bytes)
    (number_line (codes "generation ") s.generation) (number_line (codes "base ") s.base) (number_line (codes "version ") s.version)
    c.append_line.new.out.items c.append_line-2.new.out.items c.append_line-3.new.out.items c.append_line-4.new.out.items
    c.append_line-5.new.out.items c.in_ok-append_line.ensures c.in_ok-append_line-2.ensures c.in_ok-append_line-3.ensures
    c.in_ok-append_line-4.ensures c.in_ok-append_line-5.ensures
