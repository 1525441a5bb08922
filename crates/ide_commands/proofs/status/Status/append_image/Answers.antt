use Rattle.std.proofs.Common.{rules, ◌≡◌, ◌++◌, codes}
use Rattle.ide_commands.specs.Lines.{number_line}
use Rattle.ide_commands.specs.Status.{program_line}
use Rattle.ide_commands.proofs.Appended.{four_appended}
use Rattle.ide_commands.proofs.status.Status.append_image.Goals as goal

pub returns : goal.returns
returns c =
    let s = c.args.self.now in
    let old = c.args.out.now.items in
    let one = c.extend_from_slice.new.self.items in
    let first : one ≡ old ++ program_line s.has_program = search rules in
    four_appended old (program_line s.has_program) (number_line (codes "roots ") s.roots) (number_line (codes "keys ") s.keys)
    (number_line (codes "pending ") s.pending) one c.append_line.new.out.items c.append_line-2.new.out.items c.append_line-3.new.out.items
    first c.in_ok-append_line.ensures c.in_ok-append_line-2.ensures c.in_ok-append_line-3.ensures
