use Rattle.ide_commands.specs.Status.{image_lines, slot_lines}
use Rattle.ide_commands.proofs.Appended.{two_appended}
use Rattle.ide_commands.proofs.status.Status.append.Goals as goal

pub returns : goal.returns
returns c =
    let s = c.args.self.now in
    two_appended c.args.out.now.items (image_lines s) (slot_lines s) c.append_image.new.out.items c.append_slots.new.out.items
    c.in_ok-append_image.ensures c.in_ok-append_slots.ensures
