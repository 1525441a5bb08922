use Rattle.std.proofs.Common.{◌≡◌, length, ap, arith, ◌∙◌}
use Rattle.ide_disk.specs.Leaving.{left_after}
use Rattle.ide_disk.proofs.Leaves.{left_after-fits}
use Rattle.ide_disk.proofs.contents.Contents.crash.Goals as goal

pub replace-requires : goal.replace-requires
replace-requires c =
    let self = c.args.self.now in
    let left : c.leave_all.new.bytes.items ≡ left_after c.args.leave self.calls.items self.written.items self.start.items = cc in
    omega (arith, ap length left, ap length c.deref-3.ensures.value, left_after-fits c.args.leave self.calls.items self.written.items self.start.items self.room self.fit self.start_fits)

pub invariant_of-self-clause-start_fits : goal.invariant_of-self-clause-start_fits
invariant_of-self-clause-start_fits c =
    let self = c.args.self.now in
    let left : c.leave_all.new.bytes.items ≡ left_after c.args.leave self.calls.items self.written.items self.start.items = cc in
    omega (arith, ap length left, left_after-fits c.args.leave self.calls.items self.written.items self.start.items self.room self.fit self.start_fits)

pub invariant_of-self-clause-bytes_fit : goal.invariant_of-self-clause-bytes_fit
invariant_of-self-clause-bytes_fit c =
    let self = c.args.self.now in
    let left : c.leave_all.new.bytes.items ≡ left_after c.args.leave self.calls.items self.written.items self.start.items = cc in
    let copied : length c.replace.new.bytes.items ≡ length c.leave_all.new.bytes.items =
    ap length c.replace.ensures.items ∙ ap length c.deref-3.ensures.value in
    omega (arith, ap length left, copied, left_after-fits c.args.leave self.calls.items self.written.items self.start.items self.room self.fit self.start_fits)
