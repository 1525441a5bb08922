use Rattle.std.proofs.Common.{arith}
use Rattle.ide_image.proofs.Stack.{owed-few}
use Rattle.ide_image.proofs.queue.take_off.Goals as goal

pub overflow_add-held : goal.overflow_add-held
overflow_add-held c =
    let few = owed-few c.args.marks.now in
    omega (arith, few, c.requires.owed, c.requires.few)
