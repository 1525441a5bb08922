use Rattle.std.proofs.Common.{arith}
use Rattle.ide_image.proofs.Stack.{pending-few}
use Rattle.ide_image.proofs.queue.Queue.push.Goals as goal

pub overflow_add-self : goal.overflow_add-self
overflow_add-self c =
    let few = pending-few c.self.inside.marks in
    omega (arith, few, c.self.invariant.counted, c.self.invariant.agrees.few)
