use Rattle.std.proofs.Common.{◌≡◌, ◌+◌, ◌≤◌, vec_capacity, vec_len}
use Rattle.ide_image.specs.Queue.{IsStack, KeepsMarks}
use Rattle.ide_image.proofs.queue.clear_top.Given as goal

-- marks and stack agree, and each slot is pending or not, and claimed or not, as it was
abbrev pub invariant-loop-slot : goal.invariant-loop-slot
invariant-loop-slot l = record {
  stack : IsStack l.marks l.stack.items l.held;
  same : KeepsMarks l.fn.marks l.marks;
  room : vec_len l.stack + l.held ≤ vec_len l.fn.stack + l.fn.held;
  capacity : vec_capacity l.stack ≡ vec_capacity l.fn.stack;
}

-- the stack gets shorter
abbrev pub decreases-loop-slot : goal.decreases-loop-slot
decreases-loop-slot l = vec_len l.stack
