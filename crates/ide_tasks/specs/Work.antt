-- What contracts see of a work: its task, the task's parts in the order in which they are owed,
-- and how many are done.
use Rattle.std.specs.Prelude.{ℕ, List}
use Rattle.ide_wire.specs.declared.key.Key.{Key}
use Rattle.ide_tasks.specs.Task.{TaskData}

-- each part is a key and the function that its entry is met with
pub record WorkData (F : Type 0) : Type 0 where
  pub task : TaskData F
  pub parts : List (Key × F)
  pub done : ℕ
