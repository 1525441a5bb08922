-- Tasks that are paid for are few.
use Rattle.std.proofs.Common.{◌≡◌, ◌-◌, ◌^◌, ℕ, arith, ◌∙◌}
use Rattle.std.specs.Prelude.{Result, Ok, Err, IfOk, min}
use Rattle.ide_lattice.specs.Algebra.{LatticeAlgebra, EdgeAlgebra}
use Rattle.ide_problem.specs.Flow.{Targets}
use Rattle.ide_theory.specs.Graphs.{frame_at}
use Rattle.ide_steps.specs.Core.{CoreData}
use Rattle.ide_steps.specs.Drain.{GoesOnPaid}
use Rattle.ide_steps.specs.Room.{AreTasksFew, ImagesHaveRoom, IsWholeCore}
use Rattle.ide_steps.proofs.Going.{run-goes}

module _ {F L : Type 0} (A : LatticeAlgebra L) (B : EdgeAlgebra F L) (targets : Targets F) where
  pub few-of : {E : Type 0} → ImagesHaveRoom A B targets → (r : Result ℕ E) (old new : CoreData F) → IsWholeCore new
      → IfOk r (λ tasks. (claims : ℕ) × (tasks ≡ min claims (2 ^ 64 - 1)) × GoesOnPaid A B targets claims old new) → IfOk r (λ tasks. AreTasksFew A B targets old tasks)
  few-of room (Ok tasks) old new whole run_by = λ graph is all fit run.
      let goes = run_by.2.goes in
      let most = room new whole graph (goes.same.graph ∙ is) all fit
      (run-goes A B targets (frame_at A B targets graph all) run (goes.steps graph is all fit run).0) in
      let count = run_by.1 in
      let keys = run_by.2.paid.keys in
      let ranks = run_by.2.paid.ranks in
      omega (arith, most, count, keys, ranks)
  few-of room (Err e) old new whole run_by = tt
