-- Parts that are done behind others: the work counts both.
use Rattle.std.proofs.Common.{◌≡◌, ◌∙◌, ◌+◌, ℕ, ap, arith}
use Rattle.ide_tasks.specs.Work.{WorkData}
use Rattle.ide_service.specs.Parts.{with_more_done}

-- no part
pub none_more : {F : Type 0} (start : WorkData F) → start ≡ with_more_done start 0
none_more start = let same : start.done ≡ start.done + 0 = omega arith in ap (λ n. record start { done = n }) same

-- so many, and then so many more
pub more_behind : {F : Type 0} (start work after : WorkData F) (count more : ℕ) → work ≡ with_more_done start count → after ≡ with_more_done work more
    → after ≡ with_more_done start (count + more)
more_behind {F = F} start work after count more is further =
    let sum : start.done + count + more ≡ start.done + (count + more) = omega arith in
    let both : with_more_done work more ≡ with_more_done start (count + more) =
    ap (λ (w : WorkData F). record w { done = w.done + more }) is ∙ ap (λ n. record start { done = n }) sum in
    further ∙ both
