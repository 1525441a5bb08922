-- Falls, one after the other.
use Rattle.std.proofs.Common.{◌≡◌, ℕ, ◌+◌, ◌<◌, ◌≤◌, Bool, true, false, cond, List, ap, get_or, length, set, arith}
use Rattle.std.proofs.lemmas.List.Sums.{sum_by-set}
use Rattle.ide_lattice.specs.Algebra.{LatticeAlgebra}
use Rattle.ide_values.specs.declared.passes.Starts.{Starts}
use Rattle.ide_values.specs.Falling.{StartsFall, ranks}

module _ {P L F : Type 0} (A : LatticeAlgebra L) where
  pub falls_not : (starts : Starts P L F) → StartsFall A starts starts
  falls_not starts = record { least = omega arith; waiting = omega arith; marked = omega arith }

  pub falls_then : {u v w : Starts P L F} → StartsFall A u v → StartsFall A v w → StartsFall A u w
  falls_then once more = record {
    least = omega (arith, once.least, more.least);
    waiting = omega (arith, once.waiting, more.waiting);
    marked = omega (arith, once.marked, more.marked);
  }

  -- a value of lesser rank at a place pays for one that waits, and for the mark
  pub falls_at : (old new : Starts P L F) (place : ℕ) (value : L) → new.values.items ≡ set old.values.items place value
      → new.has_fallen ≡ true → place < length old.values.items → A.rank value < A.rank (get_or old.values.items place A.top)
      → length new.waiting.items ≤ length old.waiting.items + 1 → StartsFall A old new
  falls_at old new place value is mark within less few =
      let sum = sum_by-set A.rank old.values.items place value A.top within in
      let all : ranks A new.values.items ≡ ranks A (set old.values.items place value) = ap (ranks A) is in
      let fell : ◌≡◌ {A = ℕ} (cond new.has_fallen 1 0) 1 = ap (λ b. cond b 1 0) mark in
      record {
        least = omega (arith, sum, less, all);
        waiting = omega (arith, sum, less, few, all);
        marked = omega (arith, sum, less, all, fell);
      }

module _ {L : Type 0} (A : LatticeAlgebra L) where
  -- where the mark was set, some rank has fallen
  pub falls_once : (old new : List L) (fallen : Bool) → fallen ≡ true → ranks A new + cond fallen 1 0 ≤ ranks A old + cond false 1 0 → ranks A new < ranks A old
  falls_once old new true fell paid = omega (arith, paid)
  falls_once old new false fell paid = let none : ⊥ = cc (fell) in elim none [ ]
