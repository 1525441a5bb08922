-- Targets of a fact: the function to a fact is the listed one, or it is always-top.
use Rattle.std.proofs.Common.{◌≡◌, ℕ, ◌+◌, ◌<◌, ◌≤◌, ◌⊎◌, Bool, true, false, cond, nat_eq, List, [], ◌∷◌, IsTrue, ap, subst, refl, ◌∙◌, inl, inr, arith}
use Rattle.std.proofs.lemmas.Bool.Decides.{nat_tests}
use Rattle.ide_lattice.specs.Algebra.{EdgeAlgebra}
use Rattle.ide_problem.specs.Flow.{function_to, AreTargets}
use Rattle.ide_theory.specs.Member.{IsIn, first, later}

pub nat_eq-refl : (n : ℕ) → nat_eq n n ≡ true
nat_eq-refl n = grind (arith, nat_tests)

pub nat_eq-exact : (m n : ℕ) → nat_eq m n ≡ true → m ≡ n
nat_eq-exact m n h = grind (arith, nat_tests)

pub nat_eq-past : (m n : ℕ) → m + 1 ≤ n → nat_eq m n ≡ false
nat_eq-past m n h = grind (arith, nat_tests)

-- a listed target is in range and proper
pub record IsInRange {F : Type 0} (is_proper : F → Bool) (low count : ℕ) (t : ℕ × F) : Type 0 where
  pub least : low ≤ t.0
  pub most : t.0 < count
  pub proper : IsTrue (is_proper t.1)

pub in-range : {F : Type 0} (proper : F → Bool) {t : ℕ × F} {ts : List (ℕ × F)} → IsIn t ts → (low count : ℕ) → AreTargets proper low count ts
    → IsInRange proper low count t
in-range proper first low count all = record { least = all.0; most = all.1; proper = all.2 }
in-range proper (later {y = y} is) low count all =
    let rest : IsInRange proper (y.0 + 1) count _ = in-range proper is (y.0 + 1) count all.3 in
    record { least = omega (arith, all.0, rest.least); most = rest.most; proper = rest.proper }

module _ {F L : Type 0} (B : EdgeAlgebra F L) where
  -- the function to a listed target is the one listed
  pub target-is : {t : ℕ × F} {ts : List (ℕ × F)} → IsIn t ts → (low count : ℕ) → AreTargets B.proper low count ts → function_to B t.0 ts ≡ t.1
  target-is (first {x = x} {xs = xs}) low count all = ap (λ b. cond b x.1 (function_to B x.0 xs)) (nat_eq-refl x.0)
  target-is {t} (later {y = y} {xs = xs} is) low count all =
      let rest : IsInRange B.proper (y.0 + 1) count t = in-range B.proper is (y.0 + 1) count all.3 in
      ap (λ b. cond b y.1 (function_to B t.0 xs)) (nat_eq-past y.0 t.0 rest.least)
      ∙ target-is is (y.0 + 1) count all.3

  -- the function to a fact is listed, or it is always-top
  pub target-or : (d : ℕ) (ts : List (ℕ × F)) → IsIn {T = ℕ × F} (d, function_to B d ts) ts ⊎ (function_to B d ts ≡ B.all_top)
  target-or d [] = inr refl
  target-or d (t ∷ ts) = choose (target-or d ts) (nat_eq t.0 d) refl
    where
      choose : IsIn {T = ℕ × F} (d, function_to B d ts) ts ⊎ (function_to B d ts ≡ B.all_top) → (b : Bool) → nat_eq t.0 d ≡ b
          → IsIn {T = ℕ × F} (d, cond b t.1 (function_to B d ts)) (t ∷ ts) ⊎ (cond b t.1 (function_to B d ts) ≡ B.all_top)
      choose rest true same = inl (subst (λ k. IsIn {T = ℕ × F} (k, t.1) (t ∷ ts)) (nat_eq-exact t.0 d same) first)
      choose (inl is) false other = inl (later is)
      choose (inr top) false other = inr top
