-- What falls where an entry is lowered, and where a task is over.
use Rattle.std.proofs.Common.{◌≡◌, ℕ, zero, suc, ◌+◌, ◌-◌, ◌*◌, ◌^◌, ◌<◌, ◌≤◌, Bool, true, false, List, [], ◌∷◌, Option, Some, None, cond, length, arith, ap, sym, ◌∙◌, refl}
use Rattle.ide_lattice.specs.Algebra.{EdgeAlgebra}
use Rattle.ide_wire.specs.Key.{same_key, same_key_exact}
use Rattle.ide_wire.specs.declared.key.Key.{Key}
use Rattle.ide_image.specs.Spent.{spent}
use Rattle.ide_image.specs.Worklist.{IsWorklist, Pile, claim_at, is_pending, marked}
use Rattle.ide_image.specs.declared.claim.Claim.{Claim}
use Rattle.ide_steps.specs.Drain.{left_by}

pub at-most-one : (b : Bool) → cond b 0 1 ≤ 1
at-most-one true = omega arith
at-most-one false = omega arith

-- a key that is pushed is pending for the first time, or its claim ends with the key pending
module _ {T : Type 0} (pile : Pile T) (key : Key) (list : IsWorklist pile) where
  claim-pays : (h : ℕ) (claim : Option (Claim T)) → claim_at pile h ≡ claim
      → left_by (marked key claim) + cond (is_pending pile key) 0 1 ≤ left_by claim + 1
  claim-pays h None is = let one = at-most-one (is_pending pile key) in omega (arith, one)
  claim-pays h (Some c) is =
      elim (same_key c.key key) as (λ b. same_key c.key key ≡ b → left_by (cond b (Some (record c { lowered = true })) (Some c)) + cond (is_pending pile key) 0 1 ≤ left_by (Some c) + 1) [
        | true ↦ λ same.
            let pending : is_pending pile key ≡ true = ap (is_pending pile) (sym (same_key_exact c.key key same)) ∙ list.held h c is in
            let none : ◌≡◌ {A = ℕ} (cond (is_pending pile key) 0 1) 0 = ap (λ b. cond b 0 1) pending in
            omega (arith, none)
        | false ↦ λ other. let one = at-most-one (is_pending pile key) in omega (arith, one)
      ] refl

  pub push-pays : (h : ℕ) → left_by (marked key (claim_at pile h)) + cond (is_pending pile key) 0 1 ≤ left_by (claim_at pile h) + 1
  push-pays h = claim-pays h (claim_at pile h) refl

module _ {F L : Type 0} (B : EdgeAlgebra F L) where
  pub spent_most : (es : List (Key × F)) (n : ℕ) → length es ≤ n → spent B es ≤ n * B.height
  spent_most [] n few = omega arith
  spent_most (e ∷ es) zero few = absurd (omega (arith, few))
  spent_most (e ∷ es) (suc n) few =
      let rest : spent B es ≤ n * B.height = spent_most es n (omega (arith, few)) in
      omega (arith, rest)

  -- an entry is lowered, and at most one more key is pending
  pub falls : (es fs : List (Key × F)) (pending now : ℕ) → length fs < 2 ^ 64 → spent B es < spent B fs → now ≤ pending + 1
      → 2 * (2 ^ 64 * B.height - spent B fs) + now < 2 * (2 ^ 64 * B.height - spent B es) + pending
  falls es fs pending now few spends more =
      let most : spent B fs ≤ 2 ^ 64 * B.height = spent_most fs (2 ^ 64) (omega (arith, few)) in
      omega (arith, most, spends, more)
