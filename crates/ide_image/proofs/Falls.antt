-- What an entry that is set does to what is spent, and to how many keys there are.
use Rattle.std.proofs.Common.{◌≡◌, ℕ, ◌+◌, ◌<◌, ◌≤◌, ap, sym, subst, ◌∙◌, Bool, true, false, cond, List, [], ◌∷◌, Option, None, Some, length, arith}
use Rattle.std.specs.Map.{lookup}
use Rattle.std.specs.Option.{is_some}
use Rattle.ide_lattice.specs.Algebra.{EdgeAlgebra}
use Rattle.ide_wire.specs.declared.key.Key.{Key}
use Rattle.ide_wire.specs.Key.{same_key}
use Rattle.ide_image.specs.Spent.{fallen, spent, spent_by}
use Rattle.ide_image.specs.Tables.{FallsAt, Lowers, Sets, Table, function_at, is_kept, lowered_by, or_top, with_entry}

module _ {F L : Type 0} (B : EdgeAlgebra F L) (key : Key) (v : F) where
  -- at an entry that is the key's, and at one that is not
  spent-step : (e : Key × F) (es : List (Key × F)) (here : Bool)
      → spent B (with_entry es key v) + spent_by B (lookup (same_key key) es) ≡ spent B es + fallen B v
      → spent B (cond here ((e.0, v) ∷ es) (e ∷ with_entry es key v)) + spent_by B (cond here (Some e.1) (lookup (same_key key) es)) ≡ spent B (e ∷ es) + fallen B v
  spent-step e es true rest = omega arith
  spent-step e es false rest = omega (arith, rest)

  pub spent-with : (es : List (Key × F)) → spent B (with_entry es key v) + spent_by B (lookup (same_key key) es) ≡ spent B es + fallen B v
  spent-with [] = omega arith
  spent-with (e ∷ es) = spent-step e es (same_key key e.0) (spent-with es)

module _ {F : Type 0} (key : Key) (v : F) where
  count-step : (e : Key × F) (es : List (Key × F)) (here : Bool)
      → length (with_entry es key v) ≡ length es + cond (is_some (lookup (same_key key) es)) 0 1
      → length (cond here ((e.0, v) ∷ es) (e ∷ with_entry es key v)) ≡ length (e ∷ es) + cond (is_some (cond here (Some e.1) (lookup (same_key key) es))) 0 1
  count-step e es true rest = omega arith
  count-step e es false rest = omega (arith, rest)

  pub count-with : (es : List (Key × F)) → length (with_entry es key v) ≡ length es + cond (is_some (lookup (same_key key) es)) 0 1
  count-with [] = omega arith
  count-with (e ∷ es) = count-step e es (same_key key e.0) (count-with es)

-- an entry that falls is spent
pub spent-lower : {F L : Type 0} (B : EdgeAlgebra F L) (old : Option F) (v : F) (before after : ℕ)
    → B.rank (or_top B old) ≤ B.height → B.rank v < B.rank (or_top B old) → after + spent_by B old ≡ before + fallen B v → before < after
spent-lower B None v before after most less is = omega (arith, most, less, is)
spent-lower B (Some f) v before after most less is = omega (arith, most, less, is)

-- the key's old function is met with f: what is so of the two functions is so of what is found there, and of that lowered
module _ {F L : Type 0} (B : EdgeAlgebra F L) (table : Table F) (key : Key) (f old new : F) (found : old ≡ function_at B table key) (met : new ≡ B.meet old f) where
  new-is : new ≡ lowered_by B table key f
  new-is = met ∙ ap (λ g. B.meet g f) found

  pub lowers : (after : Table F) → Sets table after key new → Lowers B table after key f
  lowers after sets = subst (Sets table after key) new-is sets

  pub changes : (eq : F → F → Bool) → eq new old ≡ false → is_kept eq B table key f ≡ false
  changes eq other = sym (ap (λ g. eq g old) new-is ∙ ap (eq (lowered_by B table key f)) found) ∙ other

  pub falls-at : B.rank old ≤ B.height → B.rank new < B.rank old → FallsAt B table key f
  falls-at most less = record {
    less = subst (λ g. B.rank g < B.rank (function_at B table key)) new-is (subst (λ g. B.rank new < B.rank g) found less);
    most = subst (λ g. B.rank g ≤ B.height) found most;
  }
