-- Values that come of others by steps.
use Rattle.std.proofs.Common.{◌≡◌, ℕ, ◌<◌, List, Option, Some, None, length, refl, subst, sym, arith}
use Rattle.std.specs.Prelude.{slice_get}
use Rattle.ide_values.specs.Pass.{GoesBy, stays, then}
use Rattle.ide_values.proofs.Filled.{none_past}

module _ {X V : Type 0} (step : V → X → V) (IsAmong : X → Type 0) where
  pub goes_trans : {u v w : V} → GoesBy step IsAmong u v → GoesBy step IsAmong v w → GoesBy step IsAmong u w
  goes_trans first stays = first
  goes_trans first (then more x is) = then (goes_trans first more) x is

  pub goes_by : {u v w : V} → GoesBy step IsAmong u v → (x : X) → IsAmong x → w ≡ step v x → GoesBy step IsAmong u w
  goes_by {u} so_far x is e = subst (GoesBy step IsAmong u) (sym e) (then so_far x is)

-- below the length something stands
pub none_within : {X : Type 0} (xs : List X) (i : ℕ) → slice_get xs i ≡ None → i < length xs → ⊥
none_within xs i none within = let past = none_past xs i none in omega (arith, past, within)

pub some_within : {X : Type 0} (xs : List X) (i : ℕ) → i < length xs → (x : X) × (slice_get xs i ≡ Some x)
some_within {X = X} xs i within = by (slice_get xs i) refl
  where
    by : (o : Option X) → slice_get xs i ≡ o → (x : X) × (slice_get xs i ≡ Some x)
    by (Some x) is = (x, is)
    by None is = absurd (none_within xs i is within)
