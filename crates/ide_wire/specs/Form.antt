-- Coded forms: when one stands in front of some bytes, and that no form begins another.
use Rattle.std.specs.Prelude.{◌≡◌, ℕ, Bool, List, ◌++◌, length, IsTrue}

-- the form stands in front of the bytes, and has that length
pub record StandsInFront (form bytes : List ℕ) (count : ℕ) : Type 0 where
  pub rest : List ℕ
  pub splits : bytes ≡ form ++ rest
  pub size : count ≡ length form

-- no form of a proper value stands in front of the bytes
abbrev pub NoFormInFront : {T : Type 0} → (T → Bool) → (T → List ℕ) → List ℕ → Type 0
NoFormInFront {T = T} proper form bytes = (x : T) (rest : List ℕ) → IsTrue (proper x) → bytes ≡ form x ++ rest → ⊥

-- no form begins another, and no two values have one form
abbrev pub IsPrefixFree : {T : Type 0} → (T → Bool) → (T → List ℕ) → Type 0
IsPrefixFree {T = T} proper form =
    (x y : T) (r s : List ℕ) → IsTrue (proper x) → IsTrue (proper y) → form x ++ r ≡ form y ++ s → x ≡ y
