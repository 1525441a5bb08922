-- Lists of coded forms, for bodies: how many there are, then each form.
use Rattle.std.specs.Prelude.{◌≡◌, ℕ, Bool, true, ◌&&◌, List, [], ◌∷◌, ◌++◌, length, IfNone, IfOk, IfSome, IsTrue, Option, Result}
use Rattle.std.specs.Int.{w32, to_le_bytes}
use Rattle.std.specs.List.{flat_map}
use Rattle.ide_wire.specs.Numbers.{fits}

-- each is proper
abbrev pub all_proper : {T : Type 0} → (T → Bool) → List T → Bool
all_proper proper [] = true
all_proper proper (x ∷ xs) = proper x && all_proper proper xs

-- and a number of four bytes can count them
abbrev pub is_countable : {T : Type 0} → (T → Bool) → List T → Bool
is_countable proper xs = fits 32 (length xs) && all_proper proper xs

-- their count, then their forms
abbrev pub counted : {T : Type 0} → (T → List ℕ) → List T → List ℕ
counted form xs = to_le_bytes w32 (length xs) ++ flat_map form xs

-- no list of so many proper things stands in front of the bytes
abbrev pub NoListInFront : {T : Type 0} → (T → Bool) → (T → List ℕ) → ℕ → List ℕ → Type 0
NoListInFront {T = T} proper form count bytes =
    (xs : List T) (rest : List ℕ) → length xs ≡ count → IsTrue (all_proper proper xs) → bytes ≡ flat_map form xs ++ rest → ⊥

-- of what a reader answers, if it found something
abbrev pub IfRead : {X E : Type 0} → Result (Option X) E → (X → Type 0) → Type 0
IfRead result Fact = IfOk result (λ read. IfSome read Fact)

-- and if it found nothing
abbrev pub IfNotRead : {X E : Type 0} → Result (Option X) E → Type 0 → Type 0
IfNotRead result Fact = IfOk result (λ read. IfNone read Fact)
