-- The coded form of a function over origins: one byte.
use Rattle.std.specs.Prelude.{ℕ, ◌≤◌, true, List, [], ◌∷◌, length}
use Rattle.std.proofs.Common.{refl, lit≤}
use Rattle.ide_wire.specs.Form.{IsPrefixFree}
use Rattle.ide_example.specs.declared.carry.Carry.{Carry}
use Rattle.ide_example.specs.declared.carry.Carry.TheVariants.{Nothing, Origin as Same}

abbrev pub carry_form : Carry → List ℕ
carry_form Nothing = 0 ∷ []
carry_form Same = 1 ∷ []

pub not_empty : (f : Carry) → 1 ≤ length (carry_form f)
not_empty Nothing = lit≤ tt
not_empty Same = lit≤ tt

pub at_most_one : (f : Carry) → length (carry_form f) ≤ 1
at_most_one Nothing = lit≤ tt
at_most_one Same = lit≤ tt

-- no form begins another
pub prefix_free : IsPrefixFree (λ (f : Carry). true) carry_form
prefix_free Nothing Nothing r s p q same = refl
prefix_free Nothing Same r s p q same = cc (same)
prefix_free Same Nothing r s p q same = cc (same)
prefix_free Same Same r s p q same = refl
