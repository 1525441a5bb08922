-- The coded form of a function over the lattice of two values: its kind.
use Rattle.std.specs.Prelude.{ℕ, ◌≤◌, true, List, [], ◌∷◌, length}
use Rattle.std.proofs.Common.{refl, lit≤}
use Rattle.ide_wire.specs.Form.{IsPrefixFree}
use Rattle.ide_instances.specs.declared.uninit_fn.UninitFn.{UninitFn}
use Rattle.ide_instances.specs.declared.uninit_fn.UninitFn.TheVariants.{AllTop, Id}

abbrev pub uninit_fn_form : UninitFn → List ℕ
uninit_fn_form AllTop = 0 ∷ []
uninit_fn_form Id = 1 ∷ []

pub uninit_fn_not_empty : (f : UninitFn) → 1 ≤ length (uninit_fn_form f)
uninit_fn_not_empty AllTop = lit≤ tt
uninit_fn_not_empty Id = lit≤ tt

pub uninit_fn_at_most : (f : UninitFn) → length (uninit_fn_form f) ≤ 1
uninit_fn_at_most AllTop = lit≤ tt
uninit_fn_at_most Id = lit≤ tt

pub uninit_fn_prefix_free : IsPrefixFree (λ (f : UninitFn). true) uninit_fn_form
uninit_fn_prefix_free AllTop AllTop r s p q same = refl
uninit_fn_prefix_free AllTop Id r s p q same = cc (same)
uninit_fn_prefix_free Id AllTop r s p q same = cc (same)
uninit_fn_prefix_free Id Id r s p q same = refl
