-- What is found once entries are set, one after the other.
use Rattle.std.proofs.Common.{◌≡◌, refl, sym, ap, ◌∙◌, List, [], ◌∷◌, Some, None, Bool, true, false, cond}
use Rattle.std.specs.Map.{lookup}
use Rattle.ide_wire.specs.declared.key.Key.{Key}
use Rattle.ide_wire.specs.Key.{same_key, same_key_exact, same_key_symm}
use Rattle.ide_image.specs.Tables.{with_entry}

module _ {F : Type 0} where
  -- the function that is found at a key, once another's entry is set behind a first entry
  found-behind : (e : Key × F) (es : List (Key × F)) (key q : Key) (v : F) (here there own : Bool) → same_key key e.0 ≡ here → same_key q e.0 ≡ there → same_key key q ≡ own
      → lookup (same_key q) (with_entry es key v) ≡ cond own (Some v) (lookup (same_key q) es)
      → lookup (same_key q) (cond here ((e.0, v) ∷ es) (e ∷ with_entry es key v)) ≡ cond own (Some v) (cond there (Some e.1) (lookup (same_key q) es))
  found-behind e es key q v true there own a b c rest =
      let one : key ≡ e.0 = same_key_exact key e.0 a in
      let same : own ≡ there = sym c ∙ (ap (λ k. same_key k q) one ∙ (same_key_symm e.0 q ∙ b)) in
      ap (λ t. cond t (Some v) (lookup (same_key q) es)) b
      ∙ elim there as (λ t. own ≡ t → cond t (Some v) (lookup (same_key q) es) ≡ cond own (Some v) (cond t (Some e.1) (lookup (same_key q) es))) [
        | true ↦ λ is. sym (ap (λ t. cond t (Some v) (Some e.1)) is)
        | false ↦ λ is. sym (ap (λ t. cond t (Some v) (lookup (same_key q) es)) is)
      ] same
  found-behind e es key q v false true true a b c rest =
      let one : q ≡ e.0 = same_key_exact q e.0 b in
      absurd (cc (c, a, ap (same_key key) one))
  found-behind e es key q v false true false a b c rest = ap (λ t. cond t (Some e.1) (lookup (same_key q) (with_entry es key v))) b
  found-behind e es key q v false false own a b c rest = ap (λ t. cond t (Some e.1) (lookup (same_key q) (with_entry es key v))) b ∙ rest

  pub found-with_entry : (es : List (Key × F)) (key q : Key) (v : F)
      → lookup (same_key q) (with_entry es key v) ≡ cond (same_key key q) (Some v) (lookup (same_key q) es)
  found-with_entry [] key q v = ap (λ b. cond b (Some v) None) (same_key_symm q key)
  found-with_entry (e ∷ es) key q v =
      found-behind e es key q v (same_key key e.0) (same_key q e.0) (same_key key q) refl refl refl (found-with_entry es key q v)
