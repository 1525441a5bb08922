-- The items of a core are its present keys, and a core with no claims claims no key.
use Rattle.std.proofs.Common.{◌≡◌, ℕ, zero, suc, refl, sym, ap, subst, ◌∙◌, List, [], ◌∷◌, Option, None, Some, Bool, true, false, map, get_or}
use Rattle.std.proofs.lemmas.Map.Views.{Contains-from_any, list_any-from_Contains}
use Rattle.std.specs.List.{Contains, list_any}
use Rattle.std.specs.List.Sorted.{IsStrictlySortedBy}
use Rattle.std.specs.Option.{is_some}
use Rattle.ide_lattice.specs.Algebra.{EdgeAlgebra}
use Rattle.ide_image.specs.Tables.{AreKeys, found, function_at, or_top}
use Rattle.ide_theory.specs.Member.{IsIn}
use Rattle.ide_theory.specs.Members.{contains-in, in-contains, in-map, of-map}
use Rattle.ide_wire.specs.declared.key.Key.{Key}
use Rattle.ide_wire.specs.Key.{same_key, same_key_exact, same_key_laws}
use Rattle.ide_wire.specs.KeyOrder.{key_cmp}
use Rattle.ide_image.specs.Worklist.{is_claim_of, is_pending}
use Rattle.ide_image.specs.declared.claim.Claim.{Claim}
use Rattle.ide_steps.specs.Core.{CoreData}
use Rattle.ide_steps.specs.Items.{AreItems, item_of}

-- where no hand has a claim, no claim is of the key
pub none-claimed : {T : Type 0} (key : Key) (claims : List (Option (Claim T))) → ((h : ℕ) → get_or claims h None ≡ None)
    → list_any (is_claim_of key) claims ≡ false
none-claimed key [] none = refl
none-claimed key (None ∷ claims) none = none-claimed key claims (λ h. none (suc h))
none-claimed key (Some claim ∷ claims) none = absurd (cc (none zero))

module _ {F L : Type 0} (B : EdgeAlgebra F L) (core : CoreData F) where
  pub keys-of-items : (keys : List Key) → map (λ (item : Key × F × Bool). item.0) (map (item_of B core) keys) ≡ keys
  keys-of-items [] = refl
  keys-of-items (key ∷ keys) = ap (λ rest. key ∷ rest) (keys-of-items keys)

  -- a present function is what its key stands for
  present : (o : Option F) → is_some o ≡ true → o ≡ Some (or_top B o)
  present None is = absurd (cc (is))
  present (Some f) is = refl

  module _ (keys : List Key) (exact : (key : Key) → list_any (same_key key) keys ≡ is_some (found core.table key)) where
    listed : (key : Key) (f : F) (waits : Bool) → Contains (map (item_of B core) keys) (key, f, waits)
        → (found core.table key ≡ Some f) × (waits ≡ is_pending core.pile key)
    listed key f waits there =
        let at : (u : Key) × IsIn u keys × (item_of B core u ≡ (key, f, waits)) = of-map (item_of B core) keys (in-contains (map (item_of B core) keys) (key, f, waits) there) in
        let same : at.0 ≡ key = ap (λ (item : Key × F × Bool). item.0) at.2 in
        let some : found core.table at.0 ≡ Some (function_at B core.table at.0) =
        present (found core.table at.0) (sym (exact at.0) ∙ list_any-from_Contains same_key_laws at.0 keys (contains-in at.1)) in (
          ap (found core.table) (sym same) ∙ some ∙ ap (λ (item : Key × F × Bool). Some item.1) at.2,
          sym (ap (λ (item : Key × F × Bool). item.2) at.2) ∙ ap (is_pending core.pile) same,
        )

    lists : (key : Key) (f : F) (waits : Bool) → found core.table key ≡ Some f → waits ≡ is_pending core.pile key
        → Contains (map (item_of B core) keys) (key, f, waits)
    lists key f waits is waiting =
        let there : Contains keys key = Contains-from_any same_key_exact key keys (exact key ∙ ap is_some is) in
        let same : item_of B core key ≡ (key, f, waits) = λ i. (key, or_top B (is i), sym waiting i) in
        subst (Contains (map (item_of B core) keys)) same (contains-in (in-map (item_of B core) (in-contains keys key there)))

  pub are-items : (keys : List Key) (items : List (Key × F × Bool)) → AreKeys key_cmp core.table keys → items ≡ map (item_of B core) keys
      → AreItems core items
  are-items keys items are is = subst (AreItems core) (sym is) (record {
    ascending = subst (IsStrictlySortedBy key_cmp) (sym (keys-of-items keys)) are.ascending;
    exact = λ key f waits. (listed keys are.exact key f waits, λ there. lists keys are.exact key f waits there.0 there.1);
  })
