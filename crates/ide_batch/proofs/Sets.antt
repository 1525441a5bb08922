-- Items that are set one after the other: one item more, and none.
use Rattle.std.specs.Prelude.{◌≡◌, ℕ, ◌+◌, ◌<◌, Bool, true, false, cond, List, [], ◌∷◌, ◌++◌, Option, Some, None, length, take, drop, get_or, unwrap_or, IsTrue}
use Rattle.std.proofs.Common.{ap, sym, subst, refl, ◌∙◌}
use Rattle.std.specs.List.{list_any}
use Rattle.std.proofs.lemmas.List.{take_more, take-append-drop}
use Rattle.ide_steps.specs.Core.{CoreData, IsSameProblem, IsUnchanged}
use Rattle.std.proofs.lemmas.List.Elements.{All-push}
use Rattle.std.specs.Option.{IsSomeAnd}
use Rattle.ide_steps.specs.Items.{IsKeyOf}
use Rattle.ide_image.specs.Tables.{Sets, found}
use Rattle.ide_wire.specs.Key.{same_key}
use Rattle.ide_wire.specs.declared.key.Key.{Key}
use Rattle.ide_image.specs.Worklist.{is_pending}
use Rattle.ide_batch.specs.Applied.{MayHaveAll, SetsItems, SetsFront, entry_in}
use Rattle.ide_batch.specs.Fold.{named, or_else, said_by}
use Rattle.ide_batch.specs.Items.{Item}

else_assoc : {X : Type 0} (a b c : Option X) → or_else (or_else a b) c ≡ or_else a (or_else b c)
else_assoc None b c = refl
else_assoc (Some x) b c = refl

unwrap_else : {X : Type 0} (a b : Option X) (x : X) → unwrap_or (or_else a b) x ≡ unwrap_or a (unwrap_or b x)
unwrap_else None b x = refl
unwrap_else (Some a) b x = refl

pub never : IsTrue false → ⊥
never told = cc (told)

pair_is : {A B : Type 0} {a c : A} {b d : B} → a ≡ c → b ≡ d → ◌≡◌ {A = A × B} (a, b) (c, d)
pair_is e h = λ i. (e i, h i)

module _ {F : Type 0} where
  -- what is said by items and one more: what that says, or else what the items do
  pub named-push : (items : List (Item F)) (x : Item F) (key : Key) → named (items ++ x ∷ []) key ≡ or_else (said_by x key) (named items key)
  named-push [] x key = last (said_by x key)
    where
      last : (o : Option (Option F × Bool)) → or_else None o ≡ or_else o None
      last None = refl
      last (Some e) = refl
  named-push (y ∷ items) x key = ap (λ o. or_else o (said_by y key)) (named-push items x key) ∙ else_assoc (said_by x key) (named items key) (said_by y key)

  pub same_here : (core : CoreData F) → IsSameProblem core core
  same_here core = record { program = refl; graph = refl; roots = refl }

  pub same_after : (a b c : CoreData F) → IsSameProblem a b → IsSameProblem b c → IsSameProblem a c
  same_after a b c first next = record { program = next.program ∙ first.program; graph = next.graph ∙ first.graph; roots = next.roots ∙ first.roots }

  pub sets_none : (core : CoreData F) → SetsItems core core []
  sets_none core = record { same = same_here core; entries = λ key. refl }

  pub sets_one : (old mid new : CoreData F) (items : List (Item F)) (x : Item F) → SetsItems old mid items → IsSameProblem mid new
      → Sets mid.table new.table x.0 x.1 → ((q : Key) → is_pending new.pile q ≡ cond (same_key x.0 q) x.2 (is_pending mid.pile q))
      → SetsItems old new (items ++ x ∷ [])
  sets_one old mid new items x before same sets pending = record {
    same = same_after old mid new before.same same;
    entries = λ key.
        both key
        ∙ ap (unwrap_or (said_by x key)) (before.entries key)
        ∙ sym (unwrap_else (said_by x key) (named items key) (entry_in old key))
        ∙ ap (λ o. unwrap_or o (entry_in old key)) (sym (named-push items x key));
  }
    where
      by : (b : Bool) (f : Option F) (p : Bool) → ◌≡◌ {A = Option F × Bool} (cond b (Some x.1) f, cond b x.2 p) (unwrap_or (cond b (Some (Some x.1, x.2)) None) (f, p))
      by true f p = refl
      by false f p = refl

      both : (key : Key) → entry_in new key ≡ unwrap_or (said_by x key) (entry_in mid key)
      both key = pair_is (sets.entries key) (pending key) ∙ by (same_key x.0 key) (found mid.table key) (is_pending mid.pile key)

  pub sets_unchanged : (old mid new : CoreData F) (items : List (Item F)) → SetsItems old mid items → IsUnchanged mid new → SetsItems old new items
  sets_unchanged old mid new items before stays = record {
    same = same_after old mid new before.same (record { program = stays.program; graph = stays.graph; roots = stays.roots });
    entries = λ key. entries key ∙ before.entries key;
  }
    where
      entries : (key : Key) → entry_in new key ≡ entry_in mid key
      entries key = λ i. (found (stays.table i) key, list_any (same_key key) (stays.pending i))

  -- the first items and the next one
  pub sets_next : (old new : CoreData F) (items : List (Item F)) (i : ℕ) (x : Item F) → i < length items → x ≡ get_or items i x
      → SetsItems old new (take i items ++ x ∷ []) → SetsItems old new (take (i + 1) items)
  sets_next old new items i x within is sets =
      subst (SetsItems old new) (sym (take_more items i x within ∙ ap (λ (y : Item F). take i items ++ y ∷ []) (sym is))) sets

  pub sets_front : (old new : CoreData F) (items : List (Item F)) (i : ℕ) → SetsItems old new (take i items) → SetsFront old new items
  sets_front old new items i sets = record { kept = take i items; rest = drop i items; parts = sym (take-append-drop i items); sets = sets }

module _ {F : Type 0} where
  -- the core may have the keys of the first items, and that of the next one
  pub may_have_next : (core : CoreData F) (items : List (Item F)) (i : ℕ) (x : Item F) → i < length items → x ≡ get_or items i x
      → MayHaveAll core (take i items) → IsSomeAnd core.graph (λ graph. IsKeyOf graph x.0) → MayHaveAll core (take (i + 1) items)
  may_have_next core items i x within is before here =
      subst (MayHaveAll core) (sym (take_more items i x within ∙ ap (λ (y : Item F). take i items ++ y ∷ []) (sym is)))
      (All-push (λ item. IsSomeAnd core.graph (λ graph. IsKeyOf graph item.0)) (take i items) x before here)

  -- and that of each of them
  pub may_have_here : (core : CoreData F) (items : List (Item F)) (i : ℕ) (x : Item F) → i < length items → x ≡ get_or items i x
      → MayHaveAll core items → IsSomeAnd core.graph (λ graph. IsKeyOf graph x.0)
  may_have_here core items i x within is all =
      subst (λ (item : Item F). IsSomeAnd core.graph (λ graph. IsKeyOf graph item.0)) (sym is) (all i x within)
