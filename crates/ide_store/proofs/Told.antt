-- Of each key the changed items of a core say what is so now, where that is new.
use Rattle.std.proofs.Common.{◌≡◌, ◌≢◌, ◌∙◌, ◌⊎◌, Bool, true, false, cond, List, [], ◌∷◌, Option, Some, None, refl, ap, sym, subst, inl, inr, true≢false}
use Rattle.ide_batch.specs.Fold.{SaysChange, named, or_else, said_by}
use Rattle.ide_batch.specs.Items.{Item}
use Rattle.ide_steps.specs.Changed.{standing_entry, entry_then}
use Rattle.ide_steps.specs.Core.{CoreData}
use Rattle.ide_steps.specs.Items.{AreChangedItems}
use Rattle.ide_image.specs.declared.entry.Entry.{Entry as Noted}
use Rattle.ide_image.specs.Tables.{found}
use Rattle.ide_theory.proofs.Laws.Changes.{none-some, some-inj}
use Rattle.ide_theory.specs.Images.{IsSame}
use Rattle.ide_theory.specs.Member.{IsIn, first, later}
use Rattle.ide_theory.specs.Members.{contains-in, first-or, in-contains, not-in-empty}
use Rattle.ide_wire.specs.Key.{same_key, same_key_exact, same_key_refl}
use Rattle.ide_wire.specs.declared.key.Key.{Key}
use Rattle.ide_image.specs.Worklist.{is_pending}
use Rattle.ide_store.specs.Table.{told}

-- ---- what items say of a key
module _ {F : Type 0} where
  -- what items say of a key, one of them says
  said_of : (x : Item F) (items : List (Item F)) (key : Key) (e : Option F × Bool) → said_by x key ≡ Some e
      → (f : F) × (waits : Bool) × (e ≡ (Some f, waits)) × IsIn (key, f, waits) (x ∷ items)
  said_of x items key e = by (same_key x.0 key) refl
    where
      by : (b : Bool) → same_key x.0 key ≡ b → cond b (Some (Some x.1, x.2)) None ≡ Some e
          → (f : F) × (waits : Bool) × (e ≡ (Some f, waits)) × IsIn (key, f, waits) (x ∷ items)
      by true here is = (x.1, x.2, sym (some-inj is), subst (λ (k : Key). IsIn (k, x.1, x.2) (x ∷ items)) (same_key_exact x.0 key here) first)
      by false other is = absurd (none-some is)

  -- and so it is of all of them
  named_some : (items : List (Item F)) (key : Key) (e : Option F × Bool) → named items key ≡ Some e
      → (f : F) × (waits : Bool) × (e ≡ (Some f, waits)) × IsIn (key, f, waits) items
  named_some [] key e is = absurd (none-some is)
  named_some (x ∷ items) key e is = by (named items key) refl is (named_some items key e)
    where
      by : (o : Option (Option F × Bool)) → named items key ≡ o → or_else o (said_by x key) ≡ Some e
          → (named items key ≡ Some e → (f : F) × (waits : Bool) × (e ≡ (Some f, waits)) × IsIn (key, f, waits) items)
          → (f : F) × (waits : Bool) × (e ≡ (Some f, waits)) × IsIn (key, f, waits) (x ∷ items)
      by None none is rest = said_of x items key e is
      by (Some entry) some is rest = let found = rest (some ∙ is) in (found.0, found.1, found.2, later found.3)

  -- and of a key that one of them has they say something
  named_none : (items : List (Item F)) (key : Key) (f : F) (waits : Bool) → IsIn (key, f, waits) items → named items key ≡ None → ⊥
  named_none [] key f waits among none = not-in-empty among
  named_none (x ∷ items) key f waits among none = elim (first-or among) [
    | inl here ↦ by (named items key) (said_by x key) (said here) none
    | inr rest ↦ named_none items key f waits rest (front (named items key) (said_by x key) none)
  ]
    where
      said : (key, f, waits) ≡ x → said_by x key ≡ Some (Some x.1, x.2)
      said here =
          ap (λ b. cond b (Some (Some x.1, x.2)) None) (ap (λ k. same_key k key) (sym (ap (λ (item : Item F). item.0) here)) ∙ same_key_refl key)

      by : (o p : Option (Option F × Bool)) → p ≡ Some (Some x.1, x.2) → or_else o p ≡ None → ⊥
      by None p some none = none-some (sym none ∙ some)
      by (Some entry) p some none = none-some (sym none)

      front : (o p : Option (Option F × Bool)) → or_else o p ≡ None → o ≡ None
      front None p none = refl
      front (Some entry) p none = absurd (none-some (sym none))

-- ---- entries are the same or not
same_bits : (b c : Bool) → (b ≡ c) ⊎ (b ≢ c)
same_bits true true = inl refl
same_bits true false = inr true≢false
same_bits false true = inr (λ same. true≢false (sym same))
same_bits false false = inl refl

module _ {F : Type 0} (same : F → F → Bool) (is_same : IsSame same) where
  -- the test tells functions apart
  same_functions : (f g : F) → (f ≡ g) ⊎ (f ≢ g)
  same_functions f g = by (same f g) refl
    where
      by : (b : Bool) → same f g ≡ b → (f ≡ g) ⊎ (f ≢ g)
      by true is = inl (is_same.exact f g is)
      by false other = inr (λ equal. true≢false (sym (is_same.refl f) ∙ ap (same f) equal ∙ other))

  -- so are functions that may be absent
  same_options : (o p : Option F) → (o ≡ p) ⊎ (o ≢ p)
  same_options None None = inl refl
  same_options None (Some g) = inr none-some
  same_options (Some f) None = inr (λ is. none-some (sym is))
  same_options (Some f) (Some g) = elim (same_functions f g) [ inl is ↦ inl (ap (λ h. Some h) is) | inr other ↦ inr (λ is. other (some-inj is)) ]

  -- and entries
  same_notes : (x y : Noted F) → (x ≡ y) ⊎ (x ≢ y)
  same_notes x y = elim (same_options x.function y.function) [
    | inl functions ↦ elim (same_bits x.pending y.pending) [
      | inl bits ↦ inl (λ i. record { function = functions i; pending = bits i })
      | inr other ↦ inr (λ is. other (ap (λ (note : Noted F). note.pending) is))
    ]
    | inr other ↦ inr (λ is. other (ap (λ (note : Noted F). note.function) is))
  ]

  -- of each key the changed items say what is so now, where that is new
  pub says_change : (core : CoreData F) (items : List (Item F)) (key : Key) → AreChangedItems core items
      → (found core.table key ≡ None → told (entry_then core key) ≡ told (standing_entry core key))
      → SaysChange (named items key) (told (entry_then core key)) (told (standing_entry core key))
  says_change core items key changed absent = by (named items key) refl
    where
      by : (o : Option (Option F × Bool)) → named items key ≡ o → SaysChange o (told (entry_then core key)) (told (standing_entry core key))
      by (Some e) is =
          let there = named_some items key e is in
          let exact = (changed.exact key there.0 there.1).0 (contains-in there.3) in (
            there.2 ∙ (λ i. (sym exact.0 i, exact.1 i)),
            λ still. exact.2 (λ i. record { function = (sym still i).0; pending = (sym still i).1 }),
          )
      by None none = present (found core.table key) refl
        where
          present : (o : Option F) → found core.table key ≡ o → told (entry_then core key) ≡ told (standing_entry core key)
          present None is = absent is
          present (Some f) is = elim (same_notes (standing_entry core key) (entry_then core key)) [
            | inl same ↦ ap told (sym same)
            | inr other ↦ absurd (named_none items key f (is_pending core.pile key)
                (in-contains items _ ((changed.exact key f (is_pending core.pile key)).1 (is, refl, other))) none)
          ]
