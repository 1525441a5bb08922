-- Items of a batch: a key, its function, and whether it is pending; and how the first version of a store spells them.
use Rattle.std.specs.Prelude.{◌≡◌, ℕ, ◌≤◌, Bool, true, false, ◌&&◌, not, List, [], ◌∷◌, ◌++◌, length, map, IsTrue}
use Rattle.std.specs.List.Sorted.{IsStrictlySortedBy}
use Rattle.ide_wire.specs.Key.{key_form, is_proper_key}
use Rattle.ide_wire.specs.KeyOrder.{key_cmp}
use Rattle.ide_wire.specs.declared.key.Key.{Key}
use Rattle.ide_batch.specs.Forms.{all_proper, counted}

-- how functions are spelled: which are proper, the form of each, and which is always top
pub record Functions (F : Type 0) : Type 0 where
  pub proper : F → Bool
  pub form : F → List ℕ
  pub is_top : F → Bool

abbrev pub functions_by : {F : Type 0} → (F → Bool) → (F → List ℕ) → (F → F → Bool) → F → Functions F
functions_by proper form same top = record { proper = proper; form = form; is_top = λ f. same f top }

abbrev pub Item : Type 0 → Type 0
Item F = Key × F × Bool

-- 01 if the key is pending
abbrev pub mark : Bool → List ℕ
mark true = 1 ∷ []
mark false = 0 ∷ []

module _ {F : Type 0} (functions : Functions F) where
  -- what a key has: a function that is not always top, then the mark
  abbrev pub entry_form : F × Bool → List ℕ
  entry_form entry = functions.form entry.0 ++ mark entry.1

  abbrev pub is_proper_entry : F × Bool → Bool
  is_proper_entry entry = functions.proper entry.0 && not (functions.is_top entry.0)

  -- an item: the key, then what it has
  abbrev pub item_form : Item F → List ℕ
  item_form item = key_form item.0 ++ entry_form (item.1, item.2)

  abbrev pub is_proper_item : Item F → Bool
  is_proper_item item = is_proper_key item.0 && is_proper_entry (item.1, item.2)

  -- the items of a batch: 1 to 65,536, ascending by key, with numbers that fit and functions that are not always top
  pub record AreWritten (items : List (Item F)) : Type 0 where
    pub some : 1 ≤ length items
    pub few : length items ≤ 65536
    pub ascending : IsStrictlySortedBy key_cmp (map (λ item. item.0) items)
    pub proper : IsTrue (all_proper is_proper_item items)

  -- their body in the first version: the count, then each item
  pub record IsListBody (items : List (Item F)) (body : List ℕ) : Type 0 where
    pub written : AreWritten items
    pub is : body ≡ counted item_form items
