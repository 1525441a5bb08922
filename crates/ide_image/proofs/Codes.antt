-- Notes of what changed, of which one more is kept.
use Rattle.std.proofs.Common.{◌≡◌, ℕ, ◌≤◌, ◌++◌, refl, ap, ◌∙◌, List, [], ◌∷◌, length}
use Rattle.std.proofs.lemmas.List.{map-append}
use Rattle.std.proofs.lemmas.List.Elements.{All-head, All-tail}
use Rattle.ide_wire.specs.declared.key.Key.{Key}
use Rattle.ide_image.specs.declared.entry.Entry.{Entry}
use Rattle.ide_image.specs.Changes.{AreCodes, KeepsCodes, entry_under, notes_by}

module _ {F : Type 0} (old new : List (Entry F)) (keeps : KeepsCodes old new) where
  -- keys whose codes had an entry have it still
  notes-kept : (keys : List (Key × ℕ)) → AreCodes keys old → notes_by keys new ≡ notes_by keys old
  notes-kept [] codes = refl
  notes-kept (k ∷ ks) codes =
      let here = (keeps k.1 (All-head (λ (k : Key × ℕ). k.1 ≤ length old) k ks codes)).0 in
      let rest = notes-kept ks (All-tail (λ (k : Key × ℕ). k.1 ≤ length old) k ks codes) in
      ap (λ entry. (k.0, entry) ∷ notes_by ks new) here ∙ ap (λ notes. (k.0, entry_under old k.1) ∷ notes) rest

  -- one key more with its code is one note more
  pub note-more : (keys : List (Key × ℕ)) (key : Key) (code : ℕ) (before : Entry F) → AreCodes keys old → entry_under new code ≡ before
      → notes_by (keys ++ (key, code) ∷ []) new ≡ notes_by keys old ++ (key, before) ∷ []
  note-more keys key code before codes is =
      map-append (λ (k : Key × ℕ). (k.0, entry_under new k.1)) keys ((key, code) ∷ [])
      ∙ ap (λ notes. notes ++ (key, entry_under new code) ∷ []) (notes-kept keys codes)
      ∙ ap (λ entry. notes_by keys old ++ (key, entry) ∷ []) is
