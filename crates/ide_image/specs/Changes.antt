-- Notes of what changed, each the key with the entry that it had, as the code keeps them: most keys had none.
use Rattle.std.specs.Prelude.{◌≡◌, ℕ, zero, suc, ◌-◌, ◌≤◌, List, None, false, length, map, min, slice_get, unwrap_or, vec_capacity, vec_len}
use Rattle.std.specs.Global.{Vec}
use Rattle.std.specs.List.{All}
use Rattle.ide_wire.specs.declared.key.Key.{Key}
use Rattle.ide_image.specs.declared.entry.Entry.{Entry}

-- the notes, in the order of the first changes, and for how many more there is room
pub record Changes (F : Type 0) : Type 0 where
  pub items : List (Key × Entry F)
  pub room : ℕ

-- for how many keys more there is room, each with an entry, of which there are 4,294,967,295 at most
abbrev pub notes_room : {X Y : Type 0} → Vec X → Vec Y → ℕ
notes_room keys entries = min (vec_capacity keys - vec_len keys) (min (vec_capacity entries - vec_len entries) (4294967295 - vec_len entries))

module _ {F : Type 0} where
  -- the entry of an absent key
  abbrev pub absent_entry : Entry F
  absent_entry = record { function = None; pending = false }

  -- the entry under a code: under 0 that of an absent key, under each other number the entry at one place less
  abbrev pub entry_under : List (Entry F) → ℕ → Entry F
  entry_under entries zero = absent_entry
  entry_under entries (suc n) = unwrap_or (slice_get entries n) absent_entry

  -- the keys, each with the entry under its code
  abbrev pub notes_by : List (Key × ℕ) → List (Entry F) → List (Key × Entry F)
  notes_by keys entries = map (λ k. (k.0, entry_under entries k.1)) keys

  -- there is an entry under each code
  abbrev pub AreCodes : List (Key × ℕ) → List (Entry F) → Type 0
  AreCodes keys entries = All (λ (k : Key × ℕ). k.1 ≤ length entries) keys

  -- each code has the entry that it had, and there is one under it
  abbrev pub KeepsCodes : (old new : List (Entry F)) → Type 0
  KeepsCodes old new = (code : ℕ) → code ≤ length old → (entry_under new code ≡ entry_under old code) × (code ≤ length new)
