-- Notes of what changed: the entry that each changed key had when changes were last asked for.
use Rattle.std.specs.Prelude.{◌≡◌, ℕ, ◌++◌, Bool, List, [], ◌∷◌, Option, Some, None, if◌then◌else◌, length}
use Rattle.std.specs.List.{list_any}
use Rattle.std.specs.Map.{lookup}
use Rattle.std.specs.Option.{is_some}
use Rattle.ide_image.specs.Tables.{Table, found}
use Rattle.ide_wire.specs.Key.{same_key}
use Rattle.ide_wire.specs.declared.key.Key.{Key}
use Rattle.ide_image.specs.Worklist.{Pile, is_pending}
use Rattle.ide_image.specs.declared.claim.Claim.{Claim}
use Rattle.ide_image.specs.declared.entry.Entry.{Entry}

-- the first value, or else the second
abbrev pub or_entry : {X : Type 0} → Option X → Option X → Option X
or_entry None other = other
or_entry (Some x) other = Some x

-- the key that the end of the claim takes out of the pending ones
abbrev pub ended_key : {T : Type 0} → Option (Claim T) → Option Key
ended_key None = None
ended_key (Some claim) = if claim.lowered then None else Some claim.key

module _ {F : Type 0} where
  -- what tables and pending keys have at the key
  abbrev pub entry_at : {T : Type 0} → Table F → Pile T → Key → Entry F
  entry_at table pile key = record { function = found table key; pending = is_pending pile key }

  -- the entry that is noted for the key
  abbrev pub noted : Option (List (Key × Entry F)) → Key → Option (Entry F)
  noted None key = None
  noted (Some list) key = lookup (same_key key) list

  -- how many keys are noted
  abbrev pub noted_count : Option (List (Key × Entry F)) → ℕ
  noted_count None = 0
  noted_count (Some list) = length list

  -- the entry noted last for the key, if changes are noted and the key is not yet
  abbrev pub with_note : Option (List (Key × Entry F)) → Key → Entry F → Option (List (Key × Entry F))
  with_note None key entry = None
  with_note (Some list) key entry = Some (if is_some (lookup (same_key key) list) then list else list ++ (key, entry) ∷ [])

  -- the same for the key that changes, if one does
  abbrev pub with_change : Option (List (Key × Entry F)) → Option Key → (Key → Entry F) → Option (List (Key × Entry F))
  with_change notes None entry = notes
  with_change notes (Some key) entry = with_note notes key (entry key)

  -- what is noted for a key, where some keys were noted later with the entries that they had
  abbrev pub noted_after : Option (List (Key × Entry F)) → Bool → Entry F → Key → Option (Entry F)
  noted_after None later entry key = None
  noted_after (Some list) later entry key = or_entry (lookup (same_key key) list) (if later then Some entry else None)

  -- each of these keys is noted with its entry of before, if changes are noted and it is not yet
  abbrev pub NotesAll : (old new : Option (List (Key × Entry F))) → List Key → (Key → Entry F) → Type 0
  NotesAll old new keys entry = (q : Key) → noted new q ≡ noted_after old (list_any (same_key q) keys) (entry q) q
