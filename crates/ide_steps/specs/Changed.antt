-- What changed since changes were last asked for: the entry that each key had then.
use Rattle.std.specs.Prelude.{◌≡◌, ℕ, ◌+◌, Bool, true, false, List, Option, Some, None, IsSome, if◌then◌else◌, slice_get, unwrap_or}
use Rattle.std.specs.Map.{lookup}
use Rattle.std.specs.Option.{is_some}
use Rattle.ide_tasks.specs.Work.{WorkData}
use Rattle.ide_wire.specs.Key.{same_key}
use Rattle.ide_wire.specs.declared.key.Key.{Key}
use Rattle.ide_image.specs.Notes.{entry_at, noted, noted_count, with_change}
use Rattle.ide_image.specs.declared.entry.Entry.{Entry}
use Rattle.ide_steps.specs.Core.{CoreData}

-- whether it is the key that changes, if one does
abbrev pub is_touched : Option Key → Key → Bool
is_touched None q = false
is_touched (Some key) q = same_key key q

module _ {F : Type 0} where
  -- the key's entry, as it stands
  abbrev pub standing_entry : CoreData F → Key → Entry F
  standing_entry core key = entry_at core.table core.pile key

  -- how many notes that makes: one, if changes are noted and the key that changes is not
  abbrev pub grows : Option (List (Key × Entry F)) → Option Key → ℕ
  grows notes None = 0
  grows None (Some key) = 0
  grows (Some list) (Some key) = if is_some (lookup (same_key key) list) then 0 else 1

  -- the entry that the key had when changes were last asked for: the noted one, or else the one that stands
  abbrev pub entry_then : CoreData F → Key → Entry F
  entry_then core key = unwrap_or (noted core.changes key) (standing_entry core key)

  -- where changes were noted, each key's entry of then is the listed one, or else the one that stands
  abbrev pub HandsOut : (old new : CoreData F) → List (Key × Entry F) → Type 0
  HandsOut old new list = IsSome old.changes → (key : Key) → entry_then old key ≡ unwrap_or (lookup (same_key key) list) (standing_entry new key)

  -- the entry of the key that changes, if one does, is noted, and no other
  pub record Notes (old new : CoreData F) (changed : Option Key) : Type 0 where
    pub changes : new.changes ≡ with_change old.changes changed (standing_entry old)
    pub count : noted_count new.changes ≡ noted_count old.changes + grows old.changes changed

  -- the entry of the key of the work's next part is noted, and no other
  abbrev pub NotesPart : WorkData F → (old new : CoreData F) → Type 0
  NotesPart work old new = (part : Key × F) → slice_get work.parts work.done ≡ Some part → Notes old new (Some part.0)

  -- changes are noted where they were, each noted key stays noted, and each key's entry of then is as it was
  pub record Remembers (old new : CoreData F) : Type 0 where
    pub noting : is_some new.changes ≡ is_some old.changes
    pub keeps : (key : Key) → is_some (noted old.changes key) ≡ true → is_some (noted new.changes key) ≡ true
    pub entries : is_some old.changes ≡ true → (key : Key) → entry_then new key ≡ entry_then old key
