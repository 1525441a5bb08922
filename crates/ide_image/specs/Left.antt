-- What is left of notes: the present keys that have another entry now than the noted one.
use Rattle.std.specs.Prelude.{◌||◌, not, Bool, true, false, List, [], Option, Some, None, if◌then◌else◌, unwrap_or}
use Rattle.std.specs.Bool.{beq}
use Rattle.std.specs.List.{filter_map}
use Rattle.std.specs.Option.{is_some}
use Rattle.ide_image.specs.Tables.{found}
use Rattle.ide_wire.specs.declared.key.Key.{Key}
use Rattle.ide_image.specs.Worklist.{is_pending}
use Rattle.ide_image.specs.Indexed.{Indexed, function_of}
use Rattle.ide_image.specs.KeyedImage.{KeyedImageData, pending_by_slot}
use Rattle.ide_image.specs.Queue.{SlotMarks}
use Rattle.ide_image.specs.declared.entry.Entry.{Entry}

module _ {F : Type 0} (same : F → F → Bool) where
  -- whether there is a function, and there was none or another one, or the key waits and did not, or the other way round
  abbrev pub is_left : (now before : Option F) → (waits waited : Bool) → Bool
  is_left None before waits waited = false
  is_left (Some f) None waits waited = true
  is_left (Some f) (Some g) waits waited = not (same f g) || not (beq waits waited)

  -- the key with the function that it has and whether it waits, if it has one and another entry than before
  abbrev pub left_of : Key → (now : Option F) → (waits : Bool) → (before : Entry F) → Option (Key × F × Bool)
  left_of key None waits before = None
  left_of key (Some f) waits before = if is_left (Some f) before.function waits before.pending then Some (key, f, waits) else None

  -- the same of a note
  abbrev pub left_item : {T : Type 0} → KeyedImageData F T → Key × Entry F → Option (Key × F × Bool)
  left_item image note = left_of note.0 (found image.table note.0) (is_pending image.pile note.0) note.1

  -- the same of a key, by its slot
  abbrev pub left_by_slot : Indexed F → SlotMarks → Key → (before : Entry F) → Option (Key × F × Bool)
  left_by_slot indexed marks key before = left_of key (function_of indexed.cells key) (pending_by_slot indexed marks key) before

  -- whether that is something
  abbrev pub is_left_by_slot : Indexed F → SlotMarks → Key → (before : Entry F) → Bool
  is_left_by_slot indexed marks key before = is_some (left_by_slot indexed marks key before)

  -- what is left, in the order of the notes
  abbrev pub left_items : {T : Type 0} → KeyedImageData F T → List (Key × F × Bool)
  left_items image = filter_map (left_item image) (unwrap_or image.changes [])
