-- What contracts say of an image at each key: its table, its pending keys with the claims, and the notes of what changed.
use Rattle.std.specs.Prelude.{◌≡◌, ℕ, zero, suc, ◌+◌, ◌≤◌, ◌||◌, Bool, true, false, List, [], ◌∷◌, Option, Some, None, length, unwrap_or, if◌then◌else◌}
use Rattle.std.specs.List.{IsDistinct, list_any}
use Rattle.std.specs.Map.{keys_of}
use Rattle.std.specs.Option.{is_some}
use Rattle.ide_image.specs.Tables.{Table}
use Rattle.ide_wire.specs.Key.{same_key}
use Rattle.ide_wire.specs.declared.key.Key.{Key}
use Rattle.ide_image.specs.Worklist.{AreHeld, Pile, claim_in, is_claim_of, is_pending}
use Rattle.ide_image.specs.declared.claim.Claim.{Claim}
use Rattle.ide_image.specs.ChangeLog.{AreSlotsOf, ChangeLog, MayNote, noted_at}
use Rattle.ide_image.specs.Indexed.{HasDistinctKeys, Indexed, Widens, function_of, place_of_key, table_of}
use Rattle.ide_image.specs.Notes.{NotesAll, entry_at, noted, with_note}
use Rattle.ide_image.specs.Queue.{SlotMarks, SameMarks, SetsMark, held_at, one_if, pending_at, pending_count}
use Rattle.ide_image.specs.declared.entry.Entry.{Entry}

-- the tables; the pending keys with the claims; and, if somebody asked for changes, for each key that changed since, the entry
-- that it had then
pub record KeyedImageData (F T : Type 0) : Type 0 where
  pub table : Table F
  pub pile : Pile T
  pub changes : Option (List (Key × Entry F))

-- the key's entry, as it stands
abbrev pub entry_now : {F T : Type 0} → KeyedImageData F T → Key → Entry F
entry_now image key = entry_at image.table image.pile key

-- these keys are pending beside those that were
abbrev pub AddsKeys : List Key → (old new : Key → Bool) → Type 0
AddsKeys keys old new = (q : Key) → new q ≡ (list_any (same_key q) keys || old q)

-- one key more is pending, unless this one was
abbrev pub CountsPending : {T : Type 0} → Key → (old new : Pile T) → Type 0
CountsPending key old new = length new.pending ≡ length old.pending + (if is_pending old key then 0 else 1)

-- the claim, marked as lowered if its key is one of these
abbrev pub marked_all : {T : Type 0} → List Key → Option (Claim T) → Option (Claim T)
marked_all keys None = None
marked_all keys (Some claim) = Some (record claim { lowered = list_any (same_key claim.key) keys || claim.lowered })

-- the same of a list of claims
abbrev pub MarksAllIn : {F T : Type 0} → List (Key × F) → (old new : List (Option (Claim T))) → Type 0
MarksAllIn list old new = (h : ℕ) → claim_in new h ≡ marked_all (keys_of list) (claim_in old h)

-- what holds of the slot at a place: nothing at place 0, which is of no slot
abbrev pub marked_at : (ℕ → Bool) → ℕ → Bool
marked_at mark zero = false
marked_at mark (suc n) = mark n

-- the slot at the place is such now, or is not, and each other one is as it was
abbrev pub SetsAt : ℕ → Bool → (old new : ℕ → Bool) → Type 0
SetsAt place b old new = (slot : ℕ) → slot + 1 ≡ place → SetsMark slot b old new

-- the keys of the cells whose slots are such
abbrev pub keys_where : {F : Type 0} → (ℕ → Bool) → List (Key × F) → List Key
keys_where mark [] = []
keys_where mark (e ∷ es) = if mark 0 then e.0 ∷ keys_where (λ n. mark (suc n)) es else keys_where (λ n. mark (suc n)) es

-- no slot behind the first ones is such
abbrev pub Covers : ℕ → (ℕ → Bool) → Type 0
Covers count mark = (n : ℕ) → count ≤ n → mark n ≡ false

module _ {F : Type 0} where
  -- whether the key is pending, by its slot
  abbrev pub pending_by_slot : Indexed F → SlotMarks → Key → Bool
  pending_by_slot indexed marks key = marked_at (pending_at marks.list) (place_of_key indexed key)

  -- whether a hand has claimed it, by its slot
  abbrev pub held_by_slot : Indexed F → SlotMarks → Key → Bool
  held_by_slot indexed marks key = marked_at (held_at marks.list) (place_of_key indexed key)

  -- the key's entry, by its slot
  abbrev pub entry_by : Indexed F → SlotMarks → Key → Entry F
  entry_by indexed marks key = record { function = function_of indexed.cells key; pending = pending_by_slot indexed marks key }

  -- the key is pending beside those that were, each by its slot
  abbrev pub AddsBySlot : Key → (indexed after : Indexed F) → (marks marks_after : SlotMarks) → Type 0
  AddsBySlot key indexed after marks marks_after =
      (q : Key) → pending_by_slot after marks_after q ≡ (same_key key q || pending_by_slot indexed marks q)

  -- the keys of the list are pending beside those that were, each by its slot
  abbrev pub AddsAllBySlot : List (Key × F) → (indexed after : Indexed F) → (marks marks_after : SlotMarks) → Type 0
  AddsAllBySlot list indexed after marks marks_after =
      AddsKeys (keys_of list) (pending_by_slot indexed marks) (pending_by_slot after marks_after)

  -- one key more is pending, unless this one was, by its slot
  abbrev pub CountsBySlot : Indexed F → Key → (marks marks_after : SlotMarks) → Type 0
  CountsBySlot indexed key marks marks_after =
      pending_count marks_after.list + one_if (pending_by_slot indexed marks key) ≡ pending_count marks.list + 1

  -- the key's slot is pending no longer, and each other one is as it was
  abbrev pub SettlesKey : Indexed F → Key → (old new : SlotMarks) → Type 0
  SettlesKey indexed key old new = SetsAt (place_of_key indexed key) false (pending_at old.list) (pending_at new.list)

  -- no hand has claimed the key's slot, and each other one is as it was
  abbrev pub FreesKey : Indexed F → Key → (old new : SlotMarks) → Type 0
  FreesKey indexed key old new = SetsAt (place_of_key indexed key) false (held_at old.list) (held_at new.list)

  -- the key's slot is marked as noted, where changes are noted, and each other one is as it was
  abbrev pub MarksKey : Indexed F → Key → (old new : ChangeLog F) → Type 0
  MarksKey indexed key old new = SetsAt (place_of_key indexed key) (is_some old.list) (noted_at old) (noted_at new)

  -- the key's slot is marked as noted exactly where the key is
  abbrev pub IsListed : Indexed F → ChangeLog F → Key → Type 0
  IsListed indexed changes key = marked_at (noted_at changes) (place_of_key indexed key) ≡ is_some (noted changes.list key)

  -- the key is noted with its entry of before, by its slot, if changes are noted and it is not yet
  abbrev pub NotesBySlot : Indexed F → SlotMarks → Key → (old new : ChangeLog F) → Type 0
  NotesBySlot indexed marks key old new = new.list ≡ with_note old.list key (entry_by indexed marks key)

  -- each key of the list is noted so
  abbrev pub NotesAllBySlot : Indexed F → SlotMarks → List (Key × F) → (old new : ChangeLog F) → Type 0
  NotesAllBySlot indexed marks list old new = NotesAll old.list new.list (keys_of list) (entry_by indexed marks)

  -- there is room for so many keys more, that are pending, and for so many notes
  pub record HasRoomFor (count noted : ℕ) (indexed : Indexed F) (marks : SlotMarks) (changes : ChangeLog F) : Type 0 where
    pub functions : count ≤ indexed.room
    pub marked : length indexed.cells ≤ length marks.list
    pub stacked : count ≤ marks.spare
    pub notes : MayNote noted (length indexed.cells) changes

  -- the room that is used is that of one key at most
  abbrev pub UsesRoom : (indexed after : Indexed F) → (marks marks_after : SlotMarks) → (changes changes_after : ChangeLog F) → Type 0
  UsesRoom indexed after marks marks_after changes changes_after =
      (n : ℕ) → HasRoomFor (n + 1) (n + 1) indexed marks changes → HasRoomFor n n after marks_after changes_after

  -- the parts make the same image: there may be more cells, of keys that have no function
  pub record SameParts (indexed after : Indexed F) (marks marks_after : SlotMarks) (changes changes_after : ChangeLog F) : Type 0 where
    pub cells : Widens indexed after
    pub distinct : HasDistinctKeys indexed → HasDistinctKeys after
    pub pending : SameMarks (pending_at marks.list) (pending_at marks_after.list)
    pub held : SameMarks (held_at marks.list) (held_at marks_after.list)
    pub list : changes_after.list ≡ changes.list
    pub slots : changes_after.slots ≡ changes.slots
    pub noted : SameMarks (noted_at changes) (noted_at changes_after)

  -- they make it over the same cells
  abbrev pub SameOver : Indexed F → (marks marks_after : SlotMarks) → (changes changes_after : ChangeLog F) → Type 0
  SameOver indexed marks marks_after changes changes_after = SameParts indexed indexed marks marks_after changes changes_after

module _ {F T : Type 0} where
  -- the image that the parts make
  abbrev pub image_by : Indexed F → SlotMarks → List (Option (Claim T)) → ChangeLog F → KeyedImageData F T
  image_by indexed marks claims changes = record {
    table = table_of indexed.cells;
    pile = record { pending = keys_where (pending_at marks.list) indexed.cells; claims = claims };
    changes = changes.list;
  }

  -- the parts agree: slots behind the last cell have no marks, those that are pending have a function, those that are marked as claimed are those of claims, each claim is of
  -- a pending key and no two are of one key, the marks of noted slots are those of the notes, which have each key
  -- once, and each note has its key's slot
  pub record AreParts (indexed : Indexed F) (marks : SlotMarks) (claims : List (Option (Claim T))) (changes : ChangeLog F) : Type 0 where
    pub distinct : IsDistinct same_key (keys_of indexed.cells)
    pub covered : Covers (length indexed.cells) (pending_at marks.list)
    pub unnoted : Covers (length indexed.cells) (noted_at changes)
    pub present : (key : Key) → pending_by_slot indexed marks key ≡ true → is_some (function_of indexed.cells key) ≡ true
    pub taken : (key : Key) → held_by_slot indexed marks key ≡ true → (h : ℕ) × (is_claim_of key (claim_in claims h) ≡ true)
    pub marked : (h : ℕ) (key : Key) → is_claim_of key (claim_in claims h) ≡ true → held_by_slot indexed marks key ≡ true
    pub held : AreHeld (pending_by_slot indexed marks) (λ h. claim_in claims h)
    pub listed : (key : Key) → marked_at (noted_at changes) (place_of_key indexed key) ≡ is_some (noted changes.list key)
    pub once : IsDistinct same_key (keys_of (unwrap_or changes.list []))
    pub slotted : AreSlotsOf (place_of_key indexed) changes
