-- What contracts say of the slots' marks: which slots are pending, and which of these a hand has claimed.
use Rattle.std.specs.Prelude.{◌≡◌, ℕ, ◌+◌, ◌-◌, ◌≤◌, ◌^◌, Bool, true, false, List, Some, length, nat_eq, slice_get, if◌then◌else◌}
use Rattle.std.specs.List.{count_by, slice_index_or, sum_by}
use Rattle.ide_image.specs.declared.mark.Mark.{Mark}
use Rattle.ide_image.specs.declared.mark.Mark.TheVariants.{Settled, Left, Waiting, Held, HeldLeft}

-- the marks of slots, in the order of these, and for how many more pending slots there is room
pub record SlotMarks : Type 0 where
  pub list : List Mark
  pub spare : ℕ

-- the mark of a slot: one that has none is settled
abbrev pub mark_in : List Mark → ℕ → Mark
mark_in marks n = slice_index_or marks n Settled

-- whether a slot with the mark is pending
abbrev pub is_pending_mark : Mark → Bool
is_pending_mark Settled = false
is_pending_mark Left = false
is_pending_mark Waiting = true
is_pending_mark Held = true
is_pending_mark HeldLeft = true

-- whether a hand has claimed it
abbrev pub is_held : Mark → Bool
is_held Settled = false
is_held Left = false
is_held Waiting = false
is_held Held = true
is_held HeldLeft = true

-- whether it is pending, and no hand has claimed it
abbrev pub is_waiting_mark : Mark → Bool
is_waiting_mark Settled = false
is_waiting_mark Left = false
is_waiting_mark Waiting = true
is_waiting_mark Held = false
is_waiting_mark HeldLeft = false

-- whether it is on the stack
abbrev pub is_stacked : Mark → Bool
is_stacked Settled = false
is_stacked Left = true
is_stacked Waiting = true
is_stacked Held = false
is_stacked HeldLeft = true

-- whether a hand has claimed it, and a release puts it back on the stack
abbrev pub is_owed : Mark → Bool
is_owed Settled = false
is_owed Left = false
is_owed Waiting = false
is_owed Held = true
is_owed HeldLeft = false

-- how many pending slots a mark makes
abbrev pub one_if : Bool → ℕ
one_if b = if b then 1 else 0

-- whether the slot is pending
abbrev pub pending_at : List Mark → ℕ → Bool
pending_at marks n = is_pending_mark (mark_in marks n)

-- whether a hand has claimed it
abbrev pub held_at : List Mark → ℕ → Bool
held_at marks n = is_held (mark_in marks n)

-- whether it is pending, and no hand has claimed it
abbrev pub waiting_at : List Mark → ℕ → Bool
waiting_at marks n = is_waiting_mark (mark_in marks n)

-- whether it is on the stack
abbrev pub stacked_at : List Mark → ℕ → Bool
stacked_at marks n = is_stacked (mark_in marks n)

-- how many slots are pending
abbrev pub pending_count : List Mark → ℕ
pending_count marks = sum_by (λ m. one_if (is_pending_mark m)) marks

-- how many a release puts back on the stack
abbrev pub owed_count : List Mark → ℕ
owed_count marks = sum_by (λ m. one_if (is_owed m)) marks

-- the slot is such now, or is not, and each other one is as it was
abbrev pub SetsMark : ℕ → Bool → (old new : ℕ → Bool) → Type 0
SetsMark slot b old new = (n : ℕ) → new n ≡ (if nat_eq slot n then b else old n)

-- it is pending now, or is not
abbrev pub SetsPendingSlot : ℕ → Bool → (old new : List Mark) → Type 0
SetsPendingSlot slot b old new = SetsMark slot b (pending_at old) (pending_at new)

-- the second slot is pending in the place of the first, and each other one is as it was
abbrev pub MovesOn : (from to : ℕ) → (old new : List Mark) → Type 0
MovesOn from to old new = SetsMark to true (λ n. if nat_eq from n then false else pending_at old n) (pending_at new)

-- a hand has claimed it now, or has not
abbrev pub SetsHeldSlot : ℕ → Bool → (old new : List Mark) → Type 0
SetsHeldSlot slot b old new = SetsMark slot b (held_at old) (held_at new)

-- each slot is as it was
abbrev pub SameMarks : (old new : ℕ → Bool) → Type 0
SameMarks old new = (n : ℕ) → new n ≡ old n

-- a hand has claimed the slot now, or has given it back: what is pending stays, and so does the room for more
pub record MarksHeld (slot : ℕ) (is : Bool) (old new : SlotMarks) : Type 0 where
  pub pending : SameMarks (pending_at old.list) (pending_at new.list)
  pub held : SetsHeldSlot slot is old.list new.list
  pub count : pending_count new.list ≡ pending_count old.list
  pub covered : length new.list ≡ length old.list
  pub room : old.spare ≤ new.spare

-- one slot more is pending, unless this one was
abbrev pub CountsPushed : ℕ → (old new : List Mark) → Type 0
CountsPushed slot old new = pending_count new + one_if (pending_at old slot) ≡ pending_count old + 1

-- one slot fewer is pending, if this one was
abbrev pub CountsSettled : ℕ → (old new : List Mark) → Type 0
CountsSettled slot old new = pending_count new + one_if (pending_at old slot) ≡ pending_count old

-- a release puts one slot fewer back, if it would this one
abbrev pub CountsReturned : ℕ → (old new : List Mark) → Type 0
CountsReturned slot old new = owed_count new + one_if (is_owed (mark_in old slot)) ≡ owed_count old

-- each sum over the marks to which settled slots add nothing is as it was
abbrev pub SameSums : (old new : List Mark) → Type 0
SameSums old new = (f : Mark → ℕ) → f Settled ≡ 0 → sum_by f new ≡ sum_by f old

-- the marks are others, but each slot is pending or not, and claimed or not, as it was
pub record KeepsMarks (old new : List Mark) : Type 0 where
  pub pending : SameMarks (pending_at old) (pending_at new)
  pub held : SameMarks (held_at old) (held_at new)
  pub count : pending_count new ≡ pending_count old
  pub covered : length new ≡ length old

-- each slot whose mark says so is on the stack once, and no other one is
abbrev pub AreStacked : List Mark → List ℕ → Type 0
AreStacked marks stack = (n : ℕ) → count_by (λ slot. nat_eq slot n) stack ≡ one_if (stacked_at marks n)

-- the slot on top of the stack, if there is one, waits
abbrev pub TopWaits : List Mark → List ℕ → Type 0
TopWaits marks stack = (slot : ℕ) → slice_get stack (length stack - 1) ≡ Some slot → waiting_at marks slot ≡ true

-- marks and stack agree, and so many slots are claimed and not on it
pub record IsStack (marks : List Mark) (stack : List ℕ) (held : ℕ) : Type 0 where
  pub stacked : AreStacked marks stack
  pub owed : owed_count marks ≡ held
  pub few : length marks ≤ 2 ^ 32

-- what holds of the fields: marks and stack agree, the top waits, the count is that of the marks, and there is room to put
-- each slot that a hand has claimed back on the stack
pub record IsQueue (marks : List Mark) (stack : List ℕ) (capacity held pending : ℕ) : Type 0 where
  pub agrees : IsStack marks stack held
  pub top : TopWaits marks stack
  pub counted : pending_count marks ≡ pending
  pub room : length stack + held ≤ capacity
